use Rattle.std.proofs.Common.{Some}
use Rattle.std.specs.BTreeMap.{get}
use Rattle.std.specs.Ordering.{nat_cmp}
use Rattle.cert_checker.proofs.LeastLaws.{gets_value}
use Rattle.cert_checker.proofs.updates.adopt.Goals as goal

pub loop-child-preserved : goal.loop-child-preserved
loop-child-preserved c = λ q. gets_value c.args.children.now c.loop-child.child-index q (Some c.args.node) (get nat_cmp c.args.parents.now q) c.loop-child.parents c.insert.new.self c.loop-child-test.true (c.loop-child.invariant q) c.in_ok-insert.ensures.updates
