use Rattle.std.proofs.Common.{None}
use Rattle.std.specs.BTreeMap.{get}
use Rattle.std.specs.Ordering.{nat_cmp}
use Rattle.cert_checker.proofs.LeastLaws.{gets_value}
use Rattle.cert_checker.proofs.updates.remove_all.Goals as goal

pub loop-addr-preserved : goal.loop-addr-preserved
loop-addr-preserved g c = λ q. gets_value c.args.gone.now c.loop-addr.addr-index q None (get nat_cmp c.args.map.now q) c.loop-addr.map c.remove.new.self c.loop-addr-test.true (c.loop-addr.invariant q) c.remove.ensures.updates
