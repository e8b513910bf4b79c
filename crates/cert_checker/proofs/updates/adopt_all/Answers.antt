use Rattle.std.specs.Ordering.{nat_cmp}
use Rattle.std.specs.BTreeMap.{get}
use Rattle.cert_checker.proofs.AdvanceLaws.{adopts_more}
use Rattle.cert_checker.proofs.updates.adopt_all.Goals as goal

pub loop-i-preserved : goal.loop-i-preserved
loop-i-preserved c = λ q.
    adopts_more c.args.added.now c.loop-i.i c.index-added-i.result q (get nat_cmp c.args.parents.now q) (get nat_cmp c.loop-i.parents q) (get nat_cmp c.adopt_of.new.parents q) c.loop-i-test.true c.index-added-i.is
    (c.loop-i.invariant q) (c.in_ok-adopt_of.ensures q)
