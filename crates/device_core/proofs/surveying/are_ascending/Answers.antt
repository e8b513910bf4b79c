-- Two neighbours are compared at a time.
use Rattle.std.proofs.Common.{◌≤◌, ◌<◌, arith, rules}
use Rattle.device_core.proofs.AscendLaws.{ascend_more, not_ascending}
use Rattle.device_core.proofs.surveying.are_ascending.Goals as goal

pub loop-i-preserved : goal.loop-i-preserved
loop-i-preserved c =
    let below : c.index-entries-i.result.low < c.index-entries-i-in-loop-i.result.low = search rules in
    ascend_more c.args.entries.now c.index-entries-i.result c.index-entries-i-in-loop-i.result c.loop-i.i (omega arith) c.index-entries-i.is c.index-entries-i-in-loop-i.is below c.loop-i.invariant

pub returns-then-entries-i : goal.returns-then-entries-i
returns-then-entries-i c =
    let not-below : c.index-entries-i-in-loop-i.result.low ≤ c.index-entries-i.result.low = search rules in
    (λ h. absurd cc, λ increasing. absurd (not_ascending c.args.entries.now c.index-entries-i.result c.index-entries-i-in-loop-i.result c.loop-i.i (omega arith) (omega arith) c.index-entries-i.is c.index-entries-i-in-loop-i.is not-below increasing))
