use Rattle.std.proofs.Common.{length}
use Rattle.workload.proofs.TallyLaws.{IsCounting}
use Rattle.workload.proofs.summaries.Tally.of.Given as goal

abbrev pub invariant-loop-line : goal.invariant-loop-line
invariant-loop-line l = IsCounting l.told l.rest l.tally.accepted l.tally.refused

abbrev pub decreases-loop-line : goal.decreases-loop-line
decreases-loop-line l = length l.rest
