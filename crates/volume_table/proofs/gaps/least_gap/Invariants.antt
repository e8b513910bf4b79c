use Rattle.volume_table.proofs.GapLaws.{Walked}
use Rattle.volume_table.proofs.gaps.least_gap.Given as goal

abbrev pub invariant-loop-at : goal.invariant-loop-at
invariant-loop-at l = Walked l.blocks l.count l.volumes l.at l.start
