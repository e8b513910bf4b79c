use Rattle.std.proofs.Common.{take}
use Rattle.volume_table.specs.Tables.{Lacks}
use Rattle.volume_table.proofs.table.place_of.Given as goal

-- none so far has the name
abbrev pub invariant-loop-at : goal.invariant-loop-at
invariant-loop-at l = Lacks (take l.at l.volumes) l.name
