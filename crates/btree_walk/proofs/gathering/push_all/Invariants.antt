use Rattle.std.proofs.Common.{◌≡◌, ◌++◌, take}
use Rattle.btree_walk.proofs.gathering.push_all.Given as goal

abbrev pub invariant-loop-entry : goal.invariant-loop-entry
invariant-loop-entry l = l.list ≡ l.fn.list ++ take l.entry-index l.entries
