use Rattle.std.proofs.Common.{◌≤◌, take}
use Rattle.std.specs.List.{AllByRecursion}
use Rattle.btree_twigs.specs.Stubs.{low_of as low_in}
use Rattle.btree_twigs.proofs.twigs.place.Given as goal

abbrev pub invariant-loop-i : goal.invariant-loop-i
invariant-loop-i l = AllByRecursion (λ c. low_in c ≤ l.block) (take l.i l.children)
