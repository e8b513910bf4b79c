use Rattle.std.proofs.Common.{◌≡◌}
use Rattle.std.specs.Vec.{vec_capacity}
use Rattle.tree_build.proofs.RoundLaws.{IsMade}
use Rattle.tree_build.proofs.building.build.Given as goal

abbrev pub invariant-loop-i : goal.invariant-loop-i
invariant-loop-i g l = record {
  made : IsMade g.P.Platform g.T.Tape l.fn.order l.i l.fn.items.items l.items.items l.fn.platform l.platform l.fn.tape l.tape;
  capacity : vec_capacity l.items ≡ vec_capacity l.fn.items;
}
