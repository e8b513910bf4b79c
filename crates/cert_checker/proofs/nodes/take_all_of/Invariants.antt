use Rattle.std.proofs.Common.{◌≡◌, ◌<◌, ℕ, None, Some, take}
use Rattle.std.specs.Prelude.{slice_get}
use Rattle.cert_checker.specs.declared.held.Placed.{Placed}
use Rattle.cert_checker.specs.Held.{traced_all}
use Rattle.cert_checker.specs.Looks.{FirstAgain, HasTaken}
use Rattle.cert_checker.proofs.nodes.take_all_of.Given as goal

abbrev pub invariant-loop-i : goal.invariant-loop-i
invariant-loop-i l = record {
  none : (j : ℕ) (other : Placed) → j < l.i → slice_get l.added j ≡ Some other → FirstAgain l.added j other None;
  taken : HasTaken (traced_all (take l.i l.added)) l.taken;
}
