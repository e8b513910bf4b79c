use Rattle.std.proofs.Common.{◌≡◌, ◌<◌, ℕ, None, Some}
use Rattle.std.specs.Prelude.{slice_get}
use Rattle.cert_checker.specs.declared.held.Placed.{Placed}
use Rattle.cert_checker.specs.Looks.{FirstUnfit}
use Rattle.cert_checker.proofs.nodes.first_unfit_of_all.Given as goal

abbrev pub invariant-loop-i : goal.invariant-loop-i
invariant-loop-i l = (j : ℕ) (other : Placed) → j < l.i → slice_get l.added j ≡ Some other → FirstUnfit l.live l.parents l.addrs l.gone j other None
