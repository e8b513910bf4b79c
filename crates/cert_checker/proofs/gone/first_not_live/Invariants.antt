use Rattle.std.proofs.Common.{◌<◌, ℕ}
use Rattle.cert_checker.specs.Looks.{IsBadGone}
use Rattle.cert_checker.specs.Held.{live_of}
use Rattle.cert_checker.proofs.gone.first_not_live.Given as goal

abbrev pub invariant-loop-i : goal.invariant-loop-i
invariant-loop-i l = (j : ℕ) → j < l.i → IsBadGone (live_of l.live) l.gone j → ⊥
