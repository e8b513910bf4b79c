use Rattle.std.proofs.Common.{ℕ, ◌<◌}
use Rattle.cert_checker.specs.Looks.{IsInPlace}
use Rattle.cert_checker.proofs.fresh.first_misplaced.Given as goal

abbrev pub invariant-loop-i : goal.invariant-loop-i
invariant-loop-i l = (j : ℕ) → j < l.i → (IsInPlace l.addrs l.base l.head j → ⊥) → ⊥
