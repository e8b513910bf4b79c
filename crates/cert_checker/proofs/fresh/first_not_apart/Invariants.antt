use Rattle.std.proofs.Common.{ℕ, ◌<◌}
use Rattle.cert_checker.specs.Looks.{IsApart}
use Rattle.cert_checker.proofs.fresh.first_not_apart.Given as goal

abbrev pub invariant-loop-i : goal.invariant-loop-i
invariant-loop-i l = (j : ℕ) → j < l.i → (IsApart l.addrs l.others l.base l.head j → ⊥) → ⊥
