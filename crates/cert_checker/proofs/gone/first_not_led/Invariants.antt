use Rattle.std.proofs.Common.{ℕ, ◌<◌, slice_index}
use Rattle.cert_checker.specs.Looks.{IsLed}
use Rattle.cert_checker.proofs.gone.first_not_led.Given as goal

abbrev pub invariant-loop-i : goal.invariant-loop-i
invariant-loop-i l = (j : ℕ) → j < l.i → (IsLed l.parents l.gone l.root (slice_index l.gone j) → ⊥) → ⊥
