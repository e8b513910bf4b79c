use Rattle.std.proofs.Common.{ℕ, ◌<◌, slice_index}
use Rattle.cert_checker.specs.Looks.{IsFit}
use Rattle.cert_checker.proofs.nodes.first_unfit.Given as goal

abbrev pub invariant-loop-i : goal.invariant-loop-i
invariant-loop-i l = (j : ℕ) → j < l.i → (IsFit l.live l.parents l.added l.gone l.node (slice_index l.children j) → ⊥) → ⊥
