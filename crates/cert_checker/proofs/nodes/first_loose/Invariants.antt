use Rattle.std.proofs.Common.{ℕ, ◌<◌, ◌≡◌, false, slice_index}
use Rattle.std.specs.Ordering.{nat_cmp}
use Rattle.std.specs.BTreeSet.{contains}
use Rattle.cert_checker.proofs.nodes.first_loose.Given as goal

abbrev pub invariant-loop-i : goal.invariant-loop-i
invariant-loop-i l = (j : ℕ) → j < l.i → ((slice_index l.addrs j ≡ l.root) → ⊥) × (contains nat_cmp l.taken (slice_index l.addrs j) ≡ false) → ⊥
