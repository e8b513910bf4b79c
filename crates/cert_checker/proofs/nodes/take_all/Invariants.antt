use Rattle.std.proofs.Common.{◌≡◌, true, ℕ, ◌<◌, slice_index, take}
use Rattle.std.specs.Ordering.{nat_cmp}
use Rattle.std.specs.BTreeSet.{contains}
use Rattle.cert_checker.specs.Looks.{is_taken}
use Rattle.cert_checker.proofs.nodes.take_all.Given as goal

abbrev pub invariant-loop-i : goal.invariant-loop-i
invariant-loop-i l = record {
  none : (j : ℕ) → j < l.i → is_taken l.fn.taken (take j l.children) (slice_index l.children j) ≡ true → ⊥;
  taken : (a : ℕ) → contains nat_cmp l.taken a ≡ is_taken l.fn.taken (take l.i l.children) a;
}
