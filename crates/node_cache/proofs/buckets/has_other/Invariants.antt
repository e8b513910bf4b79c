use Rattle.std.proofs.Common.{◌≡◌, ◌≢◌, ◌%◌, ◌<◌, ℕ, Some, slice_get}
use Rattle.node_cache.proofs.buckets.has_other.Given as goal

abbrev pub invariant-loop-other : goal.invariant-loop-other
invariant-loop-other l = (slot addr : ℕ) → slot < l.other → slot ≢ l.number → slice_get l.addrs slot ≡ Some (Some addr) → addr % l.count ≢ l.place
