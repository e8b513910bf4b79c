use Rattle.std.proofs.Common.{◌≡◌, ◌≤◌, ◌-◌, vec_len, vec_capacity}
use Rattle.node_cache.proofs.buckets.empty_buckets.Given as goal

abbrev pub decreases-buckets : goal.decreases-buckets
decreases-buckets l = l.count - vec_len l.buckets

abbrev pub invariant-buckets : goal.invariant-buckets
invariant-buckets l = (vec_len l.buckets ≤ l.count) × (vec_capacity l.buckets ≡ l.count)
