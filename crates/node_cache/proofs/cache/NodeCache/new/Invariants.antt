use Rattle.std.proofs.Common.{◌≡◌, max, vec_capacity}
use Rattle.node_cache.proofs.SlotLaws.{IsFilled}
use Rattle.node_cache.proofs.cache.NodeCache.new.Given as goal

abbrev pub invariant-loop-number : goal.invariant-loop-number
invariant-loop-number l = IsFilled l.slots.entries l.addrs.items l.number × (l.slots.cap ≡ max 1 l.capacity) × (vec_capacity l.addrs ≡ l.capacity)
