use Rattle.std.proofs.Common.{◌≡◌, ◌++◌, map}
use Rattle.node_cache.specs.Slots.{nodes_in}
use Rattle.node_cache.proofs.cache.NodeCache.addresses.Given as goal

abbrev pub invariant-loop-slot : goal.invariant-loop-slot
invariant-loop-slot l = map (λ k. k.addr) l.self.nodes ≡ l.addrs ++ map (λ k. k.addr) (nodes_in l.slot-iterator)
