use Rattle.std.proofs.Common.{◌≡◌, length}
use Rattle.node_cache.proofs.cache.NodeCache.clear.Given as goal

abbrev pub decreases-nodes : goal.decreases-nodes
decreases-nodes l = length l.self.nodes

abbrev pub invariant-nodes : goal.invariant-nodes
invariant-nodes l = l.self.capacity ≡ l.initial.self.capacity
