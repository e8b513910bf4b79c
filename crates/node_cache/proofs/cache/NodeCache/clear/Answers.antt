use Rattle.node_cache.proofs.CacheLaws.{fewer_behind}
use Rattle.node_cache.proofs.cache.NodeCache.clear.Goals as goal

pub nodes-smaller : goal.nodes-smaller
nodes-smaller c =
    let first = c.in-Some.ensures.some in
    rw c.forget.ensures (fewer_behind c.in-Some.addr c.nodes.self.nodes first.1 first.0 first.2 first.3)
