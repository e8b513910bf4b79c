-- What a cache keeps once nodes were sealed.
use Rattle.std.specs.Prelude.{◌≡◌, List, [], ◌∷◌}
use Rattle.sdbt_base.specs.Keys.{version_of}
use Rattle.node_cache.specs.declared.slots.CachedNode.{CachedNode}
use Rattle.node_cache.specs.Cached.{Cached, cached_node, node_of, filled}
use Rattle.shadow_commit.specs.Sealed.{Sealed}

-- a sealed node as a cache keeps it, of the version of its key
abbrev pub cached_as : Sealed → CachedNode
cached_as n = cached_node n.addr n.key (node_of n.level (version_of n.key) n.entries)

-- the cache once these nodes were put, one after the other
abbrev pub with_sealed : Cached → List Sealed → Cached
with_sealed cache [] = cache
with_sealed cache (n ∷ ns) = with_sealed (filled cache (cached_as n)) ns

-- nodes are such, and the cache has them
abbrev pub AreCached : (List Sealed → Type 0) → Cached → Cached → List Sealed → Type 0
AreCached Are old new nodes = Are nodes × (new ≡ with_sealed old nodes)
