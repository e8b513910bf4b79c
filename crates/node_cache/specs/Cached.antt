-- The nodes that a cache keeps.
use Rattle.std.specs.Prelude.{◌≡◌, ◌==◌, ℕ, List, [], ◌∷◌, Option, None, Some, Contains, cond, take}
use Rattle.node_codec.specs.declared.body.Entry.{Entry}
use Rattle.node_codec.specs.declared.body.NodeBody.{NodeBody}
use Rattle.node_cache.specs.declared.slots.CachedNode.{CachedNode}

-- how many nodes a cache can keep, and those that it keeps, the most recent first
pub record Cached : Type 0 where
  pub capacity : ℕ
  pub nodes : List CachedNode

abbrev pub cached : ℕ → List CachedNode → Cached
cached capacity nodes = record { capacity = capacity; nodes = nodes }

-- a node that is cached for an address, under a key
abbrev pub cached_node : ℕ → List ℕ → NodeBody → CachedNode
cached_node addr key node = record { addr = addr; key = key; node = node }

-- the node of a level and a version with these entries
abbrev pub node_of : ℕ → ℕ → List Entry → NodeBody
node_of level version entries = record { level = level; version = version; entries = record { items = entries } }

-- what is cached for other addresses, in its order
abbrev pub without : ℕ → List CachedNode → List CachedNode
without addr [] = []
without addr (k ∷ ks) = cond (k.addr == addr) (without addr ks) (k ∷ without addr ks)

-- what is cached for other addresses than these, in its order
abbrev pub without_all : List ℕ → List CachedNode → List CachedNode
without_all [] ks = ks
without_all (addr ∷ addrs) ks = without_all addrs (without addr ks)

-- the cache without what it keeps for these addresses
abbrev pub forgotten : List ℕ → Cached → Cached
forgotten addrs old = cached old.capacity (without_all addrs old.nodes)

-- the cache with a node as its most recent one, in the place of what was cached for that address
abbrev pub touched : Cached → CachedNode → Cached
touched old node = cached old.capacity (node ∷ without node.addr old.nodes)

-- the same, and where these are more nodes than there is room for, without the least recent one
abbrev pub filled : Cached → CachedNode → Cached
filled old node = cached old.capacity (take old.capacity (node ∷ without node.addr old.nodes))

-- the node is cached for the address, under the key
abbrev pub IsCached : List CachedNode → ℕ → List ℕ → NodeBody → Type 0
IsCached nodes addr key node = Contains nodes (cached_node addr key node)

-- the node is cached for the address under the key, and no other one is
pub record IsOnlyCached (nodes : List CachedNode) (addr : ℕ) (key : List ℕ) (node : NodeBody) : Type 0 where
  pub here : IsCached nodes addr key node
  pub only : (other : NodeBody) → IsCached nodes addr key other → other ≡ node

-- a look-up finds the node that is cached for the address under the key, and makes it the most recent one; or it finds none, where there
-- is none, and changes nothing
abbrev pub Uses : Cached → ℕ → List ℕ → Option NodeBody → Cached → Type 0
Uses old addr key None new = (new ≡ old) × ((node : NodeBody) → ¬ (IsCached old.nodes addr key node))
Uses old addr key (Some node) new = IsOnlyCached old.nodes addr key node × (new ≡ touched old (cached_node addr key node))
