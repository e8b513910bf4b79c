-- Which record is seen at a place, where a cache stands before the pages.
use Rattle.std.specs.Prelude.{◌≡◌, ◌≢◌, ◌⊎◌, ◌≤◌, ℕ, List, All, Contains, length}
use Rattle.sdbt_base.specs.Keys.{version_of}
use Rattle.node_codec.specs.declared.body.NodeBody.{NodeBody}
use Rattle.node_codec.specs.Record.{Record, NodeRecord, FitsNode}
use Rattle.page_store.specs.declared.wants.Want.{Want}
use Rattle.page_store.specs.Places.{IsRecordAt, IsNodeWanted, FitsAt, NothingFits}
use Rattle.node_cache.specs.declared.slots.CachedNode.{CachedNode}
use Rattle.node_cache.specs.Cached.{Cached, IsCached}

-- a node is of the version that the key says, in range at the place, and what is wanted there
pub record NodeFits (want : Want) (key : List ℕ) (node : NodeBody) : Type 0 where
  pub version : node.version ≡ version_of key
  pub in_range : FitsNode (version_of key) want.addr node.level node.entries.items
  pub wanted : IsNodeWanted want node.level node.entries.items

-- a cache keeps a node for the place, and it is wanted there
pub record CachedFits (nodes : List CachedNode) (want : Want) (key : List ℕ) (value : Record) : Type 0 where
  pub node : NodeBody
  pub here : IsCached nodes want.addr key node
  pub fits : NodeFits want key node
  pub is : value ≡ NodeRecord node.level node.entries.items

-- a cache keeps a node for the place that is not wanted there
pub record CachedMisfits (nodes : List CachedNode) (want : Want) (key : List ℕ) : Type 0 where
  pub node : NodeBody
  pub here : IsCached nodes want.addr key node
  pub misfit : ¬ (NodeFits want key node)

-- the record that is wanted at a place is seen there: the cache keeps it, or the page is it
abbrev pub Sees : List CachedNode → List (List ℕ) → Want → List ℕ → Record → Type 0
Sees nodes pages want key value = CachedFits nodes want key value ⊎ FitsAt pages want key value

-- what is seen at a place is not wanted there
abbrev pub Misses : List CachedNode → List (List ℕ) → Want → List ℕ → Type 0
Misses nodes pages want key = CachedMisfits nodes want key ⊎ NothingFits pages want key

-- a node that is cached is what its page is, and has the version that its key says
pub record IsOfPage (pages : List (List ℕ)) (k : CachedNode) : Type 0 where
  pub version : k.node.version ≡ version_of k.key
  pub is : IsRecordAt pages k.addr k.key (NodeRecord k.node.level k.node.entries.items)

-- each node that is cached is what its page is
abbrev pub StandsOver : List (List ℕ) → Cached → Type 0
StandsOver pages cache = All (IsOfPage pages) cache.nodes

-- each node that is cached now was cached before, or is what its page is
pub record KeepsOnly (pages : List (List ℕ)) (old new : Cached) : Type 0 where
  pub capacity : new.capacity ≡ old.capacity
  pub nodes : All (λ k. Contains old.nodes k ⊎ IsOfPage pages k) new.nodes

-- what was cached for other addresses is cached still
abbrev pub StillKeeps : ℕ → Cached → Cached → Type 0
StillKeeps addr old new = (k : CachedNode) → k.addr ≢ addr → Contains old.nodes k → Contains new.nodes k

-- a node is cached for the address
abbrev pub IsCachedFor : List CachedNode → ℕ → Type 0
IsCachedFor nodes addr = (k : CachedNode) × Contains nodes k × (k.addr ≡ addr)

-- as many nodes are cached as there is room for
abbrev pub IsFull : Cached → Type 0
IsFull cache = cache.capacity ≤ length cache.nodes

-- nothing is forgotten: a node is cached still for each address for which one was, where the cache is not full, and a full one stays full
pub record ForgetsNone (old new : Cached) : Type 0 where
  pub capacity : new.capacity ≡ old.capacity
  pub still : (addr : ℕ) → IsCachedFor old.nodes addr → IsCachedFor new.nodes addr ⊎ IsFull new
  pub full : IsFull old → IsFull new
