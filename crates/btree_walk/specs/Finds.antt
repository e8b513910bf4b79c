-- How a block is found below a place: through nodes that fit, to its leaf, or to the first place where nothing fits.
use Rattle.std.specs.Prelude.{◌≡◌, ◌⊎◌, ◌<◌, ◌≤◌, ◌+◌, ◌-◌, ℕ, zero, suc, List, [], ◌∷◌, ◌++◌, Option, Result, All, Contains, IfOk, IsErrOf, length, map, take}
use Rattle.sdbt_base.specs.Faults.{TellsOf}
use Rattle.platform.specs.declared.platforms.Platform.{Ghosts}
use Rattle.node_codec.specs.declared.body.Entry.{Entry}
use Rattle.node_codec.specs.declared.body.NodeBody.{NodeBody}
use Rattle.node_codec.specs.Record.{Record, NodeRecord}
use Rattle.page_store.specs.declared.refusals.FetchRefusal.{FetchRefusal}
use Rattle.page_store.specs.declared.refusals.FetchRefusal.TheVariants as refusals
use Rattle.page_store.specs.declared.wants.Want.{Want}
use Rattle.page_store.specs.Places.{child_want}
use Rattle.node_cache.specs.declared.slots.CachedNode.{CachedNode}
use Rattle.node_cache.specs.Cached.{Cached, cached_node, touched, filled}
use Rattle.btree_walk.specs.declared.turns.Turn.{Turn}
use Rattle.btree_walk.specs.Ways.{IsWay, IsEntryOf, IsTurn}
use Rattle.btree_walk.specs.Sights.{NodeFits, CachedFits, Sees, Misses, KeepsOnly, ForgetsNone}
use Rattle.btree_walk.specs.Among.{KeepsBut}
use Rattle.btree_walk.specs.Looks.{Looks}

-- nothing that is wanted is at the place, which has this address
pub record StopsHere (Misfits : Want → List ℕ → Type 0) (addr : ℕ) (want : Want) (key : List ℕ) : Type 0 where
  pub here : addr ≡ want.addr
  pub misfits : Misfits want key

module _ (Fits : Want → List ℕ → Record → Type 0) (order block : ℕ) where
  -- a leaf fits, and this is what it has of the block
  pub record EndsInLeaf (found : Option Entry) (want : Want) (key : List ℕ) (path : List ℕ) : Type 0 where
    pub entries : List Entry
    pub fits : Fits want key (NodeRecord 1 entries)
    pub is : IsEntryOf entries block found
    pub path_is : path ≡ want.addr ∷ []

  -- a node fits, and from the entry below which the block lies it goes on
  pub record GoesOn (Goes : Want → List ℕ → List ℕ → Type 0) (level : ℕ) (want : Want) (key : List ℕ) (path : List ℕ) : Type 0 where
    pub entries : List Entry
    pub fits : Fits want key (NodeRecord (suc (suc level)) entries)
    pub entry : Entry
    pub bound : ℕ
    pub way : IsWay entries want.high block entry bound
    pub rest : List ℕ
    pub goes : Goes (child_want order (suc level) entry bound) entry.key rest
    pub path_is : path ≡ rest ++ want.addr ∷ []

  -- from a node so many levels above the leaves on, each node on the way of the block fits; these are their addresses, the leaf's first,
  -- and this is what the leaf has of the block
  unfoldable pub Finds : Option Entry → ℕ → Want → List ℕ → List ℕ → Type 0
  Finds found zero = EndsInLeaf found
  Finds found (suc level) = GoesOn (Finds found level) level

  module _ (Misfits : Want → List ℕ → Type 0) (addr : ℕ) where
    -- a node fits, and from the entry below which the block lies it comes to such a place
    pub record StopsBelow (Stops : Want → List ℕ → Type 0) (level : ℕ) (want : Want) (key : List ℕ) : Type 0 where
      pub entries : List Entry
      pub fits : Fits want key (NodeRecord (suc (suc level)) entries)
      pub entry : Entry
      pub bound : ℕ
      pub way : IsWay entries want.high block entry bound
      pub stops : Stops (child_want order (suc level) entry bound) entry.key

    -- from a node so many levels above the leaves on, the way of the block goes through nodes that fit to a place at this address,
    -- where nothing fits
    unfoldable pub Stops : ℕ → Want → List ℕ → Type 0
    Stops zero want key = StopsHere Misfits addr want key
    Stops (suc level) want key = StopsHere Misfits addr want key ⊎ StopsBelow (Stops level) level want key

-- the addresses for which a cache keeps nodes, the most recent first
abbrev pub addresses_of : Cached → List ℕ
addresses_of cache = map (λ k. k.addr) cache.nodes

-- these addresses come first
abbrev pub BeginsWith : List ℕ → List ℕ → Type 0
BeginsWith front addrs = take (length front) addrs ≡ front

-- a path comes first, and what came first before and lies above it comes behind it, where there is room for both
abbrev pub ComesFirst : ℕ → List ℕ → Cached → Cached → Type 0
ComesFirst top path old new =
    (front : List ℕ) → All (λ a. top < a) front → BeginsWith front (addresses_of old) → length path + length front ≤ old.capacity → BeginsWith (path ++ front) (addresses_of new)

-- of the nodes for higher addresses, those among the first few are among the first ones still, behind at most so many more, where there is room for all
abbrev pub StaysEarly : ℕ → ℕ → Cached → Cached → Type 0
StaysEarly top more old new = (few : ℕ) (k : CachedNode) → top < k.addr → few + more ≤ old.capacity → Contains (take few old.nodes) k → Contains (take (few + more) new.nodes) k

-- the cache has the node as its most recent one
abbrev pub MakesFirst : CachedNode → Cached → Cached → Type 0
MakesFirst node old new = (new ≡ touched old node) ⊎ (new ≡ filled old node)

-- the cache has as its most recent node one that is wanted at the place, and that says this of a block
pub record UsesNode (want : Want) (key : List ℕ) (block : ℕ) (old new : Cached) (turn : Turn) : Type 0 where
  pub node : NodeBody
  pub fits : NodeFits want key node
  pub is : IsTurn want node.entries.items block turn
  pub first : MakesFirst (cached_node want.addr key node) old new

-- the node that is seen at a place says this of a block
pub record SeesTurn (nodes : List CachedNode) (pages : List (List ℕ)) (want : Want) (key : List ℕ) (block : ℕ) (turn : Turn) : Type 0 where
  pub entries : List Entry
  pub sees : Sees nodes pages want key (NodeRecord want.level entries)
  pub is : IsTurn want entries block turn

-- a look at the node of a place for a block: what it tells of the cache and the pages that were there, and what it leaves; the one read
-- is of the page, where the cache keeps no node for the place
pub record LooksFor {S : Type 0} (P : Ghosts S) (want : Want) (key : List ℕ) (block : ℕ) (platform after : S) (old new : Cached) (told : Result Turn FetchRefusal) : Type 0 where
  pub seen : P.tells → IfOk told (SeesTurn old.nodes (P.history platform).present.readable want key block)
  pub bad : P.tells → (addr : ℕ) → IsErrOf told (refusals.BadRecord addr) → StopsHere (Misses old.nodes (P.history platform).present.readable) addr want key
  pub used : IfOk told (UsesNode want key block old new)
  pub forgets : ForgetsNone old new
  pub keeps : P.tells → KeepsOnly (P.history platform).present.readable old new
  pub but : KeepsBut want.addr key old new
  pub looks : Looks P 1 platform after
  pub cause : TellsOf refusals.PlatformFault told (P.faults platform) (P.faults after)

-- what a look-up found below a place: where the cache and the pages lead, and that the path is what was used last. Where there is room for a node of each
-- level, the cache keeps each node of the way then
pub record IsFound (pages : List (List ℕ)) (start : Want) (key : List ℕ) (block : ℕ) (old new : Cached) (found : Option Entry) : Type 0 where
  pub path : List ℕ
  pub finds : Finds (Sees old.nodes pages) start.most block found (start.level - 1) start key path
  pub levels : length path ≡ start.level
  pub recent : ComesFirst start.addr path old new
  pub early : StaysEarly start.addr start.level old new
  pub warm : start.level ≤ old.capacity → Finds (CachedFits new.nodes) start.most block found (start.level - 1) start key path

-- a block can be looked for below a place
pub record AsksFor (start : Want) (block : ℕ) : Type 0 where
  pub level : 1 ≤ start.level
  pub from : start.low ≤ block
  pub below : block < start.high
  pub order : 2 ≤ start.most
  pub some : 2 ≤ start.level → 1 ≤ start.least
