-- What is found of a block in a tree that is partly in memory, and where the way to it comes to a wrong place.
use Rattle.std.specs.Prelude.{◌≡◌, ℕ, suc, ◌-◌, ◌<◌, ◌≤◌, List, Option, None, Some, Result, OnOk}
use Rattle.platform.specs.declared.platforms.Platform.{Ghosts}
use Rattle.node_codec.specs.declared.body.Entry.{Entry}
use Rattle.node_codec.specs.Record.{Record}
use Rattle.page_store.specs.declared.wants.Want.{Want}
use Rattle.page_store.specs.Places.{FitsAt, NothingFits}
use Rattle.node_cache.specs.declared.slots.CachedNode.{CachedNode}
use Rattle.node_cache.specs.Cached.{Cached}
use Rattle.btree_walk.specs.Sights.{CachedFits}
use Rattle.btree_walk.specs.Finds.{Finds, Stops}
use Rattle.btree_twigs.specs.declared.twigs.Child.{Child, Child-F, out-Child}
use Rattle.btree_twigs.specs.declared.twigs.Child.TheOpen.{Kept, Grown}
use Rattle.btree_twigs.specs.declared.twigs.Twig.{Twig}
use Rattle.btree_twigs.specs.declared.twigs.Spot.{Spot}
use Rattle.btree_twigs.specs.declared.twigs.Spot.TheVariants.{Found, Absent, Below}
use Rattle.btree_twigs.specs.Stubs.{Stub, stubs_below}
use Rattle.btree_twigs.specs.Search.{IsSpot}
use Rattle.btree_update.specs.declared.groves.Grove.{Grove}
use Rattle.btree_update.specs.declared.siblings.Left.{Left}
use Rattle.btree_update.specs.declared.siblings.Left.TheVariants.{Unmapped, Enough, Short}
use Rattle.btree_update.specs.GroveTree.{want_of, want_at, top_want}
use Rattle.btree_update.specs.Held.{stub_at}

-- from the place of a node on each node on the way to the block fits, down to the leaf, which has this of the block
abbrev pub FindsBelow : (Want → List ℕ → Record → Type 0) → ℕ → Want → List ℕ → Option Entry → Type 0
FindsBelow Fits block want key found = (path : List ℕ) × Finds Fits want.most block found (want.level - 1) want key path

-- from the place of a node on the way to the block comes to a place at this address, where nothing fits
abbrev pub ComesToWrong : List (List ℕ) → ℕ → ℕ → Want → List ℕ → Type 0
ComesToWrong pages block addr want key = Stops (FitsAt pages) want.most block (NothingFits pages) addr (want.level - 1) want key

-- what is found of the block from where a search in memory ends
abbrev pub FindsFrom : (Want → List ℕ → Record → Type 0) → ℕ → ℕ → Spot → Option Entry → Type 0
FindsFrom Fits order block (Found addr key) found = found ≡ Some (record { low = block; addr = addr; key = key })
FindsFrom Fits order block Absent found = found ≡ None
FindsFrom Fits order block (Below level low high addr key) found = FindsBelow Fits block (want_of order (stub_at level low high addr key)) key found

-- from where a search in memory ends, the way comes to a wrong place
abbrev pub StopsFrom : List (List ℕ) → ℕ → ℕ → ℕ → Spot → Type 0
StopsFrom pages order block wrong (Found addr key) = ⊥
StopsFrom pages order block wrong Absent = ⊥
StopsFrom pages order block wrong (Below level low high addr key) = ComesToWrong pages block wrong (want_of order (stub_at level low high addr key)) key

-- among these places the block is there, and this is found of it
pub record FindsAmong (Fits : Want → List ℕ → Record → Type 0) (order block : ℕ) (stubs : List Stub) (found : Option Entry) : Type 0 where
  pub spot : Spot
  pub is : IsSpot block stubs spot
  pub finds : FindsFrom Fits order block spot found

-- among these places the block is there, and the way to it comes to a wrong place
pub record StopsAmong (pages : List (List ℕ)) (order block wrong : ℕ) (stubs : List Stub) : Type 0 where
  pub spot : Spot
  pub is : IsSpot block stubs spot
  pub stops : StopsFrom pages order block wrong spot

abbrev pub ChildFindsBy : (Want → List ℕ → Record → Type 0) → ℕ → ℕ → ℕ → ℕ → ℕ → Child-F Child Twig → Option Entry → Type 0
ChildFindsBy Fits order least block below high (Kept low addr key) found = FindsBelow Fits block (want_at order (suc below) low high addr least) key found
ChildFindsBy Fits order least block below high (Grown low twig) found = FindsAmong Fits order block (stubs_below below high twig) found

-- from a child over children of this level on, whose node has so many at least, this is found of the block
abbrev pub ChildFinds : (Want → List ℕ → Record → Type 0) → ℕ → ℕ → ℕ → ℕ → ℕ → Child → Option Entry → Type 0
ChildFinds Fits order least block below high child found = ChildFindsBy Fits order least block below high (out-Child child) found

-- a removal leaves all where nothing is found of the block, and there alone
abbrev pub IsFoundBy : (Option Entry → Type 0) → Left → Type 0
IsFoundBy Finds Unmapped = Finds None
IsFoundBy Finds Enough = (entry : Entry) × Finds (Some entry)
IsFoundBy Finds Short = (entry : Entry) × Finds (Some entry)

abbrev pub RootFindsBy : (Want → List ℕ → Record → Type 0) → ℕ → ℕ → ℕ → ℕ → Child-F Child Twig → Option Entry → Type 0
RootFindsBy Fits order block below high (Kept low addr key) found = FindsBelow Fits block (top_want order high (suc below) addr) key found
RootFindsBy Fits order block below high (Grown low twig) found = FindsAmong Fits order block (stubs_below below high twig) found

-- below a root this is found of the block
abbrev pub RootFinds : (Want → List ℕ → Record → Type 0) → ℕ → ℕ → ℕ → ℕ → Child → Option Entry → Type 0
RootFinds Fits order block below high child found = RootFindsBy Fits order block below high (out-Child child) found

abbrev pub RootStopsBy : List (List ℕ) → ℕ → ℕ → ℕ → ℕ → ℕ → Child-F Child Twig → Type 0
RootStopsBy pages order block wrong below high (Kept low addr key) = ComesToWrong pages block wrong (top_want order high (suc below) addr) key
RootStopsBy pages order block wrong below high (Grown low twig) = StopsAmong pages order block wrong (stubs_below below high twig)

-- below a root the way to the block comes to a place at this address, where nothing fits
abbrev pub RootStops : List (List ℕ) → ℕ → ℕ → ℕ → ℕ → ℕ → Child → Type 0
RootStops pages order block wrong below high child = RootStopsBy pages order block wrong below high (out-Child child)

-- over these pages this is found of the block in the tree
abbrev pub GroveFinds : List (List ℕ) → ℕ → Grove → Option Entry → Type 0
GroveFinds pages block grove found = RootFinds (FitsAt pages) grove.order block (grove.level - 1) grove.blocks grove.top found

-- over these pages the way to the block comes to a place at this address, where nothing fits
abbrev pub GroveStops : List (List ℕ) → ℕ → ℕ → Grove → Type 0
GroveStops pages block wrong grove = RootStops pages grove.order block wrong (grove.level - 1) grove.blocks grove.top

-- the cache keeps each node of the way that goes on from where a search in memory ends, as what is wanted there
abbrev pub KeepsFrom : List CachedNode → ℕ → ℕ → Spot → Type 0
KeepsFrom kept order block spot = (found : Option Entry) × FindsFrom (CachedFits kept) order block spot found

-- the cache keeps each node on the way to the block below a root that isn't in memory, as what is wanted there
abbrev pub RootKeeps : List CachedNode → ℕ → ℕ → ℕ → ℕ → Child → Type 0
RootKeeps kept order block below high child = (found : Option Entry) × RootFinds (CachedFits kept) order block below high child found

-- the cache keeps each node on the way to the block that isn't in memory, as what is wanted there
abbrev pub KeepsWay : List CachedNode → ℕ → Grove → Type 0
KeepsWay kept block grove = RootKeeps kept grove.order block (grove.level - 1) grove.blocks grove.top

-- what a look-up costs with a cache: it reads nothing where the cache keeps the way, and once it is done the cache keeps it, where it has room for so many
-- nodes
pub record UsesCache {S T E : Type 0} (P : Ghosts S) (Keeps : List CachedNode → Type 0) (most : ℕ) (platform after : S) (old new : Cached) (told : Result T E) : Type 0 where
  pub warm : Keeps old.nodes → after ≡ platform
  pub fills : P.tells → OnOk told (most ≤ new.capacity → Keeps new.nodes)

-- the level of the node below which a search goes on, or 0
abbrev pub level_from : Spot → ℕ
level_from (Found addr key) = 0
level_from Absent = 0
level_from (Below level low high addr key) = level

-- a search can go on from where it ended in memory
abbrev pub CanGoOn : ℕ → ℕ → ℕ → Spot → Type 0
CanGoOn order block head (Found addr key) = addr < head
CanGoOn order block head Absent = Unit {0}
CanGoOn order block head (Below level low high addr key) = (4 ≤ order) × (1 ≤ level) × (low ≤ block) × (block < high) × (addr < head)
