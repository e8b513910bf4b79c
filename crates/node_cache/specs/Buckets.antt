-- The buckets of a cache: which slots may have a node of an address.
use Rattle.std.specs.Prelude.{◌≡◌, ◌≢◌, ◌%◌, ◌*◌, ℕ, List, Option, None, Some, length, max, slice_get, vec_capacity}
use Rattle.std.specs.declared.vec.Vec.{Vec}
use Rattle.std.specs.declared.alloc.Global.{Global}
use Rattle.node_cache.specs.declared.slots.CachedNode.{CachedNode}
use Rattle.node_cache.specs.Slots.{IsTied}
use Rattle.node_cache.specs.declared.buckets.Bucket.{Bucket}
use Rattle.node_cache.specs.declared.buckets.Bucket.TheVariants.{Empty, One, Many}

-- the bucket doesn't rule out that the slot has an address of it
abbrev pub MayHave : Option Bucket → ℕ → Type 0
MayHave None slot = ⊥
MayHave (Some Empty) slot = ⊥
MayHave (Some (One number)) slot = number ≡ slot
MayHave (Some Many) slot = Unit {0}

-- no bucket rules out a slot that has an address of it
abbrev pub Covers : List Bucket → List (Option ℕ) → Type 0
Covers buckets addrs = (slot addr : ℕ) → slice_get addrs slot ≡ Some (Some addr) → MayHave (slice_get buckets (addr % length buckets)) slot

-- the slot has an address of the bucket at a place, of so many
abbrev pub IsIn : List (Option ℕ) → ℕ → ℕ → ℕ → Type 0
IsIn addrs slot count place = (addr : ℕ) × (slice_get addrs slot ≡ Some (Some addr)) × (addr % count ≡ place)

-- another slot than this one has such an address
abbrev pub IsShared : List (Option ℕ) → ℕ → ℕ → ℕ → Type 0
IsShared addrs number count place = (other : ℕ) × (other ≢ number) × IsIn addrs other count place

-- numbered slots in the order of their use, of which there is room for so many, the addresses of the nodes in them, and buckets that rule out none of these.
-- No more room was taken than these need: for each slot, for one at least, and for four buckets a slot; and both lists fill theirs
pub record IsCachedBy (slots : List (ℕ × Option CachedNode)) (room : ℕ) (addrs : Vec (Option ℕ) Global) (buckets : Vec Bucket Global) : Type 0 where
  pub tied : IsTied slots addrs.items
  pub covers : Covers buckets.items addrs.items
  pub room_is : room ≡ max 1 (length addrs.items)
  pub four_each : length buckets.items ≡ 4 * length addrs.items
  pub no_address_more : vec_capacity addrs ≡ length addrs.items
  pub no_bucket_more : vec_capacity buckets ≡ length buckets.items
