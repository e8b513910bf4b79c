-- Why no blocks were listed.
use Rattle.std.specs.Prelude.{◌≡◌, ◌<◌, ℕ, List, All, Some}
use Rattle.platform.specs.Image.{Image}
use Rattle.node_codec.specs.declared.body.Entry.{Entry}
use Rattle.btree_walk.specs.declared.refusals.WalkRefusal.{WalkRefusal}
use Rattle.btree_walk.specs.declared.refusals.WalkRefusal.TheVariants as walks
use Rattle.root_codec.specs.declared.root.Root.{Root}
use Rattle.root_codec.specs.RootRecord.{FitsRoot, root_bytes}
use Rattle.device_core.specs.Upgrading.{StopsListing}
use Rattle.session_calls.specs.declared.stops.DeviceStop.{DeviceStop}
use Rattle.session_calls.specs.declared.stops.DeviceStop.TheVariants as stops

-- the stop that a refused walk comes to
abbrev pub stop_of_walk : WalkRefusal → DeviceStop
stop_of_walk (walks.BadRecord addr) = stops.BadRecord addr
stop_of_walk walks.PlatformFault = stops.Platform
stop_of_walk walks.Memory = stops.Memory

-- no memory was given, or this address is named and not each entry is of one of so many blocks
abbrev pub IsOfEntries : List Entry → ℕ → ℕ → DeviceStop → Type 0
IsOfEntries list blocks addr stops.Memory = Unit {0}
IsOfEntries list blocks addr (stops.BadRecord at) = (at ≡ addr) × (All (λ e. e.low < blocks) list → ⊥)
IsOfEntries list blocks addr _ = ⊥

-- a listing of the blocks of the root record in the cell stops at this address: at the first node that doesn't fit its place, or at the root node where all fit and list another number
pub record StopsListingAt (image : Image) (addr : ℕ) : Type 0 where
  pub root : Root
  pub in_range : FitsRoot root
  pub cell : image.cell ≡ Some (root_bytes root)
  pub stops : StopsListing image.readable root addr

-- a listing stops where the platform failed, or no memory was given, or at an address that it names, where this is known
abbrev pub IsListStop : Type 0 → Image → DeviceStop → Type 0
IsListStop Known image (stops.BadRecord addr) = Known → StopsListingAt image addr
IsListStop Known image stops.Platform = Unit {0}
IsListStop Known image stops.Memory = Unit {0}
IsListStop Known image _ = ⊥
