-- What a read tells of a device of version 2 where reads of the medium give other pages than were recorded.
use Rattle.std.specs.Prelude.{◌≡◌, ◌⊎◌, ◌-◌, ℕ, List, Some, false}
use Rattle.sdbt_base.specs.Arrays.{Device}
use Rattle.platform.specs.Image.{Image}
use Rattle.node_codec.specs.declared.body.Entry.{Entry}
use Rattle.root_codec.specs.declared.root.Root.{Root}
use Rattle.root_codec.specs.RootRecord.{root_bytes}
use Rattle.page_store.specs.Places.{FitsAt, root_want}
use Rattle.page_store.specs.Stands.{Stands}
use Rattle.page_store.specs.Changing.{IsChangeOf, Collides}
use Rattle.btree_walk.specs.Finds.{Finds, Stops}
use Rattle.btree_walk.specs.Sights.{StandsOver}
use Rattle.device_session.specs.Sessions.{Session}

-- through nodes that fit, the way to a block comes to a node at this address
abbrev pub PassesBy : List (List ℕ) → Root → ℕ → ℕ → Type 0
PassesBy pages root block addr = Stops (FitsAt pages) root.order block (λ want key. Unit {0}) addr (root.level - 1) (root_want root) root.key

-- through nodes that fit, it ends at an entry of the block, whose data record is at this address
abbrev pub EndsAt : List (List ℕ) → Root → ℕ → ℕ → Type 0
EndsAt pages root block addr =
    (entry : Entry) × (path : List ℕ) × Finds (FitsAt pages) root.order block (Some entry) (root.level - 1) (root_want root) root.key path × (addr ≡ entry.addr)

-- on the way to a block, in the root record's tree of the image, is a place where another page is read than the
-- recorded one, of the same digest
pub record CollidesOnWay (image changed : Image) (root : Root) (block : ℕ) : Type 0 where
  pub addr : ℕ
  pub on_way : PassesBy image.readable root block addr ⊎ EndsAt image.readable root block addr
  pub collides : Collides changed addr

-- reads give other pages than in an image that stands for a device of version 2, on whose root record the session is,
-- with no change since; and the cache keeps what reads give
pub record IsChangedBelow (session : Session) (image changed : Image) (device : Device) : Type 0 where
  pub change : IsChangeOf image changed
  pub stands : Stands image (Some device)
  pub version : device.version ≡ 2
  pub untouched : session.is_touched ≡ false
  pub cell : image.cell ≡ Some (root_bytes session.root)
  pub cached : StandsOver changed.readable session.cache
