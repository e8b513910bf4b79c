-- When a move is refused, on any images.
use Rattle.std.specs.Prelude.{◌≡◌, ◌≢◌, ◌⊎◌, ◌<◌, ◌+◌, ◌-◌, ◌*◌, ℕ, Bool, true, false, Contains, List, Option, None}
use Rattle.platform.specs.Image.{Image}
use Rattle.root_codec.specs.declared.root.Root.{Root}
use Rattle.node_codec.specs.declared.body.Entry.{Entry}
use Rattle.page_store.specs.Kept.{IsRootOf}
use Rattle.page_store.specs.Places.{FitsAt, root_want}
use Rattle.btree_walk.specs.Finds.{Finds}
use Rattle.device_session.specs.Open.{is_touched, root_of}
use Rattle.device_session.specs.Reading.{ReadsAs}
use Rattle.device_session.specs.Sessions.{Session}
use Rattle.session_calls.specs.declared.stops.DeviceStop.TheVariants as device
use Rattle.transfer.specs.Running.{IsBehindBoth}
use Rattle.transfer.specs.Whole.{HasBlocks, IsFreshRoot}
use Rattle.transfer.specs.declared.halts.Halt.{Halt}
use Rattle.transfer.specs.declared.halts.Halt.TheVariants as halts

-- as many blocks, and a tree of the same order
abbrev pub AreAlike : Root → Root → Type 0
AreAlike root other = (root.blocks ≡ other.blocks) × (root.order ≡ other.order)

-- a look-up of the block over the pages, from the root record down, comes to this content: that of the data record that it finds, or zeros where it finds none
pub record LooksUp (image : Image) (root : Root) (block : ℕ) (content : List ℕ) : Type 0 where
  pub found : Option Entry
  pub path : List ℕ
  pub finds : Finds (FitsAt image.readable) root.order block found (root.level - 1) (root_want root) root.key path
  pub reads : ReadsAs image.readable block found content

-- a block of these has two contents: a look-up of it comes to the one on the one image, and to the other on the other
pub record IsUnlike (from to : Image) (root other : Root) (blocks : List ℕ) : Type 0 where
  pub block : ℕ
  pub among : Contains blocks block
  pub content : List ℕ
  pub content_there : List ℕ
  pub here : LooksUp from root block content
  pub there : LooksUp to other block content_there
  pub differ : content ≢ content_there

-- two devices differ, on any pages: each node of either tree fits, and the one maps other blocks than the other, or a block has two contents
pub record Differ (from to : Image) (root other : Root) : Type 0 where
  pub blocks : List ℕ
  pub blocks_there : List ℕ
  pub listed : HasBlocks from root blocks
  pub listed_there : HasBlocks to other blocks_there
  pub apart : (blocks_there ≢ blocks) ⊎ IsUnlike from to root other blocks

-- the second root record isn't that of a device as large as the first one's and of the same order that was never written; and where it is of one as large and of the same order, this holds
abbrev pub IsOtherThan : Root → Root → Type 0 → Type 0
IsOtherThan root other Differs = (IsFreshRoot root.blocks root.order other → ⊥) × (AreAlike root other → Differs)

-- why nothing was moved. There is a root record in either cell, the second one isn't that of a device as large and of the same order that was never written, and where that device is as
-- large and of the same order, the two differ; or there is one in the first cell, and fewer pages are free on the second platform than 42 for each block that it says is mapped, and one more
abbrev pub IsRefused : Image → Image → ℕ → Halt → Type 0
IsRefused from to free halts.NotEmpty = (root other : Root) × IsRootOf from root × IsRootOf to other × IsOtherThan root other (Differ from to root other)
IsRefused from to free halts.Full = (root : Root) × IsRootOf from root × (free < 42 * root.mapped + 1)
IsRefused from to free _ = Unit {0}

-- there is a root record in either cell, and their devices have other numbers of blocks, or trees of other orders
abbrev pub AreUnlike : Image → Image → Type 0
AreUnlike from to = (root other : Root) × IsRootOf from root × IsRootOf to other × (AreAlike root other → ⊥)

-- a halt between two open sessions: at another device, where this holds; or where fewer pages are free than 42 for each of so many blocks
abbrev pub HaltsAt : Type 0 → ℕ → ℕ → Halt → Type 0
HaltsAt Other count free halts.NotEmpty = Other
HaltsAt Other count free halts.Full = free < 42 * count
HaltsAt Other count free _ = Unit {0}

-- a session without a change, that counts as many mapped blocks as its root record says
pub record IsIdle (session : Session) : Type 0 where
  pub untouched : is_touched session ≡ false
  pub mapped : session.mapped ≡ session.root.mapped

-- the session is on the root record that was in the cell; or there was none, and it is on that of a new device
abbrev pub IsOn : Image → ℕ → ℕ → Bool → Session → Type 0
IsOn image blocks order false session = IsRootOf image (root_of session)
IsOn image blocks order true session = (image.cell ≡ None) × IsFreshRoot blocks order (root_of session)

-- a halt at which no session is open on the second platform: no device is refused there, and too few pages are free where none is and there is no device; memory is wanted for a new device
-- only where a page is free
abbrev pub OpensNot : Image → ℕ → Halt → Type 0
OpensNot image free halts.NotEmpty = ⊥
OpensNot image free halts.Full = (image.cell ≡ None) × (free ≡ 0)
OpensNot image free (halts.To device.Memory) = image.cell ≡ None → free ≢ 0
OpensNot image free _ = Unit {0}

-- a halt behind the mount of both devices at which they were only read, and one of a copy
abbrev pub IsOfReads : Halt → Type 0
IsOfReads halts.NotEmpty = ⊥
IsOfReads halts.Full = ⊥
IsOfReads halt = IsBehindBoth halt

abbrev pub IsOfCopy : Halt → Type 0
IsOfCopy halts.NotEmpty = ⊥
IsOfCopy halt = IsBehindBoth halt
