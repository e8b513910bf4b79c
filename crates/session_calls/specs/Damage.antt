-- What a session names that meets a record which doesn't fit.
use Rattle.std.specs.Prelude.{◌≡◌, ◌≤◌, ◌⊎◌, ℕ, zero, suc, List, Some, Result, Ok, Err, true, false}
use Rattle.platform.specs.Image.{Image}
use Rattle.root_codec.specs.declared.root.Root.{Root}
use Rattle.root_codec.specs.RootRecord.{FitsRoot, root_bytes}
use Rattle.page_store.specs.declared.wants.Want.{Want}
use Rattle.page_store.specs.Places.{root_want}
use Rattle.page_store.specs.Tree.{IsAbove, IsMisfit, Wrong}
use Rattle.device_core.specs.Upgrading.{IsDamaged}
use Rattle.device_session.specs.Damage.{Follows, IsMiscounted, IsFound, HasRoom, IsPastLimit, IsUncounted}
use Rattle.device_session.specs.Open.{root_of}
use Rattle.device_session.specs.Reading.{FindsContent}
use Rattle.device_session.specs.Sessions.{Session}
use Rattle.session_calls.specs.declared.stops.DeviceStop.{DeviceStop}
use Rattle.session_calls.specs.declared.stops.DeviceStop.TheVariants as stops

-- the session is on the root record that is in the cell, and what it read of the pages fits, forged ones too
pub record IsMounted (image : Image) (session : Session) : Type 0 where
  pub cell : image.cell ≡ Some (root_bytes (root_of session))
  pub follows : Follows session image

-- a place at this address of the tree of the root record in the cell doesn't fit
pub record IsWrongPlace (image : Image) (addr : ℕ) : Type 0 where
  pub root : Root
  pub in_range : FitsRoot root
  pub cell : image.cell ≡ Some (root_bytes root)
  pub wrong : Wrong image.readable root addr

-- from a place of a level on, through nodes that fit, a node's place at this address is reached that doesn't fit; where a data record is to be there is none
unfoldable pub WrongNodeBelow : List (List ℕ) → ℕ → ℕ → ℕ → Want → List ℕ → Type 0
WrongNodeBelow pages addr order zero want key = ⊥
WrongNodeBelow pages addr order (suc level) want key =
    IsMisfit pages addr want key ⊎ IsAbove pages (WrongNodeBelow pages addr order level) order level want key

-- a node's place at this address is reached from the root through nodes that fit, and doesn't fit
abbrev pub WrongNode : List (List ℕ) → Root → ℕ → Type 0
WrongNode pages root addr = WrongNodeBelow pages addr root.order root.level (root_want root) root.key

-- a node's place at this address of the tree of the root record in the cell doesn't fit
pub record IsWrongNode (image : Image) (addr : ℕ) : Type 0 where
  pub root : Root
  pub in_range : FitsRoot root
  pub cell : image.cell ≡ Some (root_bytes root)
  pub wrong : WrongNode image.readable root addr

-- the address is that of the root node, and the root record in the cell says that other blocks are mapped than its tree has
pub record IsMiscountedAt (image : Image) (addr : ℕ) : Type 0 where
  pub root : Root
  pub in_range : FitsRoot root
  pub cell : image.cell ≡ Some (root_bytes root)
  pub is_node : addr ≡ root.addr
  pub miscounted : IsMiscounted image.readable root

-- an upgrade of the root record in the cell stops at this address
pub record IsDamagedAt (image : Image) (addr : ℕ) : Type 0 where
  pub root : Root
  pub in_range : FitsRoot root
  pub cell : image.cell ≡ Some (root_bytes root)
  pub damaged : IsDamaged image.readable root addr

-- where a change of a block stops: at a node's place that doesn't fit, or at the root node of a tree that is miscounted, and never at the page of a data record
abbrev pub IsWrongStep : Image → ℕ → Type 0
IsWrongStep image addr = IsWrongNode image addr ⊎ IsMiscountedAt image addr

-- a wrong place, or the root node of a tree that is miscounted
abbrev pub IsWrongPage : Image → ℕ → Type 0
IsWrongPage image addr = IsWrongPlace image addr ⊎ IsMiscountedAt image addr

-- a stop at a record that doesn't fit names one, on any pages
abbrev pub MeetsDamage : Image → DeviceStop → Type 0
MeetsDamage image (stops.BadRecord addr) = IsWrongPage image addr
MeetsDamage image stops.Platform = Unit {0}
MeetsDamage image stops.Tape = Unit {0}
MeetsDamage image stops.Ledger = Unit {0}
MeetsDamage image stops.Memory = Unit {0}
MeetsDamage image stops.BadRoot = ⊥

-- why a read of a block was answered so, on any pages, where this is known of the session: the bytes are those that a look-up of the block comes to; or a place that doesn't fit is
-- named; or the platform failed
abbrev pub ReadsAny : Type 0 → Image → Image → Session → ℕ → List ℕ → Result (Unit {0}) DeviceStop → Type 0
ReadsAny Known image after session block bytes (Ok done) = Known → FindsContent image.readable session.grove block bytes
ReadsAny Known image after session block bytes (Err (stops.BadRecord addr)) = Known → IsWrongPlace after addr
ReadsAny Known image after session block bytes (Err stops.Platform) = Unit {0}
ReadsAny Known image after session block bytes (Err stops.Memory) = ⊥
ReadsAny Known image after session block bytes (Err stops.Tape) = ⊥
ReadsAny Known image after session block bytes (Err stops.Ledger) = ⊥
ReadsAny Known image after session block bytes (Err stops.BadRoot) = ⊥

-- the same of a write: the block is mapped, or another one can be; what is named is a node's place that doesn't fit, and never that of a data record, or the root node of a tree that is
-- miscounted, where the block isn't mapped and no more can be
abbrev pub WritesAny : Type 0 → Image → Image → Session → ℕ → Result (Unit {0}) DeviceStop → Type 0
WritesAny Known image after session block (Ok done) = Known → IsFound true image.readable session block ⊎ HasRoom session
WritesAny Known image after session block (Err (stops.BadRecord addr)) = Known → IsWrongNode after addr ⊎ (IsMiscountedAt after addr × IsPastLimit image.readable session block addr)
WritesAny Known image after session block (Err stops.Platform) = Unit {0}
WritesAny Known image after session block (Err stops.Memory) = Unit {0}
WritesAny Known image after session block (Err stops.Tape) = Known → IsFound true image.readable session block ⊎ HasRoom session
WritesAny Known image after session block (Err stops.Ledger) = ⊥
WritesAny Known image after session block (Err stops.BadRoot) = ⊥

-- and of a trim: the block isn't mapped, or one is counted; what is named is a node's place that doesn't fit, or the root node of a tree that is miscounted, where the block is mapped and
-- none is counted
abbrev pub TrimsAny : Type 0 → Image → Image → Session → ℕ → Result (Unit {0}) DeviceStop → Type 0
TrimsAny Known image after session block (Ok done) = Known → IsFound false image.readable session block ⊎ (1 ≤ session.mapped)
TrimsAny Known image after session block (Err (stops.BadRecord addr)) = Known → IsWrongNode after addr ⊎ (IsMiscountedAt after addr × IsUncounted image.readable session block addr)
TrimsAny Known image after session block (Err stops.Platform) = Unit {0}
TrimsAny Known image after session block (Err stops.Memory) = Unit {0}
TrimsAny Known image after session block (Err stops.Tape) = ⊥
TrimsAny Known image after session block (Err stops.Ledger) = ⊥
TrimsAny Known image after session block (Err stops.BadRoot) = ⊥
