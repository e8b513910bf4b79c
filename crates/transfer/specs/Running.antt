-- What a run leaves of both platforms.
use Rattle.std.specs.Prelude.{◌≡◌, ◌≢◌, ◌≤◌, ◌⊎◌, ℕ, List, [], ◌∷◌, Option, None, Some, Result, Ok, Err}
use Rattle.sdbt_base.specs.Arrays.{Device, State, closed, mounted, new_device, session_on}
use Rattle.platform.specs.declared.platforms.Platform.{Ghosts as PlatformGhosts}
use Rattle.platform.specs.Image.{Image}
use Rattle.platform.specs.History.{Turns}
use Rattle.root_codec.specs.RootRecord.{root_bytes}
use Rattle.root_codec.specs.declared.root.Root.{Root}
use Rattle.page_store.specs.Kept.{IsRootOf}
use Rattle.page_store.specs.Stands.{Stands}
use Rattle.device_terms.specs.Served.{IsServedImage}
use Rattle.device_course.specs.Course.{Made}
use Rattle.device_course.specs.Keys.{KeepsOn}
use Rattle.device_course.specs.States.{IsAt, IsListed, Outside, outside}
use Rattle.device_session.specs.Open.{number_of}
use Rattle.device_session.specs.Sessions.{Session}
use Rattle.device_session.specs.declared.refusals.CommitReply.{CommitReply}
use Rattle.device_session.specs.declared.refusals.CommitReply.TheVariants as replies
use Rattle.session_calls.specs.Carrying.{IsReady}
use Rattle.session_calls.specs.Damage.{IsWrongPlace, IsWrongStep}
use Rattle.session_calls.specs.declared.stops.DeviceStop.TheVariants as device
use Rattle.transfer.specs.Listing.{StopsListingAt}
use Rattle.transfer.specs.declared.halts.Halt.{Halt}
use Rattle.transfer.specs.declared.halts.Halt.TheVariants as halts

-- a platform without a tape and a ledger
abbrev pub alone : {S : Type 0} → PlatformGhosts S → S → Outside
alone P platform = outside (P.history platform) (P.head platform) (P.capacity platform) (P.reads platform) None None

-- the device that a session was opened on, where this one was there: the same; or, where none was, a new one of so many blocks and of this order, which was made
abbrev pub IsOpened : Option Device → List (Option Device) → Device → ℕ → ℕ → Type 0
IsOpened there marks opened blocks order =
    ((there ≡ Some opened) × (marks ≡ []))
    ⊎ ((there ≡ None) × (opened ≡ new_device blocks order) × (marks ≡ Some opened ∷ []))

-- a session without a change was opened on the device that there is, or on a new one
pub record Opens (tells : Type 0) (blocks order : ℕ) (old new : Outside) (session : Session) : Type 0 where
  pub ready : IsReady tells new session
  pub capacity : new.capacity ≡ old.capacity
  pub rises : old.head ≤ new.head
  pub keeps : KeepsOn tells old.drawn new.drawn old.written new.written None old.history new.history (Unit {0}) (IsListed (Some session) new.history.present)
  pub made : tells → (there : Option Device) → Stands old.history.present there → IsServedImage old.history.present
      → (marks : List (Option Device)) × (opened : Device) × IsOpened there marks opened blocks order × (number_of session ≡ opened.number)
      × Made old.history new.history (Some session) (closed there) marks (mounted opened (session_on opened))

-- a part of a run that began with this session: the cell stayed, until a moment from which on it is empty; no page was added, and no key drawn. The device stayed, or it was cleared,
-- which it was where all is done
pub record Clears (tells : Type 0) (before : Option Session) (old new : Outside) (Done : Type 0) : Type 0 where
  pub head : new.head ≡ old.head
  pub capacity : new.capacity ≡ old.capacity
  pub turns : tells → Turns old.history new.history (λ image. image.cell ≡ old.history.present.cell) (λ image. image.cell ≡ None)
  pub keeps : KeepsOn tells old.drawn new.drawn old.written new.written before old.history new.history (Unit {0}) (λ keys. Unit {0})
  pub made : tells → (entry : State) → IsAt old.history.present before entry
      → ((Done → ⊥) × Made old.history new.history None entry [] (closed entry.device)) ⊎ Made old.history new.history None entry (None ∷ []) (closed None)

-- what is named of the device that is moved: where a listing of its blocks stops, or a record that doesn't fit its place
abbrev pub IsWrongHere : Image → ℕ → Type 0
IsWrongHere image addr = StopsListingAt image addr ⊎ IsWrongPlace image addr

-- what is named of the device that another one is moved to: where a listing of its blocks stops; where a change of a block does, only where blocks are written; and any other record that doesn't
-- fit, as that of a block, only where blocks are compared
abbrev pub IsWrongThere : Type 0 → Type 0 → Image → ℕ → Type 0
IsWrongThere Compared Written image addr = StopsListingAt image addr ⊎ (IsWrongStep image addr × Written) ⊎ (IsWrongPlace image addr × Compared)

-- a record that is named is such a one of its platform, on any pages, where that tells
abbrev pub MeetsWrong : Type 0 → Type 0 → Type 0 → Type 0 → Image → Image → Halt → Type 0
MeetsWrong from_tells to_tells Compared Written from to (halts.From (device.BadRecord addr)) = from_tells → IsWrongHere from addr
MeetsWrong from_tells to_tells Compared Written from to (halts.To (device.BadRecord addr)) = to_tells → IsWrongThere Compared Written to addr
MeetsWrong from_tells to_tells Compared Written from to _ = Unit {0}

-- blocks are compared only with those that are mapped in a device that there is: the root record in its cell says that some are
abbrev pub HasSome : Image → Type 0
HasSome image = (root : Root) × IsRootOf image root × (1 ≤ root.mapped)

-- a halt behind the mount of the device that is moved
abbrev pub IsBehindMount : Halt → Type 0
IsBehindMount halts.NoDevice = ⊥
IsBehindMount halts.Output = ⊥
IsBehindMount (halts.From device.BadRoot) = ⊥
IsBehindMount _ = Unit {0}

-- the same behind the mount of both devices
abbrev pub IsBehindBoth : Halt → Type 0
IsBehindBoth (halts.To device.BadRoot) = ⊥
IsBehindBoth halt = IsBehindMount halt

-- where the cell of the device that is moved is empty, or can't be served, the run halts so, or its platform failed; and only there
pub record Looked {X : Type 0} (tells : Type 0) (image : Image) (result : Result X Halt) : Type 0 where
  pub bad : tells → (IsServedImage image → ⊥) → (result ≡ Err (halts.From device.BadRoot)) ⊎ (result ≡ Err (halts.From device.Platform))
  pub empty : tells → image.cell ≡ None → (result ≡ Err halts.NoDevice) ⊎ (result ≡ Err (halts.From device.Platform))
  pub bad_only : tells → result ≡ Err (halts.From device.BadRoot) → IsServedImage image → ⊥
  pub empty_only : tells → result ≡ Err halts.NoDevice → image.cell ≡ None

-- so many blocks are mapped, as the root record in the cell has it
abbrev pub HasMapped : Image → ℕ → Type 0
HasMapped image blocks = (root : Root) × (image.cell ≡ Some (root_bytes root)) × (blocks ≡ root.mapped)

-- and the root record in the cell has this commit number
abbrev pub HasNumber : Image → ℕ → Type 0
HasNumber image number = (root : Root) × (image.cell ≡ Some (root_bytes root)) × (number ≡ root.commit)

-- a halt before the second device's root record is told of, or at it
abbrev pub IsAtRoot : {X : Type 0} → Result X Halt → Type 0
IsAtRoot (Err halts.NoDevice) = Unit {0}
IsAtRoot (Err (halts.From stop)) = Unit {0}
IsAtRoot (Err (halts.To device.BadRoot)) = Unit {0}
IsAtRoot (Err (halts.To device.Platform)) = Unit {0}
IsAtRoot _ = ⊥

-- where the cell of the device that it is moved to can't be served, the run halts so, unless it did at the first one, or the second platform failed; and only there
pub record LookedThere {X : Type 0} (tells : Type 0) (image : Image) (result : Result X Halt) : Type 0 where
  pub bad : tells → (IsServedImage image → ⊥) → IsAtRoot result
  pub bad_only : tells → result ≡ Err (halts.To device.BadRoot) → IsServedImage image → ⊥

-- a halt of the device that is moved, and of the one that it is moved to: at a record that is named so, on any pages; or since a platform, the tape or the ledger failed, no memory was given, or
-- too few pages are free
abbrev pub HaltsFrom : Type 0 → Image → Halt → Type 0
HaltsFrom tells image (halts.From (device.BadRecord addr)) = tells → IsWrongHere image addr
HaltsFrom tells image (halts.From device.Platform) = Unit {0}
HaltsFrom tells image (halts.From device.Memory) = Unit {0}
HaltsFrom tells image _ = ⊥

abbrev pub HaltsTo : Type 0 → Type 0 → Type 0 → Image → Halt → Type 0
HaltsTo tells Compared Written image halts.Full = Unit {0}
HaltsTo tells Compared Written image (halts.To (device.BadRecord addr)) = tells → IsWrongThere Compared Written image addr
HaltsTo tells Compared Written image (halts.To device.Platform) = Unit {0}
HaltsTo tells Compared Written image (halts.To device.Tape) = Unit {0}
HaltsTo tells Compared Written image (halts.To device.Ledger) = Unit {0}
HaltsTo tells Compared Written image (halts.To device.Memory) = Unit {0}
HaltsTo tells Compared Written image _ = ⊥

-- a halt that isn't for want of memory
abbrev pub WantsNoMemory : Halt → Type 0
WantsNoMemory halt = (halt ≢ halts.From device.Memory) × (halt ≢ halts.To device.Memory)

-- a halt at which no session is open on the second platform: no record is named
abbrev pub IsOfOpening : Halt → Type 0
IsOfOpening halts.NotEmpty = Unit {0}
IsOfOpening halts.Full = Unit {0}
IsOfOpening (halts.To device.Platform) = Unit {0}
IsOfOpening (halts.To device.Tape) = Unit {0}
IsOfOpening (halts.To device.Ledger) = Unit {0}
IsOfOpening (halts.To device.BadRoot) = Unit {0}
IsOfOpening (halts.To device.Memory) = Unit {0}
IsOfOpening _ = ⊥

-- and at a commit
abbrev pub IsOfCommit : Halt → Type 0
IsOfCommit halts.Full = Unit {0}
IsOfCommit (halts.To device.Platform) = Unit {0}
IsOfCommit (halts.To device.Tape) = Unit {0}
IsOfCommit (halts.To device.Ledger) = Unit {0}
IsOfCommit (halts.To device.Memory) = Unit {0}
IsOfCommit _ = ⊥

-- the number that a commit answered, or that too few pages are free
abbrev pub IsNumberOf : CommitReply → Result ℕ Halt → Type 0
IsNumberOf (replies.Committed number) result = result ≡ Ok number
IsNumberOf (replies.Full needed free) result = result ≡ Err halts.Full
