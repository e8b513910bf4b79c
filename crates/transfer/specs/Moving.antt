-- From which devices the calls of a move lead to which.
use Rattle.std.specs.Prelude.{◌≡◌, ◌<◌, ◌+◌, ◌*◌, ◌⊎◌, ◌↔◌, ℕ, length, Bool, List, [], ◌∷◌, Option, None, Some, Result, Ok, Err, IsTrue, All, IfErr, IfOk}
use Rattle.std.specs.FinMap as map
use Rattle.sdbt_base.specs.Arrays.{Device, Session as OpenSession, closed, committed, committed_if, content_of, mounted, new_device}
use Rattle.platform.specs.Image.{Image}
use Rattle.platform.specs.History.{History}
use Rattle.page_store.specs.Stands.{Stands}
use Rattle.device_terms.specs.Served.{IsServedImage}
use Rattle.device_course.specs.Course.{Made, MadeBetween}
use Rattle.device_course.specs.Marks.{last_mark}
use Rattle.device_course.specs.States.{IsAt}
use Rattle.device_session.specs.Sessions.{Session}
use Rattle.session_calls.specs.declared.stops.DeviceStop.{DeviceStop}
use Rattle.session_calls.specs.declared.stops.DeviceStop.TheVariants as device
use Rattle.transfer.specs.Copies.{HasCopy, IsCopy, IsOnWay, IsOther}
use Rattle.transfer.specs.Halts.{EndsAs}
use Rattle.transfer.specs.Refusals.{AreUnlike, IsRefused}
use Rattle.transfer.specs.Running.{HasMapped, HasNumber, HasSome, Looked, LookedThere, MeetsWrong}
use Rattle.transfer.specs.Whole.{MovesWhole}
use Rattle.transfer.specs.declared.halts.Halt.{Halt}
use Rattle.transfer.specs.declared.halts.Halt.TheVariants as halts
use Rattle.transfer.specs.declared.halts.Moved.{Moved}

-- no record and no root record was met that doesn't fit
abbrev pub IsSoundStop : DeviceStop → Type 0
IsSoundStop device.BadRoot = ⊥
IsSoundStop (device.BadRecord addr) = ⊥
IsSoundStop _ = Unit {0}

-- the same of a halt at which both devices were only read, and of one of a move between open sessions
abbrev pub IsReadHalt : Halt → Type 0
IsReadHalt (halts.From stop) = IsSoundStop stop
IsReadHalt (halts.To stop) = IsSoundStop stop
IsReadHalt _ = ⊥

abbrev pub IsSoundHalt : Halt → Type 0
IsSoundHalt halts.Full = Unit {0}
IsSoundHalt halt = IsReadHalt halt

-- a block of a session's array was read
abbrev pub ReadsHere : Image → Session → Device → OpenSession → ℕ → List ℕ → Result (Unit {0}) Halt → Type 0
ReadsHere image now there array block bytes (Ok done) = IsAt image (Some now) (mounted there array) × (bytes ≡ content_of array.contents block)
ReadsHere image now there array block bytes (Err halt) = IsReadHalt halt

-- the session has this array now
abbrev pub WritesHere : Image → Session → Device → OpenSession → Result (Unit {0}) Halt → Type 0
WritesHere image now there array (Ok done) = IsAt image (Some now) (mounted there array)
WritesHere image now there array (Err halt) = IsSoundHalt halt

-- both sessions have the arrays that they had, and whether they are alike there is this
abbrev pub Matches : Image → Image → Session → Session → Device → Device → OpenSession → OpenSession → Type 0 → Result Bool Halt → Type 0
Matches from to source target device there array other Alike (Ok same) = IsAt from (Some source) (mounted device array) × IsAt to (Some target) (mounted there other) × (IsTrue same ↔ Alike)
Matches from to source target device there array other Alike (Err halt) = IsReadHalt halt

-- the first session has the array that it had, and the second one this
abbrev pub Copies : Image → Image → Session → Session → Device → Device → OpenSession → OpenSession → Result (Unit {0}) Halt → Type 0
Copies from to source target device there array other (Ok done) = IsAt from (Some source) (mounted device array) × IsAt to (Some target) (mounted there other)
Copies from to source target device there array other (Err halt) = IsSoundHalt halt

-- the device has the session's array now, if that was changed, and this number; or no record was met that doesn't fit, and the device stayed, or has that array
abbrev pub Commits : History → History → Device → OpenSession → Result ℕ Halt → Type 0
Commits old new there other (Ok number) = (number ≡ (committed_if other.touched there other).number) × MadeBetween old new there (Some (committed_if other.touched there other) ∷ []) (committed_if other.touched there other)
Commits old new there other (Err halt) = IsSoundHalt halt × (MadeBetween old new there [] there ⊎ MadeBetween old new there (Some (committed there other) ∷ []) (committed there other))

-- fewer pages are free than 42 for each mapped block of a device, and so many more
abbrev pub IsShort : Device → ℕ → ℕ → Type 0
IsShort device more free = free < 42 * length (map.keys device.contents) + more

-- a halt of a move to this device, or to none: at another device, or where it isn't a copy and too few pages were free, or at no record that doesn't fit
abbrev pub IsHalt : Device → Option Device → Type 0 → Halt → Type 0
IsHalt device there Short halts.NotEmpty = IsOther device there
IsHalt device there Short halts.Full = Short × (HasCopy device there → ⊥)
IsHalt device there Short halt = IsReadHalt halt

-- nothing is moved to another device: the run halts at it, or at a fault, or no memory is given
abbrev pub Refuses : {X : Type 0} → Result X Halt → Type 0
Refuses (Ok done) = ⊥
Refuses (Err halts.NotEmpty) = Unit {0}
Refuses (Err (halts.From stop)) = Unit {0}
Refuses (Err (halts.To stop)) = Unit {0}
Refuses (Err halt) = ⊥

-- on any images: why nothing was moved, and that nothing is where the devices are of other sizes, or their trees of other orders
pub record Refusing {X : Type 0} (from_tells to_tells : Type 0) (from to : Image) (free : ℕ) (result : Result X Halt) : Type 0 where
  pub refused : IfErr result (λ halt. from_tells → to_tells → IsRefused from to free halt)
  pub unlike : from_tells → to_tells → AreUnlike from to → Refuses result

-- from the device that there was, or none, these others were made in their order, each never written or a copy; where all was done the last is a copy with this number. Too few pages
-- were free where this holds
pub record Reaches (old new : History) (device : Device) (there : Option Device) (Short : Type 0) (result : Result ℕ Halt) : Type 0 where
  pub made : List (Option Device)
  pub each : All (IsOnWay device) made
  pub came : Made old new None (closed there) made (closed (last_mark there made))
  pub done : IfOk result (λ number. (copy : Device) × (last_mark there made ≡ Some copy) × IsCopy device copy × (number ≡ copy.number))
  pub halts : IfErr result (IsHalt device there Short)
  pub other : IsOther device there → Refuses result

-- before a session was open the run halted: what there was is left, or a new device of so many blocks and of this order came
pub record OpensNone (old new : History) (there : Option Device) (blocks order free : ℕ) (halt : Halt) : Type 0 where
  pub made : List (Option Device)
  pub each : All (λ next. next ≡ Some (new_device blocks order)) made
  pub came : Made old new None (closed there) made (closed (last_mark there made))
  pub sound : IsSoundHalt halt
  pub full : halt ≡ halts.Full → (there ≡ None) × (free ≡ 0)

-- the same of a whole move: the device that is moved is left, or its root record was cleared, and only once the last of the others was a copy
pub record Moves (from from_now to to_now : History) (device : Device) (there : Option Device) (Short : Type 0) (result : Result Moved Halt) : Type 0 where
  pub marks : List (Option Device)
  pub left : Made from from_now None (closed (Some device)) marks (closed (last_mark (Some device) marks))
  pub cleared : (marks ≡ []) ⊎ (marks ≡ None ∷ [])
  pub made : List (Option Device)
  pub each : All (IsOnWay device) made
  pub came : Made to to_now None (closed there) made (closed (last_mark there made))
  pub safe : marks ≡ None ∷ [] → (copy : Device) × (last_mark there made ≡ Some copy) × IsCopy device copy
  pub done : IfOk result (λ moved. (marks ≡ None ∷ []) × (copy : Device) × (last_mark there made ≡ Some copy) × IsCopy device copy × (moved.number ≡ copy.number))
  pub halts : IfErr result (IsHalt device there Short)
  pub other : IsOther device there → Refuses result

-- how a run ended, and what it said, by whether something was moved
pub record Went (from_tells to_tells : Type 0) (from from_now to to_now : History) (free : ℕ) (ending : Result (Unit {0}) Halt) (written written_now : Option (List ℕ)) : Type 0 where
  pub moved : Result Moved Halt
  pub said : EndsAs moved ending written written_now
  pub wrong : IfErr moved (MeetsWrong from_tells to_tells (HasSome to.present) ⊥ from_now.present to_now.present)
  pub looked : Looked from_tells from.present moved
  pub there : LookedThere to_tells to.present moved
  pub mapped : IfOk moved (λ one. from_tells → HasMapped from.present one.blocks)
  pub number : IfOk moved (λ one. to_tells → HasNumber to_now.present one.number)
  pub whole : MovesWhole from_tells to_tells from.present from_now.present to to_now moved
  pub refused : IfErr moved (λ halt. from_tells → to_tells → IsRefused from.present to.present free halt)
  pub unlike : from_tells → to_tells → AreUnlike from.present to.present → Refuses moved
  pub leads : from_tells → to_tells → (device : Device) (there : Option Device) → Stands from.present (Some device) → IsServedImage from.present → Stands to.present there → IsServedImage to.present
      → Moves from from_now to to_now device there (IsShort device 1 free) moved
