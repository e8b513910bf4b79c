-- A run, from the look at the cell on.
use Rattle.std.specs.Prelude.{◌≡◌, ◌≢◌, ◌⊎◌, ◌^◌, ◌*◌, ℕ, List, [], Option, None, Some, Result, Ok, Err, IfErr}
use Rattle.sdbt_base.specs.Arrays.{Device}
use Rattle.platform.specs.Image.{Image}
use Rattle.platform.specs.History.{History, During}
use Rattle.page_store.specs.Stands.{Stands}
use Rattle.device_terms.specs.Served.{IsServedImage}
use Rattle.device_course.specs.States.{Outside}
use Rattle.session_calls.specs.declared.stops.DeviceStop.{DeviceStop}
use Rattle.session_calls.specs.declared.stops.DeviceStop.TheVariants as device
use Rattle.device_course.specs.Held.{Held}
use Rattle.nbd_core.specs.Room.{Room}
use Rattle.nbd_core.specs.Haggling.{Haggled}
use Rattle.nbd_core.specs.Served.{Served}
use Rattle.nbd_core.specs.Turns.{IsStart, Stayed}
use Rattle.nbd_core.specs.declared.stop.Stop.{Stop}
use Rattle.nbd_core.specs.declared.stop.Stop.TheVariants as stops
use Rattle.nbd_core.specs.declared.halts.Halt.{Halt}
use Rattle.nbd_core.specs.declared.halts.Halt.TheVariants as halts
use Rattle.nbd_core.specs.declared.haggling.Agreed.{Agreed}
use Rattle.nbd_core.specs.declared.haggling.Agreed.TheVariants as agreed
use Rattle.nbd_core.specs.Changes.{Tally}

-- all that a run is handed is as it was, at each moment
pub record Untouched {R I O L : Type 0} (tells : Type 0) (tape tape_now : R) (input input_now : I) (output output_now : O) (ledger ledger_now : L) (head head_now : ℕ) (old new : History) : Type 0 where
  pub undrawn : tape_now ≡ tape
  pub untaken : input_now ≡ input
  pub unput : output_now ≡ output
  pub unlisted : ledger_now ≡ ledger
  pub pages : head_now ≡ head
  pub image : tells → During old new (λ image. image ≡ old.present)

-- why a run ends at its look at the cell
abbrev pub IsCellHalt : Halt → Type 0
IsCellHalt halts.BadRoot = Unit {0}
IsCellHalt halts.NoDevice = Unit {0}
IsCellHalt halts.Platform = ⊥
IsCellHalt halts.Tape = ⊥
IsCellHalt halts.Ledger = ⊥
IsCellHalt halts.Unfinished = ⊥
IsCellHalt halts.Memory = ⊥
IsCellHalt (halts.Client stop) = ⊥

-- what the look at the cell finds: where it can't be served or is empty the run ends so, or the
-- platform failed; and only there, with nothing done
pub record Looked {X : Type 0} (tells : Type 0) (image : Image) (Nothing : Type 0) (result : Result X Halt) : Type 0 where
  pub bad : tells → (IsServedImage image → ⊥) → (result ≡ Err halts.BadRoot) ⊎ (result ≡ Err halts.Platform)
  pub empty : tells → image.cell ≡ None → (result ≡ Err halts.NoDevice) ⊎ (result ≡ Err halts.Platform)
  pub bad_only : tells → result ≡ Err halts.BadRoot → IsServedImage image → ⊥
  pub empty_only : tells → result ≡ Err halts.NoDevice → image.cell ≡ None
  pub nothing : tells → IfErr result (λ halt. IsCellHalt halt → Nothing)

-- the stops of a look at the cell, and of a mount
abbrev pub OfCell : DeviceStop → Type 0
OfCell device.BadRoot = Unit {0}
OfCell device.Platform = Unit {0}
OfCell device.Tape = ⊥
OfCell device.Ledger = ⊥
OfCell device.Memory = ⊥
OfCell (device.BadRecord addr) = ⊥

abbrev pub cell_halt : DeviceStop → Halt
cell_halt device.BadRoot = halts.BadRoot
cell_halt _ = halts.Platform

abbrev pub OfMount : DeviceStop → Type 0
OfMount device.BadRoot = Unit {0}
OfMount device.Platform = Unit {0}
OfMount device.Memory = Unit {0}
OfMount device.Tape = ⊥
OfMount device.Ledger = ⊥
OfMount (device.BadRecord addr) = ⊥

abbrev pub mount_halt : DeviceStop → Halt
mount_halt device.BadRoot = halts.BadRoot
mount_halt device.Memory = halts.Memory
mount_halt _ = halts.Platform

-- the cell is full, and can be served
pub record IsOnCell (image : Image) : Type 0 where
  pub full : image.cell ≢ None
  pub served : IsServedImage image

-- how a run goes on behind the options, and so many looks at the cell: with requests, or not at all
abbrev pub GoesOn : (Held → Type 0) → Type 0 → Tally → Outside → Outside → ℕ → Result Agreed Stop → Room → Option (List ℕ) → Option (List ℕ) → Option (List ℕ) → Option (List ℕ) → Result (Unit {0}) Halt → Type 0
GoesOn From tells tally before after size (Ok agreed.Requests) room left left_now written written_now result = (last : Room) × Served From tells tally before after size left left_now room last written written_now result
GoesOn From tells tally before after size (Ok agreed.Nothing) room left left_now written written_now result = (left_now ≡ left) × (written_now ≡ written) × (result ≡ Ok tt) × Stayed From tells tally before after
GoesOn From tells tally before after size (Err stop) room left left_now written written_now result = (left_now ≡ left) × (written_now ≡ written) × (result ≡ Err (halts.Client stop)) × Stayed From tells tally before after

-- what is said on a device of so many bytes: with nothing taken yet the greeting and the answers to
-- options, and what goes on from there
pub record Conversed (From : Held → Type 0) (tells : Type 0) (tally : Tally) (before after : Outside) (size : ℕ) (left left_now written written_now : Option (List ℕ)) (result : Result (Unit {0}) Halt) : Type 0 where
  pub first : Room
  pub room : Room
  pub fresh : (first.ahead ≡ []) × (first.left ≡ 2 ^ 40)
  pub left_then : Option (List ℕ)
  pub written_then : Option (List ℕ)
  pub agreed : Result Agreed Stop
  pub haggled : Haggled size left left_then first room written written_then agreed
  pub limit : IfErr agreed (λ stop. stop ≡ stops.Limit → room.left ≡ 0)
  pub goes_on : GoesOn From tells tally before after size agreed room left_then left_now written_then written_now result

-- a run that ends before it says anything
abbrev pub IsEarly : Result (Unit {0}) Halt → Type 0
IsEarly (Ok done) = ⊥
IsEarly (Err halts.BadRoot) = Unit {0}
IsEarly (Err halts.NoDevice) = Unit {0}
IsEarly (Err halts.Platform) = Unit {0}
IsEarly (Err halts.Memory) = Unit {0}
IsEarly (Err halts.Tape) = ⊥
IsEarly (Err halts.Ledger) = ⊥
IsEarly (Err halts.Unfinished) = ⊥
IsEarly (Err (halts.Client stop)) = ⊥

pub record IsSilent (From : Held → Type 0) (tells : Type 0) (tally : Tally) (before after : Outside) (left left_now written written_now : Option (List ℕ)) (result : Result (Unit {0}) Halt) : Type 0 where
  pub untaken : left_now ≡ left
  pub unput : written_now ≡ written
  pub early : IsEarly result
  pub stayed : Stayed From tells tally before after

-- a run says nothing, or has such a talk, behind so many looks at the cell
abbrev pub Says : (Held → Type 0) → Type 0 → Tally → Outside → Outside → ℕ → Option (List ℕ) → Option (List ℕ) → Option (List ℕ) → Option (List ℕ) → Result (Unit {0}) Halt → Type 0
Says From tells tally before after size left left_now written written_now result =
    IsSilent From tells tally before after left left_now written written_now result ⊎ Conversed From tells tally before after size left left_now written written_now result

-- the same on a device: the one that the image stands for
pub record Conversation (tells : Type 0) (tally : Tally) (before after : Outside) (left left_now written written_now : Option (List ℕ)) (result : Result (Unit {0}) Halt) : Type 0 where
  pub size : ℕ
  pub is : tells → (there : Device) → Stands before.history.present (Some there) → size ≡ 4096 * there.blocks
  pub conversed : Conversed (IsStart tells before) tells tally before after size left left_now written written_now result

-- a run says nothing, or has a conversation, on the array of bytes of the device that there is, if the
-- image stands for one, behind so many looks at the cell
abbrev pub Talks : Type 0 → Tally → Outside → Outside → Option (List ℕ) → Option (List ℕ) → Option (List ℕ) → Option (List ℕ) → Result (Unit {0}) Halt → Type 0
Talks tells tally before after left left_now written written_now result =
    IsSilent (IsStart tells before) tells tally before after left left_now written written_now result ⊎ Conversation tells tally before after left left_now written written_now result
