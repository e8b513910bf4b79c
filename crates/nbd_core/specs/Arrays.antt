-- What calls make of the bytes of a session's array.
use Rattle.std.specs.Prelude.{◌≡◌, ◌≤◌, ◌⊎◌, ◌+◌, ◌*◌, ℕ, List, Some, Result, Ok, Err, length, take, drop}
use Rattle.sdbt_base.specs.Arrays.{Device, Session as OpenSession, content_of, mounted, written}
use Rattle.platform.specs.Image.{Image}
use Rattle.byte_arrays.specs.Arrays.{bytes_at, with_bytes}
use Rattle.byte_arrays.specs.Parts.{IsPart}
use Rattle.device_course.specs.States.{IsAt}
use Rattle.device_session.specs.Open.{needed_by}
use Rattle.device_session.specs.Sessions.{Session}
use Rattle.nbd_lang.specs.declared.replies.Outcome.{Outcome}
use Rattle.nbd_lang.specs.declared.replies.Outcome.TheVariants as outcomes
use Rattle.nbd_terms.specs.Bytes.{array_of, write_all}
use Rattle.session_calls.specs.declared.stops.DeviceStop.{DeviceStop}
use Rattle.session_calls.specs.declared.stops.DeviceStop.TheVariants as stops

-- a read of bytes leaves the array; where it was done, these are its bytes from the place on
abbrev pub ReadsBytes : Image → Session → Device → OpenSession → ℕ → List ℕ → Result (Unit {0}) DeviceStop → Type 0
ReadsBytes image now device array place bytes (Ok done) = IsAt image (Some now) (mounted device array) × (bytes ≡ bytes_at (array_of array) place (length bytes))
ReadsBytes image now device array place bytes (Err stops.Platform) = IsAt image (Some now) (mounted device array)
ReadsBytes image now device array place bytes (Err stops.Memory) = ⊥
ReadsBytes image now device array place bytes (Err stops.Tape) = ⊥
ReadsBytes image now device array place bytes (Err stops.Ledger) = ⊥
ReadsBytes image now device array place bytes (Err stops.BadRoot) = ⊥
ReadsBytes image now device array place bytes (Err (stops.BadRecord addr)) = ⊥

-- a trim or a write that came to this outcome did so many of its blocks, the first ones: all where it
-- was done; and no record that doesn't fit was met
pub record DidSome (blocks : List ℕ) (outcome : Outcome) (n : ℕ) : Type 0 where
  pub few : n ≤ length blocks
  pub sound : (outcome ≡ outcomes.Done) ⊎ (outcome ≡ outcomes.NoMemory)
  pub all : outcome ≡ outcomes.Done → n ≡ length blocks

-- what a block is to hold in which a part of some bytes is written: what any array has there with all
-- of them in their place that had there before what the block held
pub record IsPatched (array : OpenSession) (block start count : ℕ) (bytes content : List ℕ) : Type 0 where
  pub size : length content ≡ 4096
  pub is : (target : ℕ → ℕ) (offset : ℕ) (all : List ℕ) (done : ℕ) → IsPart offset (length all) done block start count → bytes ≡ take count (drop done all)
      → (length (content_of array.contents block) ≡ 4096 → content_of array.contents block ≡ bytes_at target (4096 * block) 4096)
      → content ≡ bytes_at (with_bytes target offset all) (4096 * block) 4096

-- a write of a part of a block: it is written, or the array is as it was
abbrev pub WritesPart : Image → Session → Device → OpenSession → ℕ → ℕ → ℕ → List ℕ → Result (Unit {0}) DeviceStop → Type 0
WritesPart image now device array block start count bytes (Ok done) = (content : List ℕ) × IsPatched array block start count bytes content × IsAt image (Some now) (mounted device (written array block content))
WritesPart image now device array block start count bytes (Err stops.Memory) = IsAt image (Some now) (mounted device array)
WritesPart image now device array block start count bytes (Err stops.Platform) = IsAt image (Some now) (mounted device array)
WritesPart image now device array block start count bytes (Err stops.Tape) = IsAt image (Some now) (mounted device array)
WritesPart image now device array block start count bytes (Err stops.Ledger) = ⊥
WritesPart image now device array block start count bytes (Err stops.BadRoot) = ⊥
WritesPart image now device array block start count bytes (Err (stops.BadRecord addr)) = ⊥

-- a range that was written up to this outcome: so many of its blocks, each with what the array is to have
-- there with these bytes in their place from the offset on; each is a page
pub record WroteRange (image : Image) (head head_now needed : ℕ) (now : Session) (device : Device) (array : OpenSession) (offset : ℕ) (bytes : List ℕ) (blocks : List ℕ) (outcome : Outcome) : Type 0 where
  pub many : ℕ
  pub did : DidSome blocks outcome many
  pub pages : head_now ≡ head + many
  pub needs : needed_by now ≤ needed + 41 * many
  pub at : IsAt image (Some now) (mounted device (write_all array (with_bytes (array_of array) offset bytes) (take many blocks)))

-- how many pages a write of a block adds
abbrev pub AddsOne : ℕ → ℕ → Result (Unit {0}) DeviceStop → Type 0
AddsOne head head_now (Ok done) = head_now ≡ head + 1
AddsOne head head_now (Err stops.Memory) = head_now ≡ head
AddsOne head head_now (Err (stops.BadRecord addr)) = head_now ≡ head
AddsOne head head_now (Err stops.Platform) = Unit {0}
AddsOne head head_now (Err stops.Tape) = Unit {0}
AddsOne head head_now (Err stops.Ledger) = Unit {0}
AddsOne head head_now (Err stops.BadRoot) = Unit {0}
