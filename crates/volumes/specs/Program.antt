-- What the server promises of a run.
use Rattle.std.specs.Prelude.{◌≡◌, ◌≢◌, ◌≤◌, ◌<◌, ◌+◌, ◌*◌, ◌⊎◌, ◌↔◌, ◌^◌, ℕ, List, [], All, length, flat_map, Option, None, Some, Result}
use Rattle.sdbt_base.specs.Counts.{NoneRose}
use Rattle.sdbt_base.specs.Told.{Gave, Got, IsAtEnd}
use Rattle.text_lines.specs.Lines.{lines_of}
use Rattle.device_terms.specs.Served.{IsServedImage}
use Rattle.session_calls.specs.Handed.{Handed, IsBlamedAt}
use Rattle.line_run.specs.declared.stop.Stop.TheVariants as stops
use Rattle.device_course.specs.Held.{Held}
use Rattle.session_calls.specs.declared.stops.DeviceStop.TheVariants as device
use Rattle.volume_table.specs.declared.volume.Volume.{Volume}
use Rattle.volume_lines.specs.Replies.{Reply, line_of}
use Rattle.volume_terms.specs.Counting.{IsNotShort, needed_for_line}
use Rattle.volume_terms.specs.Volumes.{IsTabled}
use Rattle.volumes.specs.Halts.{exit_of, last_line_of}
use Rattle.volumes.specs.Running.{ChangesRan, IsIdle, Ran}
use Rattle.volumes.specs.Starting.{HasNoTable, IsStart, SpellsNone}
use Rattle.volumes.specs.declared.halts.Halt.{Halt}
use Rattle.volumes.specs.declared.halts.Halt.TheVariants as halts

-- the statuses that there are
abbrev pub IsStatus : ℕ → Type 0
IsStatus status =
    (status ≡ 0) ⊎ (status ≡ 2) ⊎ (status ≡ 3) ⊎ (status ≡ 4) ⊎ (status ≡ 5) ⊎ (status ≡ 6) ⊎ (status ≡ 7) ⊎ (status ≡ 8) ⊎ (status ≡ 9) ⊎ (status ≡ 10) ⊎ (status ≡ 11) ⊎ (status ≡ 12)

-- what was taken when a run ended with this exit status, and what was left: 2^32 bytes at most; all of them at 12, and none where words are given, or there is no device or no table
pub record Took (status : ℕ) (taken : List ℕ) (left : Option (List ℕ)) : Type 0 where
  pub most : length taken ≤ 2 ^ 32
  pub whole : status ≡ 0 → (length taken < 2 ^ 32) × IsAtEnd left
  pub failed : status ≡ 3 → length taken < 2 ^ 32
  pub limit : status ≡ 12 → length taken ≡ 2 ^ 32
  pub nothing : (status ≡ 2) ⊎ (status ≡ 10) → taken ≡ []

-- the exit status is one that there is, and 2 exactly where words are given; one that names a fault comes only where the count of that object alone rose, and each other one where none
-- did
pub record Exits {S R I O L : Type 0} (words : List (List ℕ)) (status : ℕ) (old new : Handed S R I O L) : Type 0 where
  pub is : IsStatus status
  pub refused : (status ≡ 2) ↔ (words ≢ [])
  pub blame : IsBlamedAt status old.counts new.counts
  pub taken : (bytes : List ℕ) × Gave old.left bytes new.left × Took status bytes new.left

-- all but the output is as it was
abbrev pub IsAsBefore : {S R I O L : Type 0} → Type 0 → Handed S R I O L → Handed S R I O L → Type 0
IsAsBefore tells old new = IsIdle tells old.tape new.tape old.input new.input old.ledger new.ledger old.outside.head new.outside.head old.outside.history new.outside.history

-- this is all that was said
abbrev pub Said : {S R I O L : Type 0} → Halt → Handed S R I O L → Handed S R I O L → Type 0
Said halt old new = Got old.written (last_line_of halt) new.written

-- this status, unless the platform failed, or the line that says so could not be put
abbrev pub IsUnlessFault : ℕ → ℕ → Type 0
IsUnlessFault due status = (status ≡ due) ⊎ (status ≡ 4) ⊎ (status ≡ 5)

-- 8 comes exactly where the cell at the start is full and can't be served; 10 exactly where it is empty, or block 0 of the device has no table, unless memory was refused; but for faults of the
-- platform and the output. Then all is as it was but for the line that says so; at 2 all is
pub record Refuses {S R I O L : Type 0} (tells : Type 0) (words : List (List ℕ)) (status : ℕ) (old new : Handed S R I O L) : Type 0 where
  pub other_words : status ≡ 2 → (new.platform ≡ old.platform) × (new.tape ≡ old.tape) × (new.input ≡ old.input) × (new.output ≡ old.output) × (new.ledger ≡ old.ledger)
  pub as_before : tells → (status ≡ 8) ⊎ (status ≡ 10) → IsAsBefore tells old new
  pub bad_root_only : tells → status ≡ 8 → (IsServedImage old.outside.history.present → ⊥) × Said (halts.Stopped (stops.Device device.BadRoot)) old new
  pub bad_root : tells → (IsServedImage old.outside.history.present → ⊥) → words ≡ [] → IsUnlessFault 8 status
  pub refused_only : tells → status ≡ 10 → ((old.outside.history.present.cell ≡ None) × Said halts.NoDevice old new)
      ⊎ (SpellsNone old.outside.history.present × ((entry : Held) → IsStart tells old.outside entry → HasNoTable entry) × Said halts.BadDirectory old new)
  pub no_device : tells → old.outside.history.present.cell ≡ None → words ≡ [] → IsUnlessFault 10 status
  pub no_table : (entry : Held) → IsStart tells old.outside entry → HasNoTable entry → words ≡ [] → IsUnlessFault 10 status ⊎ (status ≡ 11)

-- the input is a text of less than 2^32 bytes, and for each of its lines 42 pages are free for each block of the device, and for one more
pub record IsAmple (left : Option (List ℕ)) (text : List ℕ) (blocks head capacity : ℕ) : Type 0 where
  pub text_is : left ≡ Some text
  pub short : length text < 2 ^ 32
  pub room : head + needed_for_line blocks * length (lines_of text) ≤ capacity

-- a run over the whole input: one reply for each line, none of them that too few pages were free
pub record IsComplete (text : List ℕ) (written written_now : Option (List ℕ)) : Type 0 where
  pub replies : List Reply
  pub got : Got written (flat_map line_of replies) written_now
  pub each : length replies ≡ length (lines_of text)
  pub roomy : All IsNotShort replies

-- a run, from the device that there was on, and how it ended. Over one whose block 0 has a table it completes, if no count of faults rises and enough pages are free
pub record Serving {S R I O L : Type 0} (tells : Type 0) (status : ℕ) (old new : Handed S R I O L) : Type 0 where
  pub ending : Result (Unit {0}) Halt
  pub status_is : status ≡ exit_of ending
  pub ran : Ran tells old.outside new.outside (IsAsBefore tells old new) old.left new.left old.written new.written ending
  pub complete : (entry : Held) → IsStart tells old.outside entry → (table : List Volume) → IsTabled entry table → (text : List ℕ) → IsAmple old.left text entry.device.blocks old.outside.head old.outside.capacity
      → NoneRose old.counts new.counts → (status ≡ 11) ⊎ ((status ≡ 0) × IsComplete text old.written new.written)

-- how often it synced all pages, or replaced the root record
abbrev pub SyncsFew : {S R I O L : Type 0} (tells : Type 0) (status : ℕ) (old new : Handed S R I O L) → Serving tells status old new → ℕ → ℕ → Type 0
SyncsFew tells status old new serving before now = ChangesRan tells old.outside new.outside (IsAsBefore tells old new) old.left new.left old.written new.written serving.ending serving.ran before now
