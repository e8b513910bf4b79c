-- How many pages a run leaves.
use Rattle.std.specs.Prelude.{◌≡◌, ◌≤◌, ◌⊎◌, ◌+◌, ◌*◌, ◌++◌, ℕ, List, Result, Ok, Err, length}
use Rattle.byte_arrays.specs.Ranges.{touched_blocks}
use Rattle.nbd_lang.specs.Refusals.{refusal}
use Rattle.nbd_lang.specs.Requests.{FitsRequest, request_head}
use Rattle.nbd_lang.specs.declared.requests.Request.{Request}
use Rattle.nbd_lang.specs.declared.requests.RequestKind.{RequestKind}
use Rattle.nbd_lang.specs.declared.requests.RequestKind.TheVariants as kinds
use Rattle.device_course.specs.Held.{Held}
use Rattle.device_course.specs.Leading.{last_of}
use Rattle.nbd_core.specs.Ample.{unless_refused}
use Rattle.nbd_core.specs.declared.stop.Stop.TheVariants as stops
use Rattle.nbd_core.specs.declared.halts.Halt.{Halt}
use Rattle.nbd_core.specs.declared.halts.Halt.TheVariants as halts

-- how many pages a request of this kind needs at most, behind so many updates: a write one for each
-- block that it touches, which is added as soon as its bytes are there; a commit 41 for each update
abbrev pub needed_at : RequestKind → ℕ → ℕ → ℕ → ℕ
needed_at kinds.Write updates offset n = length (touched_blocks offset n)
needed_at kinds.Flush updates offset n = 41 * updates
needed_at kinds.Disconnect updates offset n = 41 * updates
needed_at kinds.Read updates offset n = 0
needed_at kinds.Trim updates offset n = 0
needed_at (kinds.Other number) updates offset n = 0

-- and a request on a device of so many bytes: none where its head is refused
abbrev pub needed_for : ℕ → Request → ℕ → ℕ
needed_for size request updates = unless_refused (refusal size request) (needed_at request.kind updates request.offset request.length)

-- how many of these a run may leave that halts so: none where no memory was given, or where too few
-- are free
abbrev pub left_by : Halt → ℕ → ℕ
left_by halts.Memory needed = 0
left_by halts.Unfinished needed = 0
left_by (halts.Client stop) needed = needed
left_by halts.Platform needed = needed
left_by halts.Tape needed = needed
left_by halts.Ledger needed = needed
left_by halts.BadRoot needed = needed
left_by halts.NoDevice needed = needed

-- there are as many pages as in this state, or more: at most as many more as are left of those that
-- the request needs with which these bytes begin
abbrev pub HasAdded : ℕ → List ℕ → (ℕ → ℕ) → ℕ → Held → Type 0
HasAdded size rest left now last =
    (now ≡ last.pages)
    ⊎ ((request : Request) × (more : List ℕ) × FitsRequest request × (rest ≡ request_head request ++ more) × (last.pages ≤ now) × (now ≤ last.pages + left (needed_for size request last.updates)))

-- how many pages there are where requests ended so, with a rest behind those that have their reply: as
-- many as in the last state, or in the one ahead of it; and only where a request was cut short perhaps
-- more
abbrev pub IsNear : ℕ → List ℕ → Result (Unit {0}) Halt → ℕ → Held → List Held → Type 0
IsNear size rest (Ok done) now last ahead = now ≡ (last_of last ahead).pages
IsNear size rest (Err (halts.Client stops.Sink)) now last ahead = now ≡ (last_of last ahead).pages
IsNear size rest (Err halt) now last ahead = HasAdded size rest (left_by halt) now last
