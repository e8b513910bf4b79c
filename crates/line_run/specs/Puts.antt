-- What a run over lines has put, and how much it took before.
use Rattle.std.specs.Prelude.{◌≡◌, ℕ, ◌≤◌, ◌⊎◌, List, [], ◌∷◌, ◌++◌, Option, Ok, Err, take, length, codes}
use Rattle.std.specs.Fmt.{decimal}
use Rattle.sdbt_base.specs.Faults.{Rose}
use Rattle.sdbt_base.specs.Told.{Got, GotPart, IsAtEnd}
use Rattle.text_lines.specs.Lines.{whole_lines_of, lines_of}
use Rattle.session_calls.specs.declared.stops.DeviceStop.{DeviceStop}
use Rattle.session_calls.specs.declared.stops.DeviceStop.TheVariants as device
use Rattle.line_run.specs.Stops.{Ending}
use Rattle.line_run.specs.declared.stop.Stop.TheVariants as stops

-- the last line of a run that met damage; nothing at other stops
unfoldable pub damage_line : DeviceStop → List ℕ
damage_line device.BadRoot = codes "bad root" ++ 10 ∷ []
damage_line (device.BadRecord addr) = codes "bad record " ++ (decimal addr ++ 10 ∷ [])
damage_line device.Platform = []
damage_line device.Tape = []
damage_line device.Ledger = []
damage_line device.Memory = []

-- no last line, as long as the lines themselves are handled
abbrev pub no_line : DeviceStop → List ℕ
no_line stop = []

-- the part is a first part of the text: perhaps nothing of it, perhaps all
abbrev pub IsFirstPart : List ℕ → List ℕ → Type 0
IsFirstPart text part = (n : ℕ) × (part ≡ take n text)

-- what stands behind the replies, whose lines are these, where a stop of the device has this last line: nothing; that line, whole;
-- or, where the output failed, a first part of one more reply's line, or of a last line
abbrev pub IsBehind : {R : Type 0} → (R → List ℕ) → (DeviceStop → List ℕ) → List ℕ → Ending → Type 0
IsBehind line_of last part (Ok done) = part ≡ []
IsBehind line_of last part (Err stops.Source) = part ≡ []
IsBehind line_of last part (Err stops.Limit) = part ≡ []
IsBehind line_of last part (Err (stops.Device stop)) = part ≡ last stop
IsBehind {R = R} line_of last part (Err stops.Sink) = ((reply : R) × IsFirstPart (line_of reply) part) ⊎ ((stop : DeviceStop) × IsFirstPart (last stop) part)

-- what the putting of a line did: all of it was got, or, where the output failed, a first part
abbrev pub HasPut : List ℕ → Ending → Option (List ℕ) → Option (List ℕ) → Type 0
HasPut line (Ok done) written written_now = Got written line written_now
HasPut line (Err stops.Sink) written written_now = GotPart written line written_now
HasPut line (Err stops.Source) written written_now = ⊥
HasPut line (Err stops.Limit) written written_now = ⊥
HasPut line (Err (stops.Device stop)) written written_now = ⊥

-- a put was done without a fault of the output, or the run stops at one
abbrev pub TellsPut : Ending → ℕ → ℕ → Type 0
TellsPut (Ok done) before now = now ≡ before
TellsPut (Err stop) before now = (stop ≡ stops.Sink) × Rose before now

-- the lines that have come: those with their line feeds, and at the end of the input also a last one without
abbrev pub HaveCome : List ℕ → Option (List ℕ) → List (List ℕ) → Type 0
HaveCome taken left lines = (lines ≡ whole_lines_of taken) ⊎ (IsAtEnd left × (lines ≡ lines_of taken))

-- the lines that a run handles which ends so: at the end of the input all, where the input failed or reached its
-- limit the whole ones, and else those that have come
abbrev pub AreLines : Ending → List ℕ → Option (List ℕ) → List (List ℕ) → Type 0
AreLines (Ok done) taken left lines = IsAtEnd left × (lines ≡ lines_of taken)
AreLines (Err stops.Source) taken left lines = lines ≡ whole_lines_of taken
AreLines (Err stops.Limit) taken left lines = lines ≡ whole_lines_of taken
AreLines (Err stops.Sink) taken left lines = HaveCome taken left lines
AreLines (Err (stops.Device stop)) taken left lines = HaveCome taken left lines

-- what was taken, but for a last piece of 4,096 bytes at most, ended no more lines than have replies: a run serves what it took before it takes more
pub record IsPrompt (taken : List ℕ) (replies : ℕ) : Type 0 where
  pub before : List ℕ
  pub last : List ℕ
  pub parts : taken ≡ before ++ last
  pub piece : length last ≤ 4096
  pub served : length (whole_lines_of before) ≤ replies
