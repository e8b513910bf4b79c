-- Why a run ends, its status and its last line, and what that is due to.
use Rattle.std.specs.Prelude.{◌≡◌, ◌⊎◌, ℕ, List, [], ◌∷◌, ◌++◌, Option, Result, Ok, Err, IfErr, OnOk, codes}
use Rattle.std.specs.Fmt.{decimal}
use Rattle.sdbt_base.specs.Faults.{Rose}
use Rattle.sdbt_base.specs.Told.{Got, GotPart}
use Rattle.line_run.specs.Puts.{damage_line}
use Rattle.line_run.specs.Stops.{IsSound, status_of}
use Rattle.line_run.specs.declared.stop.Stop.TheVariants as stops
use Rattle.session_calls.specs.Blame as blame
use Rattle.session_calls.specs.declared.stops.DeviceStop.TheVariants as device
use Rattle.transfer.specs.Counts.{Counts, NoneFell, OutputRose, with_from, with_to}
use Rattle.transfer.specs.declared.halts.Halt.{Halt}
use Rattle.transfer.specs.declared.halts.Halt.TheVariants as halts
use Rattle.transfer.specs.declared.halts.Moved.{Moved}

-- the exit status of each halt
abbrev pub status_at : Halt → ℕ
status_at halts.NoDevice = 10
status_at halts.NotEmpty = 10
status_at halts.Full = 10
status_at halts.Output = 4
status_at (halts.From stop) = status_of (stops.Device stop)
status_at (halts.To device.Platform) = 13
status_at (halts.To device.Tape) = 6
status_at (halts.To device.Ledger) = 7
status_at (halts.To device.BadRoot) = 8
status_at (halts.To (device.BadRecord addr)) = 9
status_at (halts.To device.Memory) = 11

-- and of a run that ends so
abbrev pub exit_of : {X : Type 0} → Result X Halt → ℕ
exit_of (Ok done) = 0
exit_of (Err halt) = status_at halt

-- the line of a run that was done
unfoldable pub moved_line : Moved → List ℕ
moved_line moved = codes "transferred blocks " ++ (decimal moved.blocks ++ (codes " commit " ++ (decimal moved.number ++ 10 ∷ [])))

-- the last line of one that halted: why nothing is moved, or the damage that was met; nothing at other halts
unfoldable pub last_line_of : Halt → List ℕ
last_line_of halts.NoDevice = codes "refused no device" ++ 10 ∷ []
last_line_of halts.NotEmpty = codes "refused not empty" ++ 10 ∷ []
last_line_of halts.Full = codes "refused full" ++ 10 ∷ []
last_line_of halts.Output = []
last_line_of (halts.From stop) = damage_line stop
last_line_of (halts.To stop) = damage_line stop

-- it has such a line
abbrev pub HasLastLine : Halt → Type 0
HasLastLine halts.NoDevice = Unit {0}
HasLastLine halts.NotEmpty = Unit {0}
HasLastLine halts.Full = Unit {0}
HasLastLine halts.Output = ⊥
HasLastLine (halts.From stop) = IsSound stop → ⊥
HasLastLine (halts.To stop) = IsSound stop → ⊥

-- a run that halted so said its last line, and ended so; or the output failed at that line
abbrev pub IsTold : Halt → Halt → Option (List ℕ) → Option (List ℕ) → Type 0
IsTold halted ended written written_now =
    ((ended ≡ halted) × Got written (last_line_of halted) written_now)
    ⊎ ((ended ≡ halts.Output) × HasLastLine halted × GotPart written (last_line_of halted) written_now)

-- what the output's count of faults tells of that
abbrev pub TellsLine : Halt → Halt → ℕ → ℕ → Type 0
TellsLine halted ended before now = ((ended ≡ halted) × (now ≡ before)) ⊎ ((ended ≡ halts.Output) × HasLastLine halted × Rose before now)

-- a run that was done said so, or the output failed at that line
abbrev pub PutsMoved : List ℕ → Result (Unit {0}) Halt → Option (List ℕ) → Option (List ℕ) → Type 0
PutsMoved line (Ok done) written written_now = Got written line written_now
PutsMoved line (Err halt) written written_now = (halt ≡ halts.Output) × GotPart written line written_now

abbrev pub TellsMoved : Result (Unit {0}) Halt → ℕ → ℕ → Type 0
TellsMoved (Ok done) before now = now ≡ before
TellsMoved (Err halt) before now = (halt ≡ halts.Output) × Rose before now

-- a halt at a fault comes where the count of that object rose, and that of no other; at each other halt all are as they were
abbrev pub HasCause : Counts → Counts → Halt → Type 0
HasCause before now halts.NoDevice = now ≡ before
HasCause before now halts.NotEmpty = now ≡ before
HasCause before now halts.Full = now ≡ before
HasCause before now halts.Output = OutputRose before now
HasCause before now (halts.From stop) = (now.to ≡ before.to) × blame.HasCause (with_from before) (with_from now) stop
HasCause before now (halts.To stop) = (now.from ≡ before.from) × blame.HasCause (with_to before) (with_to now) stop

-- no count fell; all are as they were where a part of a run was done, and where one halted at a fault that of this object rose alone
pub record Blames {X : Type 0} (before now : Counts) (result : Result X Halt) : Type 0 where
  pub fell : NoneFell before now
  pub quiet : OnOk result (now ≡ before)
  pub cause : IfErr result (HasCause before now)

-- how a run ends that moved something, or halted: its status, and what it said
abbrev pub EndsAs : Result Moved Halt → Result (Unit {0}) Halt → Option (List ℕ) → Option (List ℕ) → Type 0
EndsAs (Ok moved) ending written written_now = PutsMoved (moved_line moved) ending written written_now
EndsAs (Err halted) ending written written_now = (ended : Halt) × (ending ≡ Err ended) × IsTold halted ended written written_now
