-- Why a run ends, its status and its last line, and what that is due to.
use Rattle.std.specs.Prelude.{◌≡◌, ◌⊎◌, ℕ, List, [], ◌∷◌, ◌++◌, Option, Result, Ok, Err, IfErr, OnOk, codes}
use Rattle.sdbt_base.specs.Counts.{Counts, NoneFell}
use Rattle.sdbt_base.specs.Faults.{Rose}
use Rattle.sdbt_base.specs.Told.{Got, GotPart}
use Rattle.line_run.specs.Puts.{damage_line}
use Rattle.line_run.specs.Stops.{IsSound, status_of}
use Rattle.line_run.specs.Stops as lines
use Rattle.line_run.specs.declared.stop.Stop.TheVariants as stops
use Rattle.volumes.specs.declared.halts.Halt.{Halt}
use Rattle.volumes.specs.declared.halts.Halt.TheVariants as halts

-- the exit status of each halt
abbrev pub status_at : Halt → ℕ
status_at halts.NoDevice = 10
status_at halts.BadDirectory = 10
status_at (halts.Stopped stop) = status_of stop

-- and of a run that ends so
abbrev pub exit_of : Result (Unit {0}) Halt → ℕ
exit_of (Ok done) = 0
exit_of (Err halt) = status_at halt

-- the last line: why the device is not served, or the damage that was met; nothing at other halts
unfoldable pub last_line_of : Halt → List ℕ
last_line_of halts.NoDevice = codes "refused no device" ++ 10 ∷ []
last_line_of halts.BadDirectory = codes "refused bad directory" ++ 10 ∷ []
last_line_of (halts.Stopped stops.Source) = []
last_line_of (halts.Stopped stops.Sink) = []
last_line_of (halts.Stopped stops.Limit) = []
last_line_of (halts.Stopped (stops.Device stop)) = damage_line stop

-- it is such a halt
abbrev pub HasLastLine : Halt → Type 0
HasLastLine halts.NoDevice = Unit {0}
HasLastLine halts.BadDirectory = Unit {0}
HasLastLine (halts.Stopped stops.Source) = ⊥
HasLastLine (halts.Stopped stops.Sink) = ⊥
HasLastLine (halts.Stopped stops.Limit) = ⊥
HasLastLine (halts.Stopped (stops.Device stop)) = IsSound stop → ⊥

-- a run that halted so said its last line, and ended so; or the output failed at that line
abbrev pub IsTold : Halt → Halt → Option (List ℕ) → Option (List ℕ) → Type 0
IsTold halted ended written written_now =
    ((ended ≡ halted) × Got written (last_line_of halted) written_now)
    ⊎ ((ended ≡ halts.Stopped stops.Sink) × HasLastLine halted × GotPart written (last_line_of halted) written_now)

-- what the output's count of faults tells of that
abbrev pub TellsLine : Halt → Halt → ℕ → ℕ → Type 0
TellsLine halted ended before now = ((ended ≡ halted) × (now ≡ before)) ⊎ ((ended ≡ halts.Stopped stops.Sink) × HasLastLine halted × Rose before now)

-- the same of a run that was done, or halted
abbrev pub EndsAs : Result (Unit {0}) Halt → Result (Unit {0}) Halt → Option (List ℕ) → Option (List ℕ) → Type 0
EndsAs (Ok done) ending written written_now = (ending ≡ Ok tt) × (written_now ≡ written)
EndsAs (Err halted) ending written written_now = (ended : Halt) × (ending ≡ Err ended) × IsTold halted ended written written_now

-- a halt at a fault comes where the count of that object rose, and that of no other; at each other halt all are as they were
abbrev pub HasCause : Counts → Counts → Halt → Type 0
HasCause before now halts.NoDevice = now ≡ before
HasCause before now halts.BadDirectory = now ≡ before
HasCause before now (halts.Stopped stop) = lines.HasCause before now stop

-- no count fell; all are as they were where a run was done, and where one halted at a fault that of this object rose alone
pub record Blames {X : Type 0} (before now : Counts) (result : Result X Halt) : Type 0 where
  pub fell : NoneFell before now
  pub quiet : OnOk result (now ≡ before)
  pub cause : IfErr result (HasCause before now)
