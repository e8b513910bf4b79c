-- How a run over lines ends, what it took from its input, and what its stops are due to.
use Rattle.std.specs.Prelude.{◌≡◌, ℕ, ◌^◌, ◌<◌, ◌≤◌, List, Option, Result, Ok, Err, OnOk, IfErr, IsErrOf, length}
use Rattle.sdbt_base.specs.Told.{IsAtEnd}
use Rattle.sdbt_base.specs.Counts.{Counts, InputRose, OutputRose, NoneFell}
use Rattle.session_calls.specs.Blame as blame
use Rattle.session_calls.specs.declared.stops.DeviceStop.{DeviceStop}
use Rattle.session_calls.specs.declared.stops.DeviceStop.TheVariants as device
use Rattle.line_run.specs.declared.stop.Stop.{Stop}
use Rattle.line_run.specs.declared.stop.Stop.TheVariants as stops

-- how a run, or a part of one, ends
abbrev pub Ending : Type 0
Ending = Result (Unit {0}) Stop

-- a stop that names a fault comes where the count of that object rose, and that of no other; at each other stop all are as they were
abbrev pub HasCause : Counts → Counts → Stop → Type 0
HasCause before now stops.Source = InputRose before now
HasCause before now stops.Sink = OutputRose before now
HasCause before now (stops.Device stop) = blame.HasCause before now stop
HasCause before now stops.Limit = now ≡ before

-- no count fell; all are as they were after a run, or a part of one, that was done, and where one stopped at a fault that of this object rose alone
pub record IsBlamedOn {T : Type 0} (before now : Counts) (result : Result T Stop) : Type 0 where
  pub fell : NoneFell before now
  pub quiet : OnOk result (now ≡ before)
  pub cause : IfErr result (HasCause before now)

-- the exit status of each stop
abbrev pub status_of : Stop → ℕ
status_of stops.Source = 3
status_of stops.Sink = 4
status_of (stops.Device device.Platform) = 5
status_of (stops.Device device.Tape) = 6
status_of (stops.Device device.Ledger) = 7
status_of (stops.Device device.BadRoot) = 8
status_of (stops.Device (device.BadRecord addr)) = 9
status_of (stops.Device device.Memory) = 11
status_of stops.Limit = 12

-- and of each ending
abbrev pub exit_of : Ending → ℕ
exit_of (Ok done) = 0
exit_of (Err stop) = status_of stop

-- what was taken when the serving of an input ended so, and what was left
pub record TookUntil {T : Type 0} (result : Result T Stop) (taken : List ℕ) (left : Option (List ℕ)) : Type 0 where
  pub most : length taken ≤ 2 ^ 32
  -- the end was seen, or a take failed, before the limit
  pub whole : OnOk result ((length taken < 2 ^ 32) × IsAtEnd left)
  pub failed : IsErrOf result stops.Source → length taken < 2 ^ 32
  pub limit : IsErrOf result stops.Limit → length taken ≡ 2 ^ 32

-- a stop that a line may lead to: neither the input nor the start
abbrev pub IsOfLine : Stop → Type 0
IsOfLine stops.Source = ⊥
IsOfLine stops.Limit = ⊥
IsOfLine stops.Sink = Unit {0}
IsOfLine (stops.Device stop) = Unit {0}

-- the device was not damaged
abbrev pub IsSound : DeviceStop → Type 0
IsSound device.BadRoot = ⊥
IsSound (device.BadRecord addr) = ⊥
IsSound device.Platform = Unit {0}
IsSound device.Tape = Unit {0}
IsSound device.Ledger = Unit {0}
IsSound device.Memory = Unit {0}
