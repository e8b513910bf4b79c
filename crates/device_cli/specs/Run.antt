-- How a run ends, what it took from its input, and what its stops are due to.
use Rattle.std.specs.Prelude.{◌≡◌, ℕ, ◌^◌, ◌<◌, ◌≤◌, ◌⊎◌, List, [], Option, length}
use Rattle.sdbt_base.specs.Told.{IsAtEnd}
use Rattle.line_run.specs.declared.stop.Stop.{Stop}
use Rattle.line_run.specs.declared.stop.Stop.TheVariants as stops
use Rattle.session_calls.specs.declared.stops.DeviceStop.TheVariants as device

-- what was taken when a run ended with this exit status, and what was left
pub record Took (status : ℕ) (taken : List ℕ) (left : Option (List ℕ)) : Type 0 where
  pub most : length taken ≤ 2 ^ 32
  pub whole : status ≡ 0 → (length taken < 2 ^ 32) × IsAtEnd left
  pub failed : status ≡ 3 → length taken < 2 ^ 32
  pub refused : status ≡ 10 → length taken < 2 ^ 32
  pub limit : status ≡ 12 → length taken ≡ 2 ^ 32
  pub nothing : status ≡ 2 → taken ≡ []

-- the statuses that there are
abbrev pub IsStatus : ℕ → Type 0
IsStatus status =
    (status ≡ 0) ⊎ (status ≡ 2) ⊎ (status ≡ 3) ⊎ (status ≡ 4) ⊎ (status ≡ 5) ⊎ (status ≡ 6) ⊎ (status ≡ 7) ⊎ (status ≡ 8) ⊎ (status ≡ 9) ⊎ (status ≡ 10) ⊎ (status ≡ 11) ⊎ (status ≡ 12)

-- a stop before the first line: the cell can't be served, or that could not be told or not be said
abbrev pub IsRefusal : Stop → Type 0
IsRefusal stops.Sink = Unit {0}
IsRefusal (stops.Device device.Platform) = Unit {0}
IsRefusal (stops.Device device.BadRoot) = Unit {0}
IsRefusal (stops.Device device.Tape) = ⊥
IsRefusal (stops.Device device.Ledger) = ⊥
IsRefusal (stops.Device (device.BadRecord addr)) = ⊥
IsRefusal (stops.Device device.Memory) = ⊥
IsRefusal stops.Source = ⊥
IsRefusal stops.Limit = ⊥
