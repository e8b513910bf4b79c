-- How many pages a run that was stopped has added.
use Rattle.std.specs.Prelude.{◌≡◌, ◌⊎◌, ℕ, ◌+◌, ◌-◌, ◌*◌, ◌<◌, ◌≤◌, List, Result, Ok, Err}
use Rattle.platform.specs.Image.{Image}
use Rattle.root_codec.specs.declared.root.Root.{Root}
use Rattle.device_core.specs.Upgrading.{IsOn, needed_of_root}
use Rattle.script_lang.specs.Grammar.{Spells}
use Rattle.script_lang.specs.Commands.{Command}
use Rattle.script_lang.specs.Commands.{Commit, Upgrade}
use Rattle.script_lang.specs.Replies.{Reply}
use Rattle.device_cli.specs.Pages.{needed_for, upgrade_of, Standing, IfNext}
use Rattle.line_run.specs.declared.stop.Stop.{Stop}
use Rattle.line_run.specs.declared.stop.Stop.TheVariants as stops
use Rattle.session_calls.specs.declared.stops.DeviceStop.{DeviceStop}
use Rattle.session_calls.specs.declared.stops.DeviceStop.TheVariants as device

-- how many pages a stop of the device may leave at a command, where a commit needs so many, and an upgrade so many: those that the command needs, where the platform or the
-- ledger failed; where the tape did, those that a commit or an upgrade needs; and at a record that doesn't fit, those that an upgrade needs
abbrev pub left_by : DeviceStop → Command → ℕ → ℕ → ℕ
left_by device.Platform command changes upgrade = needed_for command changes upgrade
left_by device.Ledger command changes upgrade = needed_for command changes upgrade
left_by device.Tape Commit changes upgrade = changes
left_by device.Tape Upgrade changes upgrade = upgrade
left_by device.Tape _ changes upgrade = 0
left_by device.Memory command changes upgrade = 0
left_by device.BadRoot command changes upgrade = 0
left_by (device.BadRecord addr) Upgrade changes upgrade = upgrade
left_by (device.BadRecord addr) _ changes upgrade = 0

-- from so many pages a stop at a command left at most so many, on any image: an upgrade none more, or as many as the root record in the cell needs
abbrev pub LeavesFew : Type 0 → Image → DeviceStop → Command → ℕ → ℕ → ℕ → Type 0
LeavesFew tells image stop Upgrade changes head now =
    (now ≡ head) ⊎ ((root : Root) × IsOn tells image head root × (now ≤ head + left_by stop Upgrade changes (needed_of_root root)))
LeavesFew tells image stop command changes head now = now ≤ head + left_by stop command changes 0

-- fewer pages are free than a command needs, on any image: an upgrade of the root record in the cell
abbrev pub LacksPages : Type 0 → Image → Command → ℕ → ℕ → ℕ → Type 0
LacksPages tells image Upgrade changes head capacity = (root : Root) × IsOn tells image head root × (capacity - head < needed_of_root root)
LacksPages tells image command changes head capacity = capacity - head < needed_for command changes 0

-- there are as many pages, or up to so many more by the command of the next line
abbrev pub HasAdded : (Command → ℕ) → List (List ℕ) → List Reply → ℕ → ℕ → Type 0
HasAdded most lines replies pages now =
    (now ≡ pages) ⊎ ((pages ≤ now) × IfNext replies lines (λ line. (command : Command) × Spells line command × (now ≤ pages + most command)))

-- how many pages a run, or a part of one, has that ends so, where the line behind its replies meets this
abbrev pub IsNear : Result (Unit {0}) Stop → Standing → List (List ℕ) → List Reply → ℕ → Type 0
IsNear (Ok done) met lines replies now = now ≡ met.pages
IsNear (Err stops.Source) met lines replies now = now ≡ met.pages
IsNear (Err stops.Limit) met lines replies now = now ≡ met.pages
IsNear (Err stops.Sink) met lines replies now = HasAdded (λ command. needed_for command (41 * met.updates) (upgrade_of met.state)) lines replies met.pages now
IsNear (Err (stops.Device stop)) met lines replies now = HasAdded (λ command. left_by stop command (41 * met.updates) (upgrade_of met.state)) lines replies met.pages now
