-- What a part of a run gives, whether it serves a command, a line, or a piece of the input.
use Rattle.std.specs.Prelude.{◌≡◌, ℕ, ◌+◌, ◌≤◌, List, Option, Result, IsOk, IfOk, OnOk}
use Rattle.std.specs.Result.{result_ok}
use Rattle.sdbt_base.specs.Arrays.{State}
use Rattle.sdbt_base.specs.declared.sinks.Sink.{Ghosts as SinkGhosts}
use Rattle.sdbt_base.specs.declared.tapes.Tape.{Ghosts as TapeGhosts}
use Rattle.platform.specs.Image.{Image}
use Rattle.platform.specs.History.{moment}
use Rattle.platform.specs.declared.platforms.Platform.{Ghosts as PlatformGhosts}
use Rattle.script_lang.specs.Commands.{Command, Format, Write, Commit, Upgrade}
use Rattle.script_lang.specs.Replies.{Reply, Formatted, Done, Committed, Upgraded}
use Rattle.script_lang.specs.declared.replies.Reply.{Reply as Given}
use Rattle.root_codec.specs.declared.root.Root.{Root}
use Rattle.device_core.specs.Upgrading.{IsOn, needed_of_root}
use Rattle.device_course.specs.Keys.{KeepsOn}
use Rattle.device_course.specs.States.{IsListed}
use Rattle.device_cli.specs.Looks.{IsBounded, IsWarmFor, block_read, most_told}
use Rattle.device_cli.specs.Pages.{updates_after}
use Rattle.device_cli.specs.Replied.{Serves, outcome}
use Rattle.device_cli.specs.Represents.{Represents}
use Rattle.line_run.specs.Stops.{IsBlamedOn}
use Rattle.sdbt_base.specs.Counts.{counts}
use Rattle.device_cli.specs.Seen.{Saw}
use Rattle.device_cli.specs.World.{World, world_of, needed_of, AreEnough}
use Rattle.device_cli.specs.declared.desk.Desk.{Desk}
use Rattle.line_run.specs.declared.stop.Stop.{Stop}
use Rattle.session_calls.specs.declared.stops.DeviceStop.{DeviceStop}

-- each moment keeps the keys that the image kept before, with those that were drawn, what was deleted stays so, and the cell can be served; and the
-- ledger got what belongs to the root records that came into the cell
abbrev pub KeepsFrom : {S X E : Type 0} → PlatformGhosts S → Option (List (List ℕ)) → Option (List (List ℕ)) → Option (List ℕ) → Option (List ℕ) → Desk → Desk → S → S → Result X E → Type 0
KeepsFrom P drawn drawn_now written written_now desk now platform platform_now result =
    KeepsOn P.tells drawn drawn_now written written_now desk.session (P.history platform) (P.history platform_now) (IsOk result)
    (λ keys. OnOk result (IsListed now.session (P.history platform_now).present keys))

-- the same by a tape and a ledger
abbrev pub Keeps : {S R L X E : Type 0} → PlatformGhosts S → TapeGhosts R → SinkGhosts L → Desk → Desk → S → S → R → R → L → L → Result X E → Type 0
Keeps P T L desk now platform platform_now tape tape_now ledger ledger_now result =
    KeepsFrom P (T.drawn tape) (T.drawn tape_now) (L.written ledger) (L.written ledger_now) desk now platform platform_now result

-- the same where nothing is drawn, and nothing put
abbrev pub KeepsStill : {S X E : Type 0} → PlatformGhosts S → Desk → Desk → S → S → Result X E → Type 0
KeepsStill P desk now platform platform_now result =
    (drawn : Option (List (List ℕ))) (written : Option (List ℕ)) → KeepsFrom P drawn drawn written written desk now platform platform_now result

-- no count fell; all are as they were where a part was done, and where it stopped at a fault that of this object rose alone; the input is not called
abbrev pub Blames : {S R O L : Type 0} → PlatformGhosts S → TapeGhosts R → SinkGhosts O → SinkGhosts L → S → S → R → R → O → O → L → L → Result (Unit {0}) Stop → Type 0
Blames P T O L platform platform_now tape tape_now output output_now ledger ledger_now result =
    IsBlamedOn (counts (P.faults platform) (T.faults tape) 0 (O.faults output) (L.faults ledger))
    (counts (P.faults platform_now) (T.faults tape_now) 0 (O.faults output_now) (L.faults ledger_now)) result

-- what a desk works on
abbrev world_at : {S : Type 0} → PlatformGhosts S → Desk → S → World
world_at P desk platform = world_of P desk.session platform

-- a command is served from each state that the session and the image stand for
abbrev pub ServesAny : {S : Type 0} → PlatformGhosts S → Desk → Desk → S → S → Command → Result Given DeviceStop → Type 0
ServesAny P desk now platform platform_now command result = (entry : State) → Represents (world_at P desk platform) entry
    → Serves (world_at P desk platform) (world_at P now platform_now) entry command (outcome result now.buffer)

-- how many pages a command adds that has a reply, where a commit needs so many, and an upgrade so many
abbrev pub added_by : Command → Reply → ℕ → ℕ → ℕ
added_by (Format blocks order) Formatted changes upgrade = 1
added_by (Write block content) Done changes upgrade = 1
added_by Commit (Committed number) changes upgrade = changes
added_by Upgrade (Upgraded number) changes upgrade = upgrade
added_by _ _ changes upgrade = 0

-- a command that has a reply led from so many pages to so many, on any image: an upgrade that is done added those that the root record in the cell needs
abbrev pub Adds : Type 0 → Image → Command → Reply → ℕ → ℕ → ℕ → Type 0
Adds tells image Upgrade (Upgraded number) changes head now = (root : Root) × IsOn tells image head root × (now ≡ head + needed_of_root root)
Adds tells image command reply changes head now = now ≡ head + added_by command reply changes 0

-- where a command has a reply, it added so many pages
abbrev pub AddsPages : {S : Type 0} → PlatformGhosts S → Desk → Desk → S → S → Command → Result Given DeviceStop → Type 0
AddsPages P desk now platform platform_now command result =
    IfOk (outcome result now.buffer) (λ reply. Adds P.tells (P.history platform).present command reply (needed_of desk.session) (P.head platform) (P.head platform_now))

-- and as many updates as there are then are enough for a commit, if they were before
abbrev pub StaysEnough : Desk → Desk → Result Given DeviceStop → Type 0
StaysEnough desk now result = (updates : ℕ) → AreEnough desk.session updates
    → IfOk (outcome result now.buffer) (λ reply. AreEnough now.session (updates_after reply updates))

-- and its reply, if it has one, belongs to a moment of the call, at which the image stands for the device of that state and has as many pages as before
abbrev pub SeesAny : {S : Type 0} → PlatformGhosts S → Desk → Desk → S → S → Result Given DeviceStop → Type 0
SeesAny P desk now platform platform_now result = (entry : State) → Represents (world_at P desk platform) entry
    → IfOk (outcome result now.buffer) (Saw (P.history platform_now) (moment (P.history platform)) entry.device (P.head platform))

-- where a command is one of those with a bound, no more is read than this; and where it is done, the cache is ready for the next one
abbrev pub LooksFew : {S : Type 0} → PlatformGhosts S → Desk → Desk → S → S → Command → Result Given DeviceStop → Type 0
LooksFew P desk now platform platform_now command result = (before : Option ℕ) → IsWarmFor desk.session before → IsBounded command
    → (P.reads platform_now ≤ P.reads platform + most_told before command (result_ok (outcome result now.buffer))) × (IsOk result → IsWarmFor now.session (block_read command))
