-- How often a run reads a page or looks at the cell, at lines that don't go over the whole tree.
use Rattle.std.specs.Prelude.{◌≡◌, ◌⊎◌, ℕ, ◌+◌, ◌-◌, ◌<◌, ◌≤◌, ◌==◌, Bool, true, false, if◌then◌else◌, List, [], ◌∷◌, Option, None, Some, Result, Ok, Err, drop, slice_get}
use Rattle.sdbt_base.specs.Rises.{MayRiseBy}
use Rattle.script_lang.specs.Commands.{Command}
use Rattle.script_lang.specs.Commands.{Commit, Erase, Format, Mount, Read, Write, Trim, Drop, Stat, Upgrade}
use Rattle.script_lang.specs.Grammar.{IsBad, Spells}
use Rattle.script_lang.specs.Replies.{Reply, Unmounted, AlreadyMounted, Range, Full, is_refusal}
use Rattle.session_calls.specs.declared.stops.DeviceStop.{DeviceStop}
use Rattle.session_calls.specs.declared.stops.DeviceStop.TheVariants as stops
use Rattle.device_session.specs.Open.{blocks_of}
use Rattle.device_session.specs.Reading.{KeepsWayTo, room_of}
use Rattle.device_session.specs.Sessions.{Session}
use Rattle.device_cli.specs.World.{World}

-- the command makes, mounts or erases a device, reads, writes or trims a block, commits, or tells of the session, or gives it up
abbrev pub IsBounded : Command → Type 0
IsBounded (Format blocks order) = Unit {0}
IsBounded Erase = Unit {0}
IsBounded Mount = Unit {0}
IsBounded (Read block) = Unit {0}
IsBounded (Write block content) = Unit {0}
IsBounded (Trim block) = Unit {0}
IsBounded Commit = Unit {0}
IsBounded Stat = Unit {0}
IsBounded Drop = Unit {0}
IsBounded _ = ⊥

-- the block that it reads
abbrev pub block_read : Command → Option ℕ
block_read (Read block) = Some block
block_read _ = None

-- so many pages are read at most for a read behind one of this block: one where it is the same block, and else 21
abbrev pub most_for : Option ℕ → ℕ → ℕ
most_for None block = 21
most_for (Some before) block = if before == block then 1 else 21

-- so many pages are read at most, and looks at the cell made, for any of these commands behind one that read this block: one look to make, mount or erase a device; two pages
-- for each of 20 levels for an update; and none for a commit, or for what only tells of the session
abbrev pub most_reads : Option ℕ → Command → ℕ
most_reads before (Format blocks order) = 1
most_reads before Mount = 1
most_reads before Erase = 1
most_reads before (Read block) = most_for before block
most_reads before (Write block content) = 40
most_reads before (Trim block) = 40
most_reads before _ = 0

-- the reply says that nothing was looked for: no session is open, or one is, the device has no such block, or too few pages are free
abbrev pub is_refused : Reply → Bool
is_refused Unmounted = true
is_refused AlreadyMounted = true
is_refused Range = true
is_refused Full = true
is_refused _ = false

-- so much is read at most for a command with this reply, or with none: nothing where it is refused so, but that a `format` looks at the cell first
abbrev pub reads_refused : Command → ℕ
reads_refused (Format blocks order) = 1
reads_refused _ = 0

abbrev pub most_told : Option ℕ → Command → Option Reply → ℕ
most_told before command None = most_reads before command
most_told before command (Some reply) = if is_refused reply then reads_refused command else most_reads before command

-- the lines spell such commands, or nothing, behind one that read this block, and the first of them have these replies; so much is read for them at most, and the last command of them reads this block
abbrev pub AreBounded : Option ℕ → List (List ℕ) → List Reply → ℕ → Option ℕ → Type 0
AreBounded before [] replies most after = (most ≡ 0) × (after ≡ before)
AreBounded before (line ∷ lines) replies most after =
    (IsBad line × AreBounded before lines (drop 1 replies) most after)
    ⊎ ((command : Command) × Spells line command × IsBounded command × (others : ℕ) × AreBounded (block_read command) lines (drop 1 replies) others after
    × (most ≡ most_told before command (slice_get replies 0) + others))

-- so often, at most, all pages are synced, or the cell replaced or cleared, for a command
abbrev pub most_changes : Command → ℕ
most_changes (Format blocks order) = 2
most_changes Commit = 2
most_changes Upgrade = 2
most_changes Erase = 1
most_changes _ = 0

-- so often for a command with this reply, or with none: never where it is refused
abbrev pub changes_told : Command → Option Reply → ℕ
changes_told command None = most_changes command
changes_told command (Some reply) = if is_refusal reply then 0 else most_changes command

-- and for one that stops so: never before it syncs, and where the ledger failed the root record isn't replaced
abbrev pub changes_stopped : Command → DeviceStop → ℕ
changes_stopped command stops.Platform = most_changes command
changes_stopped command stops.Ledger = most_changes command - 1
changes_stopped command _ = 0

abbrev pub changes_at : Command → Result Reply DeviceStop → ℕ
changes_at command (Ok reply) = changes_told command (Some reply)
changes_at command (Err stop) = changes_stopped command stop

-- the lines spell commands, or nothing, the first of them have these replies, and so often that happens for them together, at most
abbrev pub AreChanging : List (List ℕ) → List Reply → ℕ → Type 0
AreChanging [] replies most = most ≡ 0
AreChanging (line ∷ lines) replies most =
    (IsBad line × AreChanging lines (drop 1 replies) most)
    ⊎ ((command : Command) × Spells line command × (others : ℕ) × AreChanging lines (drop 1 replies) others × (most ≡ changes_told command (slice_get replies 0) + others))

-- the cache has room for a node of each level, and keeps each node on the way to the block that was read last, if one was
abbrev pub IsWarmFor : Option Session → Option ℕ → Type 0
IsWarmFor None block = Unit {0}
IsWarmFor (Some session) None = 20 ≤ room_of session
IsWarmFor (Some session) (Some block) = (20 ≤ room_of session) × (block < blocks_of session → KeepsWayTo session block)

-- it happens no oftener for these lines with these replies
abbrev pub ChangesFew : World → World → List (List ℕ) → List Reply → Type 0
ChangesFew old new lines replies = (most : ℕ) → AreChanging lines replies most → MayRiseBy most old.changes new.changes

-- where the lines are such, with these replies, no more is read than this; and where all are done, the cache is ready for the next one
abbrev pub ReadsOn : World → World → List (List ℕ) → List Reply → Type 0 → Type 0
ReadsOn old new lines replies Done =
    (before after : Option ℕ) (most : ℕ) → IsWarmFor old.session before → AreBounded before lines replies most after
    → (new.reads ≤ old.reads + most) × (Done → IsWarmFor new.session after)

-- of these lines and their replies it is both so
abbrev pub LooksOn : Type 0 → World → World → List (List ℕ) → List Reply → Type 0 → Type 0
LooksOn tells old new lines replies Done = tells → ChangesFew old new lines replies × ReadsOn old new lines replies Done
