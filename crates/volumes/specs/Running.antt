-- A run, from the mount on.
use Rattle.std.proofs.Common.{inl, inr}
use Rattle.std.specs.Prelude.{◌≡◌, ◌≤◌, ◌+◌, ◌⊎◌, ℕ, List, [], ◌++◌, Option, None, Result, Ok, Err, IfErr, flat_map, length}
use Rattle.sdbt_base.specs.Told.{Gave, Got}
use Rattle.platform.specs.Image.{Image}
use Rattle.platform.specs.History.{CellStays, History, image_at, moment}
use Rattle.device_terms.specs.Served.{IsServedImage}
use Rattle.device_course.specs.States.{Outside}
use Rattle.device_session.specs.Open.{blocks_of, needed_by}
use Rattle.device_session.specs.Reading.{room_of}
use Rattle.device_session.specs.Sessions.{Session}
use Rattle.line_run.specs.Puts.{AreLines, IsBehind, IsPrompt, no_line}
use Rattle.line_run.specs.Stops.{Ending, TookUntil}
use Rattle.line_run.specs.declared.stop.Stop.TheVariants as stops
use Rattle.device_course.specs.Held.{Held}
use Rattle.device_course.specs.Leading.{last_of}
use Rattle.session_calls.specs.Damage.{IsMounted}
use Rattle.session_calls.specs.declared.stops.DeviceStop.TheVariants as device
use Rattle.volume_table.specs.Tables.{IsTable}
use Rattle.volume_table.specs.declared.volume.Volume.{Volume}
use Rattle.volume_lines.specs.Replies.{Reply, line_of}
use Rattle.volume_terms.specs.Own.{HasOwn}
use Rattle.volume_terms.specs.Volumes.{IsTabled}
use Rattle.device_course.specs.Course.{MadeBetween}
use Rattle.volume_serving.specs.Handled.{AreMany, OnLines}
use Rattle.volume_serving.specs.Drawing.{DrewUntil, tally_of}
use Rattle.volume_serving.specs.Syncing.{ChangesFew}
use Rattle.volume_serving.specs.Tabled.{OnTables, Pause}
use Rattle.volumes.specs.Destroyed.{AreDestroyed}
use Rattle.volumes.specs.Halts.{EndsAs}
use Rattle.volumes.specs.Starting.{EndsEarly, HaltsAtDamage, IsRefusal, IsSpelled, IsStart, SpellsNone, reads_before}
use Rattle.volumes.specs.declared.halts.Halt.{Halt}
use Rattle.volumes.specs.declared.halts.Halt.TheVariants as halts

-- no key was drawn, no input taken, nothing put to the ledger, no page added, and at each moment the cell was as before
pub record IsIdle {R I L : Type 0} (tells : Type 0) (tape tape_now : R) (input input_now : I) (ledger ledger_now : L) (head head_now : ℕ) (old new : History) : Type 0 where
  pub undrawn : tape_now ≡ tape
  pub untaken : input_now ≡ input
  pub unlisted : ledger_now ≡ ledger
  pub pages : head_now ≡ head
  pub cell : tells → CellStays old new

-- what a mount finds: where the cell can't be served, or is empty, the run halts so, or the platform failed; and only there
pub record Looked {X : Type 0} (tells : Type 0) (image : Image) (result : Result X Halt) : Type 0 where
  pub bad : tells → (IsServedImage image → ⊥) → (result ≡ Err (halts.Stopped (stops.Device device.BadRoot))) ⊎ (result ≡ Err (halts.Stopped (stops.Device device.Platform)))
  pub empty : tells → image.cell ≡ None → (result ≡ Err halts.NoDevice) ⊎ (result ≡ Err (halts.Stopped (stops.Device device.Platform)))
  pub bad_only : tells → result ≡ Err (halts.Stopped (stops.Device device.BadRoot)) → IsServedImage image → ⊥
  pub empty_only : tells → result ≡ Err halts.NoDevice → image.cell ≡ None

-- a halt before the first line
abbrev pub IsEarly : Halt → Type 0
IsEarly halts.NoDevice = Unit {0}
IsEarly halts.BadDirectory = Unit {0}
IsEarly (halts.Stopped (stops.Device device.BadRoot)) = Unit {0}
IsEarly (halts.Stopped (stops.Device (device.BadRecord addr))) = Unit {0}
IsEarly (halts.Stopped (stops.Device device.Platform)) = Unit {0}
IsEarly (halts.Stopped (stops.Device device.Memory)) = Unit {0}
IsEarly (halts.Stopped _) = ⊥

-- a run that halted so before it took anything, and put nothing, and read no more than is read before such a halt, behind so many looks at the cell; for want of a table only where the pages spell none. From each of these states the device stayed
pub record IsSilent (tells : Type 0) (looks : ℕ) (From : Held → Type 0) (old new : Outside) (halt : Halt) (left left_now written written_now : Option (List ℕ)) : Type 0 where
  pub untaken : left_now ≡ left
  pub unput : written_now ≡ written
  pub early : IsEarly halt
  pub unspelled : tells → halt ≡ halts.BadDirectory → SpellsNone old.history.present
  pub reads : tells → new.reads ≤ old.reads + looks + reads_before halt
  pub stayed : (entry : Held) → From entry → MadeBetween old.history new.history entry.device [] entry.device × EndsEarly entry halt

-- the replies to lines, from this state on, whose block 0 has this table. They are those of its volumes, each of which has its own, and of those that were destroyed nothing is left; and the
-- devices that they led through were made in their order. A session and a table stand for the last state where the run goes on behind the lines
pub record OnVolumes (old new : Outside) (session : Option Session) (table table_now : List Volume) (entry : Held) (lines : List (List ℕ)) (replies : List Reply) (part : List ℕ) (ending : Ending) : Type 0 where
  pub tabled : IsTabled entry table
  pub on : OnLines old new session table_now entry lines replies part ending
  pub own : (name : List ℕ) → HasOwn entry (last_of entry on.led.states) name lines replies
  pub destroyed : AreDestroyed old.history new.history entry lines replies on.led.states on.ahead

-- lines begin with a session without a change of its own, which is on the root record in the cell then, of a device with so many blocks, and whose cache has room for 256 nodes; and before them 21 pages were read at most, behind so many looks at the cell
pub record Begins (tells : Type 0) (looks blocks : ℕ) (old new : Outside) (start : Pause) : Type 0 where
  pub later : tells → moment old.history ≤ start.at
  pub within : tells → start.at ≤ moment new.history
  pub mounted : tells → IsMounted (image_at new.history start.at) start.session
  pub reads : tells → start.reads ≤ old.reads + looks + 21
  pub fresh : needed_by start.session ≡ 0
  pub many : blocks_of start.session ≡ blocks
  pub room : room_of start.session ≡ 256

-- a run that served lines, and ended so: what it took, the lines of that, its replies to them, and a part of one more where the output failed. On any pages the replies are such as their lines may have over the table that
-- block 0 spelled, and what those before them made of it; what a line found, left and kept is so of the sessions that it began and ended with, of which the first has no change of its own; each read no more than it may, and all that was read but for them was read before the first one; they drew keys where they say so, one for each page that was added; and a line at which the device stopped the run
-- is one that may stop so
pub record Answers (tells : Type 0) (looks : ℕ) (From : Held → Type 0) (old new : Outside) (ending : Ending) (left left_now written written_now : Option (List ℕ)) : Type 0 where
  pub taken : List ℕ
  pub lines : List (List ℕ)
  pub gave : Gave left taken left_now
  pub took : TookUntil ending taken left_now
  pub come : AreLines ending taken left_now lines
  pub replies : List Reply
  pub part : List ℕ
  pub got : Got written (flat_map line_of replies ++ part) written_now
  pub behind : IsBehind line_of no_line part ending
  pub many : AreMany (length replies) (length lines) ending
  pub prompt : IsPrompt taken (length replies)
  pub session : Option Session
  pub blocks : ℕ
  pub start : Pause
  pub table : List Volume
  pub spelled : IsTable blocks start.table × (tells → IsSpelled old.history.present blocks start.table)
  pub begins : Begins tells looks blocks old new start
  pub tables : OnTables tells blocks start session table old new lines replies ending
  pub drew : DrewUntil (tally_of old) lines replies (tally_of new)
  pub led : (entry : Held) → From entry → OnVolumes old new session start.table table entry lines replies part ending

-- how a run halts whose lines end so
abbrev pub halting : Ending → Result (Unit {0}) Halt
halting (Ok done) = Ok tt
halting (Err stop) = Err (halts.Stopped stop)

-- a run served no line, or it served lines, from each of these states, behind so many looks at the cell
abbrev pub ServesBehind : Type 0 → ℕ → (Held → Type 0) → Outside → Outside → Result (Unit {0}) Halt → Option (List ℕ) → Option (List ℕ) → Option (List ℕ) → Option (List ℕ) → Type 0
ServesBehind tells looks From old new result left left_now written written_now =
    ((halt : Halt) × (result ≡ Err halt) × IsSilent tells looks From old new halt left left_now written written_now)
    ⊎ ((ending : Ending) × (result ≡ halting ending) × Answers tells looks From old new ending left left_now written written_now)

-- so it is of a whole run, which looks at the cell once at most
abbrev pub Serves : Type 0 → (Held → Type 0) → Outside → Outside → Result (Unit {0}) Halt → Option (List ℕ) → Option (List ℕ) → Option (List ℕ) → Option (List ℕ) → Type 0
Serves tells From old new result left left_now written written_now = ServesBehind tells 1 From old new result left left_now written written_now

-- how often such a run synced all pages, or replaced the root record: never where it served no line, and else no oftener than for its lines
abbrev pub ChangesIn : (tells : Type 0) (looks : ℕ) (From : Held → Type 0) (old new : Outside) (result : Result (Unit {0}) Halt) (left left_now written written_now : Option (List ℕ)) → ServesBehind tells looks From old new result left left_now written written_now → ℕ → ℕ → Type 0
ChangesIn tells looks From old new result left left_now written written_now (inl silent) before now = now ≡ before
ChangesIn tells looks From old new result left left_now written written_now (inr (ending, is, answers)) before now = ChangesFew before now answers.lines answers.replies

-- such a run, and that
pub record ServesFew (tells : Type 0) (looks : ℕ) (From : Held → Type 0) (old new : Outside) (result : Result (Unit {0}) Halt) (left left_now written written_now : Option (List ℕ)) (before now : ℕ) : Type 0 where
  pub serves : ServesBehind tells looks From old new result left left_now written written_now
  pub changes : tells → ChangesIn tells looks From old new result left left_now written written_now serves before now

-- a run but for its last line, and that line: why it halted, and what it did until then; a refusal left all as it was, and a record that it names doesn't fit its place, on any pages
pub record Ran (tells : Type 0) (old new : Outside) (Idle : Type 0) (left left_now written written_now : Option (List ℕ)) (ending : Result (Unit {0}) Halt) : Type 0 where
  pub halted : Result (Unit {0}) Halt
  pub written_then : Option (List ℕ)
  pub serves : Serves tells (IsStart tells old) old new halted left left_now written written_then
  pub looked : Looked tells old.history.present halted
  pub idle : tells → IfErr halted (λ halt. IsRefusal halt → Idle × (written_then ≡ written))
  pub damage : tells → IfErr halted (HaltsAtDamage new.history.present)
  pub told : EndsAs halted ending written_then written_now

-- how often that run synced all pages, or replaced the root record
abbrev pub ChangesRan : (tells : Type 0) (old new : Outside) (Idle : Type 0) (left left_now written written_now : Option (List ℕ)) (ending : Result (Unit {0}) Halt) → Ran tells old new Idle left left_now written written_now ending → ℕ → ℕ → Type 0
ChangesRan tells old new Idle left left_now written written_now ending ran before now = tells → ChangesIn tells 1 (IsStart tells old) old new ran.halted left left_now written ran.written_then ran.serves before now
