-- What one call of a session says, by its answer.
use Rattle.std.specs.Prelude.{◌≡◌, ◌≤◌, ◌+◌, ◌*◌, ℕ, List, Some, Result, Ok, Err, IfErr, OnErr, OnOk}
use Rattle.sdbt_base.specs.Arrays.{Device, Session as OpenSession, content_of, unmapped, written, mounted}
use Rattle.sdbt_base.specs.Told.{Drew}
use Rattle.sdbt_base.specs.declared.tapes.Tape.{Ghosts as TapeGhosts}
use Rattle.platform.specs.declared.platforms.Platform.{Ghosts as PlatformGhosts}
use Rattle.platform.specs.Image.{Image}
use Rattle.device_course.specs.States.{IsAt}
use Rattle.device_session.specs.Open.{needed_by}
use Rattle.device_session.specs.Reading.{KeepsWayTo, room_of}
use Rattle.device_session.specs.Sessions.{Session}
use Rattle.device_session.specs.declared.refusals.ReadRefusal.{ReadRefusal}
use Rattle.device_session.specs.declared.refusals.ReadRefusal.TheVariants as read
use Rattle.device_session.specs.declared.refusals.TrimRefusal.{TrimRefusal}
use Rattle.device_session.specs.declared.refusals.TrimRefusal.TheVariants as trim
use Rattle.device_session.specs.declared.refusals.WriteRefusal.{WriteRefusal}
use Rattle.device_session.specs.declared.refusals.WriteRefusal.TheVariants as write
use Rattle.device_terms.specs.Effects.{AddsNothing}
use Rattle.session_calls.specs.Along.{Along, Drawn}
use Rattle.sdbt_base.specs.Counts.{counts}
use Rattle.session_calls.specs.Blame.{HasCause, IsOfCall}
use Rattle.session_calls.specs.declared.stops.DeviceStop.{DeviceStop}
use Rattle.session_calls.specs.declared.stops.DeviceStop.TheVariants as stops

-- the session goes on, whatever the answer, with so many pages read at most: a refused call leaves what a commit needs, and how many blocks are counted. The counts of faults are as they were where the call was done, and where it stopped at a fault that of
-- this object rose alone
pub record Goes {S X : Type 0} (P : PlatformGhosts S) (updates most : ℕ) (platform platform_now : S) (drawn drawn_now : Drawn) (session now : Session) (result : Result X DeviceStop) : Type 0 where
  pub along : Along P updates most platform platform_now drawn drawn_now session now
  pub needs_still : OnErr result (needed_by now ≡ needed_by session)
  pub mapped_still : OnErr result (now.mapped ≡ session.mapped)
  pub stops : IfErr result IsOfCall
  pub quiet : OnOk result (counts (P.faults platform_now) drawn_now.faults 0 0 0 ≡ counts (P.faults platform) drawn.faults 0 0 0)
  pub cause : IfErr result (HasCause (counts (P.faults platform) drawn.faults 0 0 0) (counts (P.faults platform_now) drawn_now.faults 0 0 0))

-- which stop a refused write comes to, where the device has the block and a page is free
abbrev pub IsWriteStop : WriteRefusal → DeviceStop → Type 0
IsWriteStop write.Range stop = ⊥
IsWriteStop write.Full stop = ⊥
IsWriteStop write.Memory stop = stop ≡ stops.Memory
IsWriteStop (write.BadRecord addr) stop = stop ≡ stops.BadRecord addr
IsWriteStop write.PlatformFault stop = stop ≡ stops.Platform
IsWriteStop write.TapeFault stop = stop ≡ stops.Tape

-- a write of a block of a session's array: it is written, or the array is as it was; a record that doesn't fit is met over none
abbrev pub WritesBlock : Image → Session → Device → OpenSession → ℕ → List ℕ → Result (Unit {0}) DeviceStop → Type 0
WritesBlock image now device array block content (Ok done) = IsAt image (Some now) (mounted device (written array block content))
WritesBlock image now device array block content (Err stops.Memory) = IsAt image (Some now) (mounted device array)
WritesBlock image now device array block content (Err stops.Platform) = IsAt image (Some now) (mounted device array)
WritesBlock image now device array block content (Err stops.Tape) = IsAt image (Some now) (mounted device array)
WritesBlock image now device array block content (Err stops.Ledger) = ⊥
WritesBlock image now device array block content (Err stops.BadRoot) = ⊥
WritesBlock image now device array block content (Err (stops.BadRecord addr)) = ⊥

-- a write that was done drew one key and added one page, and a refused one none, unless the platform failed
abbrev pub AddsBlock : {S R : Type 0} → PlatformGhosts S → TapeGhosts R → S → S → R → R → Result (Unit {0}) DeviceStop → Type 0
AddsBlock P T platform platform_now tape tape_now (Ok done) = (P.head platform_now ≡ P.head platform + 1) × (key : List ℕ) × Drew (T.drawn tape) key (T.drawn tape_now)
AddsBlock P T platform platform_now tape tape_now (Err stops.Memory) = AddsNothing P T platform platform_now tape tape_now
AddsBlock P T platform platform_now tape tape_now (Err stops.Platform) = Unit {0}
AddsBlock P T platform platform_now tape tape_now (Err stops.Tape) = AddsNothing P T platform platform_now tape tape_now
AddsBlock P T platform platform_now tape tape_now (Err stops.Ledger) = ⊥
AddsBlock P T platform platform_now tape tape_now (Err stops.BadRoot) = ⊥
AddsBlock P T platform platform_now tape tape_now (Err (stops.BadRecord addr)) = AddsNothing P T platform platform_now tape tape_now

-- which stop a refused trim comes to, where the device has the block
abbrev pub IsTrimStop : TrimRefusal → DeviceStop → Type 0
IsTrimStop trim.Range stop = ⊥
IsTrimStop trim.Memory stop = stop ≡ stops.Memory
IsTrimStop (trim.BadRecord addr) stop = stop ≡ stops.BadRecord addr
IsTrimStop trim.PlatformFault stop = stop ≡ stops.Platform

-- a trim of a block: it is not mapped then, or the array is as it was
abbrev pub TrimsBlock : Image → Session → Device → OpenSession → ℕ → Result (Unit {0}) DeviceStop → Type 0
TrimsBlock image now device array block (Ok done) = IsAt image (Some now) (mounted device (unmapped array block))
TrimsBlock image now device array block (Err stops.Memory) = IsAt image (Some now) (mounted device array)
TrimsBlock image now device array block (Err stops.Platform) = IsAt image (Some now) (mounted device array)
TrimsBlock image now device array block (Err stops.Tape) = ⊥
TrimsBlock image now device array block (Err stops.Ledger) = ⊥
TrimsBlock image now device array block (Err stops.BadRoot) = ⊥
TrimsBlock image now device array block (Err (stops.BadRecord addr)) = ⊥

-- which stop a refused read comes to, where the device has the block
abbrev pub IsReadStop : ReadRefusal → DeviceStop → Type 0
IsReadStop read.Range stop = ⊥
IsReadStop (read.BadRecord addr) stop = stop ≡ stops.BadRecord addr
IsReadStop read.PlatformFault stop = stop ≡ stops.Platform

-- a read of a block leaves the array; where it was done, these are the block's bytes
abbrev pub ReadsBlock : Image → Session → Device → OpenSession → ℕ → List ℕ → Result (Unit {0}) DeviceStop → Type 0
ReadsBlock image now device array block bytes (Ok done) = IsAt image (Some now) (mounted device array) × (bytes ≡ content_of array.contents block)
ReadsBlock image now device array block bytes (Err stops.Platform) = IsAt image (Some now) (mounted device array)
ReadsBlock image now device array block bytes (Err stops.Memory) = ⊥
ReadsBlock image now device array block bytes (Err stops.Tape) = ⊥
ReadsBlock image now device array block bytes (Err stops.Ledger) = ⊥
ReadsBlock image now device array block bytes (Err stops.BadRoot) = ⊥
ReadsBlock image now device array block bytes (Err (stops.BadRecord addr)) = ⊥

-- what a read of a block costs: one page for each level of the tree and one for the block at most; one alone where the cache keeps the way to the block, as it does after a read that
-- was done, where it has room for a node of each level
pub record ReadsPages {S : Type 0} (P : PlatformGhosts S) (block : ℕ) (platform platform_now : S) (session now : Session) (result : Result (Unit {0}) DeviceStop) : Type 0 where
  pub most : P.tells → P.reads platform_now ≤ P.reads platform + (session.grove.level + 1)
  pub warm : P.tells → KeepsWayTo session block → P.reads platform_now ≤ P.reads platform + 1
  pub fills : P.tells → OnOk result (now.grove.level ≤ room_of now → KeepsWayTo now block)
