-- What a commit of a session says, by its answer.
use Rattle.std.specs.Prelude.{◌≡◌, ◌+◌, ◌-◌, ◌<◌, ◌≤◌, ℕ, true, false, List, Some, Result, Ok, Err, IfErr, IfOk, IsOk, OnOk, length}
use Rattle.sdbt_base.specs.Arrays.{Device, Session as OpenSession, committed, committed_if, mounted}
use Rattle.sdbt_base.specs.declared.sinks.Sink.{Ghosts as SinkGhosts}
use Rattle.sdbt_base.specs.declared.tapes.Tape.{Ghosts as TapeGhosts}
use Rattle.platform.specs.declared.platforms.Platform.{Ghosts as PlatformGhosts}
use Rattle.sdbt_base.specs.Rises.{MayRiseBy}
use Rattle.platform.specs.History.{CellStays, During, History, Turns}
use Rattle.page_store.specs.Keeping.{DrewAll}
use Rattle.device_terms.specs.Certifying.{PutsSynced}
use Rattle.device_terms.specs.Effects.{AddsNothing, ChangesBehind}
use Rattle.device_course.specs.Keys.{KeepsOn}
use Rattle.device_course.specs.Marks.{Leaves}
use Rattle.device_course.specs.States.{IsAt, IsListed}
use Rattle.device_session.specs.Open.{IsOpen, blocks_of, is_touched, needed_by, number_of, root_of}
use Rattle.device_session.specs.Publishing.{most_commit}
use Rattle.device_session.specs.Reading.{room_of}
use Rattle.device_session.specs.Sessions.{Session}
use Rattle.device_session.specs.declared.refusals.CommitFault.{CommitFault}
use Rattle.device_session.specs.declared.refusals.CommitFault.TheVariants as faults
use Rattle.device_session.specs.declared.refusals.CommitReply.{CommitReply}
use Rattle.device_session.specs.declared.refusals.CommitReply.TheVariants as replies
use Rattle.sdbt_base.specs.Counts.{counts}
use Rattle.session_calls.specs.Blame.{IsBlamed}
use Rattle.session_calls.specs.Damage.{IsMounted}
use Rattle.session_calls.specs.declared.committing.Committed.{Committed}
use Rattle.session_calls.specs.declared.stops.DeviceStop.{DeviceStop}
use Rattle.session_calls.specs.declared.stops.DeviceStop.TheVariants as stops

-- which stop a failed commit comes to
abbrev pub stop_of_fault : CommitFault → DeviceStop
stop_of_fault faults.Memory = stops.Memory
stop_of_fault faults.TapeFault = stops.Tape
stop_of_fault faults.LedgerFault = stops.Ledger
stop_of_fault faults.PlatformFault = stops.Platform

-- so often a call that stops so syncs and replaces the root record, at most: not at all where it stops before its sync, and where the ledger failed it has only synced
abbrev pub most_stopped : DeviceStop → ℕ
most_stopped stops.Platform = 2
most_stopped stops.Tape = 0
most_stopped stops.Ledger = 1
most_stopped stops.BadRoot = 0
most_stopped (stops.BadRecord addr) = 0
most_stopped stops.Memory = 0

-- the same of a commit, by its answer
abbrev pub most_committed : Result Committed DeviceStop → ℕ
most_committed (Ok done) = most_commit (Ok done.reply)
most_committed (Err stop) = most_stopped stop

-- a session that comes back is open and on the root record in the cell, with as many blocks, as many of them counted as mapped, and room for as many nodes in its cache
pub record ComesBack {S : Type 0} (P : PlatformGhosts S) (platform_now : S) (session now : Session) : Type 0 where
  pub is_open : IsOpen now (P.head platform_now)
  pub mounted : P.tells → IsMounted (P.history platform_now).present now
  pub blocks : blocks_of now ≡ blocks_of session
  pub mapped : now.mapped ≡ session.mapped
  pub room : room_of now ≡ room_of session

-- what a stop leaves of the ledger: where no key is drawn, or no memory given, it is as it was
abbrev pub LeavesLedger : {W : Type 0} → W → W → DeviceStop → Type 0
LeavesLedger ledger ledger_now stops.Tape = ledger_now ≡ ledger
LeavesLedger ledger ledger_now stops.Memory = ledger_now ≡ ledger
LeavesLedger ledger ledger_now stops.Platform = Unit {0}
LeavesLedger ledger ledger_now stops.Ledger = Unit {0}
LeavesLedger ledger ledger_now stops.BadRoot = ⊥
LeavesLedger ledger ledger_now (stops.BadRecord addr) = ⊥

-- as many keys were drawn as pages were added
abbrev pub DrewForPages : {S R : Type 0} → PlatformGhosts S → TapeGhosts R → S → S → R → R → Type 0
DrewForPages P T platform platform_now tape tape_now = (keys : List (List ℕ)) × (P.head platform_now ≡ P.head platform + length keys) × DrewAll (T.drawn tape) keys (T.drawn tape_now)

-- what a commit does to a run, whatever its answer: it adds at most the pages that it needs, and reads none, and syncs once and replaces the root record once at most, neither where it is refused before, and not before it added all pages that it needs; keys are kept, and the ledger gets what belongs to the root records that come into the cell, of one
-- more entry a part only where no session comes back; a stop at a fault came where the count of that object rose; and one that was answered drew as many keys as it added pages
pub record CommitGoes {S R W : Type 0} (P : PlatformGhosts S) (T : TapeGhosts R) (L : SinkGhosts W) (platform platform_now : S) (tape tape_now : R) (ledger ledger_now : W) (session : Session) (result : Result Committed DeviceStop) : Type 0 where
  pub back : IfOk result (λ done. ComesBack P platform_now session done.session)
  pub capacity : P.capacity platform_now ≡ P.capacity platform
  pub rises : P.head platform ≤ P.head platform_now
  pub adds : P.head platform_now ≤ P.head platform + needed_by session
  pub unread : P.tells → P.reads platform_now ≡ P.reads platform
  pub changes : P.tells → MayRiseBy (most_committed result) (P.changes platform) (P.changes platform_now)
  pub behind : ChangesBehind P (needed_by session) platform platform_now
  pub keeps : KeepsOn P.tells (T.drawn tape) (T.drawn tape_now) (L.written ledger) (L.written ledger_now) (Some session) (P.history platform) (P.history platform_now) (IsOk result)
      (λ keys. IfOk result (λ done. IsListed (Some done.session) (P.history platform_now).present keys))
  pub blame : IsBlamed (counts (P.faults platform) (T.faults tape) 0 0 (L.faults ledger)) (counts (P.faults platform_now) (T.faults tape_now) 0 0 (L.faults ledger_now)) result
  -- the pages that it needs are added, and all pages are synced, before the ledger gets anything
  pub synced : PutsSynced P (needed_by session) platform platform_now ledger ledger_now
  pub unput : IfErr result (LeavesLedger ledger ledger_now)
  pub drew : OnOk result (DrewForPages P T platform platform_now tape tape_now)

-- the session, and all that it was handed, are as they were
abbrev pub AreSame : {S R W : Type 0} → S → S → R → R → W → W → Session → Session → Type 0
AreSame platform platform_now tape tape_now ledger ledger_now session now = (now ≡ session) × (platform_now ≡ platform) × (tape_now ≡ tape) × (ledger_now ≡ ledger)

-- the pages that a commit needs were free and are added, and the next commit needs none. Without a change all is as it was; else the number is the next one, and the root record is of all the pages that there are
pub record HasNumber {S R W : Type 0} (P : PlatformGhosts S) (platform platform_now : S) (tape tape_now : R) (ledger ledger_now : W) (session now : Session) (number : ℕ) : Type 0 where
  pub room : needed_by session ≤ P.capacity platform - P.head platform
  pub adds : P.head platform_now ≡ P.head platform + needed_by session
  pub needs : needed_by now ≡ 0
  pub untouched : is_touched now ≡ false
  pub is_number : number ≡ number_of now
  pub idle : is_touched session ≡ false → AreSame platform platform_now tape tape_now ledger ledger_now session now
  pub next : is_touched session ≡ true → number_of now ≡ number_of session + 1
  pub names : is_touched session ≡ true → (root_of now).head ≡ P.head platform_now

-- something was changed, and fewer pages are free than a commit needs: all is as it was
pub record IsShort {S R W : Type 0} (P : PlatformGhosts S) (platform platform_now : S) (tape tape_now : R) (ledger ledger_now : W) (session now : Session) (needed free : ℕ) : Type 0 where
  pub touched : is_touched session ≡ true
  pub is_needed : needed ≡ needed_by session
  pub is_free : free ≡ P.capacity platform - P.head platform
  pub short : free < needed
  pub same : AreSame platform platform_now tape tape_now ledger ledger_now session now

-- what a stop of the device leaves of the platform and the tape: the cell stays at each moment, unless the platform failed; and where no memory is given nothing is added
abbrev pub LeftAt : {S R : Type 0} → PlatformGhosts S → TapeGhosts R → S → S → R → R → DeviceStop → Type 0
LeftAt P T platform platform_now tape tape_now stops.Platform = Unit {0}
LeftAt P T platform platform_now tape tape_now stops.Tape = P.tells → CellStays (P.history platform) (P.history platform_now)
LeftAt P T platform platform_now tape tape_now stops.Ledger = P.tells → CellStays (P.history platform) (P.history platform_now)
LeftAt P T platform platform_now tape tape_now stops.Memory = AddsNothing P T platform platform_now tape tape_now × (P.tells → CellStays (P.history platform) (P.history platform_now))
LeftAt P T platform platform_now tape tape_now stops.BadRoot = ⊥
LeftAt P T platform platform_now tape tape_now (stops.BadRecord addr) = ⊥

-- a commit stops only where something was changed and enough pages are free
pub record StopsAt {S R : Type 0} (P : PlatformGhosts S) (T : TapeGhosts R) (platform platform_now : S) (tape tape_now : R) (session : Session) (stop : DeviceStop) : Type 0 where
  pub touched : is_touched session ≡ true
  pub room : needed_by session ≤ P.capacity platform - P.head platform
  pub left : LeftAt P T platform platform_now tape tape_now stop

-- which answer a commit has, on any image
abbrev pub AnswersReply : {S R W : Type 0} → PlatformGhosts S → S → S → R → R → W → W → Session → Session → CommitReply → Type 0
AnswersReply P platform platform_now tape tape_now ledger ledger_now session now (replies.Committed number) = HasNumber P platform platform_now tape tape_now ledger ledger_now session now number
AnswersReply P platform platform_now tape tape_now ledger ledger_now session now (replies.Full needed free) = IsShort P platform platform_now tape tape_now ledger ledger_now session now needed free

abbrev pub AnswersCommit : {S R W : Type 0} → PlatformGhosts S → TapeGhosts R → S → S → R → R → W → W → Session → Result Committed DeviceStop → Type 0
AnswersCommit P T platform platform_now tape tape_now ledger ledger_now session (Ok done) = AnswersReply P platform platform_now tape tape_now ledger ledger_now session done.session done.reply
AnswersCommit P T platform platform_now tape tape_now ledger ledger_now session (Err stop) = StopsAt P T platform platform_now tape tape_now session stop

-- a commit of a session's array: the device has the array, and the next number where something was changed; or too few pages are free, and both are as they were
abbrev pub ReplyLeads : History → History → Session → Device → OpenSession → CommitReply → Type 0
ReplyLeads old new now device array (replies.Committed number) =
    IsAt new.present (Some now) (mounted (committed_if array.touched device array) (record array { touched = false })) × (number ≡ (committed_if array.touched device array).number)
    × Turns old new (Leaves (Some device)) (Leaves (Some (committed_if array.touched device array)))
ReplyLeads old new now device array (replies.Full needed free) = IsAt new.present (Some now) (mounted device array) × During old new (Leaves (Some device))

-- or the run is over: the device is as it was, or, where the platform failed, perhaps the one with the array
abbrev pub CommitLeads : History → History → Device → OpenSession → Result Committed DeviceStop → Type 0
CommitLeads old new device array (Ok done) = ReplyLeads old new done.session device array done.reply
CommitLeads old new device array (Err stops.Platform) = Turns old new (Leaves (Some device)) (Leaves (Some (committed device array)))
CommitLeads old new device array (Err stops.Tape) = During old new (Leaves (Some device))
CommitLeads old new device array (Err stops.Ledger) = During old new (Leaves (Some device))
CommitLeads old new device array (Err stops.Memory) = During old new (Leaves (Some device))
CommitLeads old new device array (Err stops.BadRoot) = ⊥
CommitLeads old new device array (Err (stops.BadRecord addr)) = ⊥
