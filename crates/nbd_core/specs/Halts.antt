-- Why a run ends, its status, and what that is due to.
use Rattle.std.specs.Prelude.{◌≡◌, ℕ, Result, Ok, Err, IfErr, OnOk}
use Rattle.device_session.specs.declared.refusals.CommitReply.{CommitReply}
use Rattle.device_session.specs.declared.refusals.CommitReply.TheVariants as replies
use Rattle.nbd_lang.specs.declared.replies.Outcome.{Outcome}
use Rattle.nbd_lang.specs.declared.replies.Outcome.TheVariants as outcomes
use Rattle.sdbt_base.specs.Counts.{Counts, InputRose, LedgerRose, NoneFell, OutputRose, PlatformRose, TapeRose}
use Rattle.session_calls.specs.declared.stops.DeviceStop.{DeviceStop}
use Rattle.session_calls.specs.declared.stops.DeviceStop.TheVariants as device
use Rattle.nbd_core.specs.Stops.{status_of}
use Rattle.nbd_core.specs.declared.stop.Stop.TheVariants as stops
use Rattle.nbd_core.specs.declared.halts.Halt.{Halt}
use Rattle.nbd_core.specs.declared.halts.Halt.TheVariants as halts

abbrev pub status_at : Halt → ℕ
status_at (halts.Client stop) = status_of stop
status_at halts.Platform = 5
status_at halts.Tape = 6
status_at halts.Ledger = 7
status_at halts.BadRoot = 8
status_at halts.NoDevice = 10
status_at halts.Unfinished = 10
status_at halts.Memory = 11

-- what a request comes to of which a call for a block stopped: want of memory and a record that
-- doesn't fit have a reply
abbrev pub outcome_after : DeviceStop → Result Outcome Halt
outcome_after device.Memory = Ok outcomes.NoMemory
outcome_after (device.BadRecord addr) = Ok outcomes.Damaged
outcome_after device.Platform = Err halts.Platform
outcome_after device.Tape = Err halts.Tape
outcome_after device.Ledger = Err halts.Ledger
outcome_after device.BadRoot = Err halts.BadRoot

-- a stop that a commit comes to
abbrev pub OfCommit : DeviceStop → Type 0
OfCommit device.Platform = Unit {0}
OfCommit device.Tape = Unit {0}
OfCommit device.Ledger = Unit {0}
OfCommit device.Memory = Unit {0}
OfCommit device.BadRoot = ⊥
OfCommit (device.BadRecord addr) = ⊥

abbrev pub commit_halt : DeviceStop → Halt
commit_halt device.Platform = halts.Platform
commit_halt device.Tape = halts.Tape
commit_halt device.Ledger = halts.Ledger
commit_halt device.Memory = halts.Memory
commit_halt device.BadRoot = halts.BadRoot
commit_halt (device.BadRecord addr) = halts.Memory

-- what a flush comes to whose commit was answered
abbrev pub commit_outcome : CommitReply → Outcome
commit_outcome (replies.Committed number) = outcomes.Done
commit_outcome (replies.Full needed free) = outcomes.NoSpace

-- a run ends at a fault only where the count of that object rose, and that of no other; at each other
-- end all are as they were
abbrev pub IsDueTo : Counts → Counts → Halt → Type 0
IsDueTo before now (halts.Client stops.Source) = InputRose before now
IsDueTo before now (halts.Client stops.Sink) = OutputRose before now
IsDueTo before now (halts.Client stops.Limit) = now ≡ before
IsDueTo before now (halts.Client stops.Broken) = now ≡ before
IsDueTo before now halts.Platform = PlatformRose before now
IsDueTo before now halts.Tape = TapeRose before now
IsDueTo before now halts.Ledger = LedgerRose before now
IsDueTo before now halts.BadRoot = now ≡ before
IsDueTo before now halts.NoDevice = now ≡ before
IsDueTo before now halts.Unfinished = now ≡ before
IsDueTo before now halts.Memory = now ≡ before

-- no count fell; all are as they were where a run goes on, and one that ended at a fault did so where
-- the count of that object alone rose
pub record Blames {X : Type 0} (before now : Counts) (result : Result X Halt) : Type 0 where
  pub fell : NoneFell before now
  pub quiet : OnOk result (now ≡ before)
  pub cause : IfErr result (IsDueTo before now)

-- a run ended behind the look at its cell
abbrev pub IsLate : Halt → Type 0
IsLate halts.BadRoot = ⊥
IsLate halts.NoDevice = ⊥
IsLate (halts.Client stop) = Unit {0}
IsLate halts.Platform = Unit {0}
IsLate halts.Tape = Unit {0}
IsLate halts.Ledger = Unit {0}
IsLate halts.Unfinished = Unit {0}
IsLate halts.Memory = Unit {0}
