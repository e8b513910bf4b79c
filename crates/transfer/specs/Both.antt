-- What a part of a move that has a session on either side begins with, and leaves of both.
use Rattle.std.specs.Prelude.{◌≡◌, ◌<◌, ◌≤◌, ◌+◌, ℕ, All, IfErr, IfOk, IsOk, List, None, Result}
use Rattle.sdbt_base.specs.Rises.{MayRiseBy}
use Rattle.sdbt_base.specs.declared.sinks.Sink.{Ghosts as SinkGhosts}
use Rattle.sdbt_base.specs.declared.tapes.Tape.{Ghosts as TapeGhosts}
use Rattle.platform.specs.declared.platforms.Platform.{Ghosts as PlatformGhosts}
use Rattle.device_course.specs.States.{Outside, around}
use Rattle.device_session.specs.Open.{blocks_of}
use Rattle.device_session.specs.Sessions.{Session}
use Rattle.session_calls.specs.Along.{Along, Drawn}
use Rattle.session_calls.specs.Carrying.{Carries, IsReady}
use Rattle.transfer.specs.Counts.{counts}
use Rattle.transfer.specs.Halts.{Blames}
use Rattle.transfer.specs.Refusals.{IsOfReads}
use Rattle.transfer.specs.Running.{HasNumber, IsBehindBoth, MeetsWrong}
use Rattle.transfer.specs.declared.halts.Halt.{Halt}

-- both sessions are ready, over as many blocks, and each of these is one of them
pub record AreReady (from_tells to_tells : Type 0) (from to : Outside) (one other : Session) (blocks : List ℕ) : Type 0 where
  pub source : IsReady from_tells from one
  pub target : IsReady to_tells to other
  pub within : All (λ block. block < blocks_of one) blocks
  pub alike : blocks_of other ≡ blocks_of one

-- both devices are only read, so often at most as is said of the two counts: each session goes on with its tree, a fault is that of one platform, and a halt names a record that doesn't fit,
-- if any, of the second one a block's only where this holds
pub record ReadsBoth {S R X : Type 0} (P : PlatformGhosts S) (Q : PlatformGhosts R) (Reads : ℕ → ℕ → Type 0) (Compared : Type 0) (first first_now : S) (second second_now : R) (source source_now target target_now : Session) (result : Result X Halt) : Type 0 where
  pub few : ℕ
  pub most : ℕ
  pub reads : Reads few most
  pub from : (any : Drawn) → Along P 0 few first first_now any any source source_now
  pub to : (any : Drawn) → Along Q 0 most second second_now any any target target_now
  pub blame : (tape output ledger : ℕ) → Blames (counts (P.faults first) (Q.faults second) tape output ledger) (counts (P.faults first_now) (Q.faults second_now) tape output ledger) result
  pub wrong : IfErr result (MeetsWrong P.tells Q.tells Compared ⊥ (P.history first_now).present (Q.history second_now).present)
  pub behind : IfErr result IsOfReads
  pub trees : (source_now.grove ≡ source.grove) × (target_now.grove ≡ target.grove)

-- the first device is only read, and the second one is filled: its session ends. So often is either read at most as is said of the two counts, and a halt names a record of the second one
-- where it was written only where that is said. There all pages are synced once, and the root record replaced, at most, and nothing of that where it is said so; and what is answered is the number of the root record there
pub record FillsBoth {S R W V : Type 0} (P : PlatformGhosts S) (Q : PlatformGhosts R) (T : TapeGhosts W) (L : SinkGhosts V) (Reads : ℕ → ℕ → Type 0) (Compared Written Unchanged : Type 0) (first first_now : S) (second second_now : R) (tape tape_now : W) (ledger ledger_now : V) (source source_now target : Session) (result : Result ℕ Halt) : Type 0 where
  pub few : ℕ
  pub most : ℕ
  pub reads : Reads few most
  pub from : (any : Drawn) → Along P 0 few first first_now any any source source_now
  pub reads_to : Q.tells → Q.reads second_now ≤ Q.reads second + most
  pub changes : Q.tells → MayRiseBy 2 (Q.changes second) (Q.changes second_now)
  pub unchanged : Q.tells → Unchanged → Q.changes second_now ≡ Q.changes second
  pub to : Carries Q.tells (around Q T L second tape ledger) (around Q T L second_now tape_now ledger_now) target None (IsOk result)
  pub blame : (output : ℕ) → Blames (counts (P.faults first) (Q.faults second) (T.faults tape) output (L.faults ledger)) (counts (P.faults first_now) (Q.faults second_now) (T.faults tape_now) output (L.faults ledger_now)) result
  pub wrong : IfErr result (MeetsWrong P.tells Q.tells Compared Written (P.history first_now).present (Q.history second_now).present)
  pub behind : IfErr result IsBehindBoth
  pub number : Q.tells → IfOk result (HasNumber (Q.history second_now).present)
