-- Two runs over volumes, with a loss of power between them.
use Rattle.std.proofs.Common.{inl, inr}
use Rattle.std.specs.Prelude.{◌≡◌, ◌≤◌, ◌⊎◌, ◌++◌, ℕ, List, [], ◌∷◌, Option, Result, length}
use Rattle.sdbt_base.specs.Arrays.{Device}
use Rattle.sdbt_base.specs.Counts.{counts}
use Rattle.sdbt_base.specs.declared.sinks.Sink.{Ghosts as SinkGhosts}
use Rattle.sdbt_base.specs.declared.sources.Source.{Ghosts as SourceGhosts}
use Rattle.sdbt_base.specs.declared.tapes.Tape.{Ghosts as TapeGhosts}
use Rattle.platform.specs.History.{History, image_at, moment}
use Rattle.platform.specs.Mem.{answered_of, mem_history, image_of_now, capacity_of, faults_of}
use Rattle.platform.specs.declared.mem_platform.MemPlatform.{MemPlatform}
use Rattle.power_loss.specs.Loss.{Tore}
use Rattle.key_graph.specs.Chains.{KeyPremises}
use Rattle.page_store.specs.Disclosing.{DisclosesOn}
use Rattle.page_store.specs.Keeping.{DrewAll}
use Rattle.page_store.specs.Kept.{Kept}
use Rattle.device_course.specs.Held.{Held}
use Rattle.device_course.specs.Leading.{last_of}
use Rattle.device_course.specs.States.{Outside, outside}
use Rattle.volume_lines.specs.Replies.{Reply}
use Rattle.volume_terms.specs.Destroyed.{IfDestroyed, IsFree, IsFreeUntilTaken, IsTakenIn, LeavesNothing}
use Rattle.volume_terms.specs.Volumes.{IsBlockOf}
use Rattle.volumes.specs.Destroyed.{IsDestroyed, ReachesNone}
use Rattle.session_calls.specs.Handed.{Handed}
use Rattle.volumes.specs.Program.{Exits, Serving}
use Rattle.volumes.specs.Running.{Serves}
use Rattle.volumes.specs.Starting.{IsStart}
use Rattle.volumes.specs.declared.halts.Halt.{Halt}

-- a platform in memory and the four other objects at one moment
abbrev pub in_memory : {R I O L : Type 0} → TapeGhosts R → SourceGhosts I → SinkGhosts O → SinkGhosts L → MemPlatform → R → I → O → L → Handed MemPlatform R I O L
in_memory T I O L platform tape input output ledger = record {
  platform = platform;
  tape = tape;
  input = input;
  output = output;
  ledger = ledger;
  outside = outside (mem_history platform) (length (image_of_now platform).recorded) (capacity_of platform) (answered_of platform) (T.drawn tape) (L.written ledger);
  left = I.left input;
  written = O.written output;
  counts = counts (faults_of platform) (T.faults tape) (I.faults input) (O.faults output) (L.faults ledger);
}

-- a line destroyed a volume in the first of two runs, and of its data pages that there were then none is reached at any moment of the second
pub record StaysDestroyed (keys : List (List ℕ)) (old mid cut new : History) (before : Held) (line : List ℕ) (after : Held) (states : List Held) : Type 0 where
  pub destroyed : IsDestroyed old mid before line after states
  pub never : (block : ℕ) → IsBlockOf destroyed.leaves.v block → (later : ℕ) → moment cut ≤ later → later ≤ moment new → ReachesNone keys block (image_at mid destroyed.at) (image_at new later)

-- so did each line whose reply says so
abbrev pub StayDestroyed : List (List ℕ) → History → History → History → History → Held → List (List ℕ) → List Reply → List Held → List Held → Type 0
StayDestroyed keys old mid cut new entry (line ∷ lines) (reply ∷ replies) (state ∷ states) ahead =
    IfDestroyed reply (StaysDestroyed keys old mid cut new entry line state (states ++ ahead)) × StayDestroyed keys old mid cut new state lines replies states ahead
StayDestroyed keys old mid cut new entry [] replies states ahead = Unit {0}
StayDestroyed keys old mid cut new entry (line ∷ lines) [] states ahead = Unit {0}
StayDestroyed keys old mid cut new entry (line ∷ lines) (reply ∷ replies) [] ahead = Unit {0}

-- the same of all lines that the first run served, from each state that it may have begun from
abbrev pub AllStay : (keys : List (List ℕ)) (From : Held → Type 0) (old mid : Outside) (cut new : History) (result : Result (Unit {0}) Halt) (left left_now written written_now : Option (List ℕ))
    → Serves (Unit {0}) From old mid result left left_now written written_now → Type 0
AllStay keys From old mid cut new result left left_now written written_now (inl silent) = Unit {0}
AllStay keys From old mid cut new result left left_now written written_now (inr (ending, is, answers)) =
    (entry : Held) → (from : From entry)
    → StayDestroyed keys old.history mid.history cut new entry answers.lines answers.replies (answers.led entry from).on.led.states (answers.led entry from).on.ahead

-- the block is free at the start of a run, and up to the first state in which a volume has it
abbrev pub IsFreeOn : (block : ℕ) (From : Held → Type 0) (old new : Outside) (result : Result (Unit {0}) Halt) (left left_now written written_now : Option (List ℕ)) → Serves (Unit {0}) From old new result left left_now written written_now
    → (entry : Held) → From entry → Type 0
IsFreeOn block From old new result left left_now written written_now (inl silent) entry from = IsFree block entry
IsFreeOn block From old new result left left_now written written_now (inr (ending, is, answers)) entry from =
    IsFree block entry × IsFreeUntilTaken block ((answers.led entry from).on.led.states ++ (answers.led entry from).on.ahead)

-- each block of a volume that a line destroyed was one of a volume again behind it, or this is so of it later
abbrev pub StayFree : (ℕ → Type 0) → Held → List (List ℕ) → List Reply → List Held → List Held → Type 0
StayFree Later entry (line ∷ lines) (reply ∷ replies) (state ∷ states) ahead =
    IfDestroyed reply ((gone : LeavesNothing entry line state) × ((block : ℕ) → IsBlockOf gone.v block → IsTakenIn block (states ++ ahead) ⊎ Later block)) × StayFree Later state lines replies states ahead
StayFree Later entry [] replies states ahead = Unit {0}
StayFree Later entry (line ∷ lines) [] states ahead = Unit {0}
StayFree Later entry (line ∷ lines) (reply ∷ replies) [] ahead = Unit {0}

-- the same of all lines that the first run served, from each state that it may have begun from
abbrev pub AllFree : (From : Held → Type 0) → ((entry : Held) → From entry → ℕ → Type 0) → (old mid : Outside) (result : Result (Unit {0}) Halt) (left left_now written written_now : Option (List ℕ))
    → Serves (Unit {0}) From old mid result left left_now written written_now → Type 0
AllFree From Later old mid result left left_now written written_now (inl silent) = Unit {0}
AllFree From Later old mid result left left_now written written_now (inr (ending, is, answers)) =
    (entry : Held) → (from : From entry) → StayFree (Later entry from) entry answers.lines answers.replies (answers.led entry from).on.led.states (answers.led entry from).on.ahead

-- the device is the one with which a run ended that began from this state
abbrev pub EndsWith : (From : Held → Type 0) (old mid : Outside) (result : Result (Unit {0}) Halt) (left left_now written written_now : Option (List ℕ)) → Serves (Unit {0}) From old mid result left left_now written written_now
    → (entry : Held) → From entry → Device → Type 0
EndsWith From old mid result left left_now written written_now (inl silent) entry from device = device ≡ entry.device
EndsWith From old mid result left left_now written written_now (inr (ending, is, answers)) entry from device =
    device ≡ (last_of entry ((answers.led entry from).on.led.states ++ (answers.led entry from).on.ahead)).device

-- The first run serves its lines and ends; the power is lost; over what is left the second run serves its own, from the device with which the first one ended. A block of a volume that the
-- first one destroyed is free in the second until a volume has it, unless one had it before; and nothing of the volume's data is reached there
pub record TwoRuns {S R I O L : Type 0} (torn : List ℕ) (first second : ℕ) (given other : I) (old new : Handed S R I O L) : Type 0 where
  pub mid : Handed S R I O L
  pub cut : Handed S R I O L
  pub inputs : (mid.input ≡ given) × (cut.input ≡ other)
  pub same : (cut.tape ≡ mid.tape) × (cut.output ≡ mid.output) × (cut.ledger ≡ mid.ledger)
  pub exits : Exits [] first old mid × Exits [] second cut new
  pub one : Serving (Unit {0}) first old mid
  pub lost : Tore torn mid.outside.history.present cut.outside.history.present
  pub two : Serving (Unit {0}) second cut new
  pub goes_on : (entry : Held) → (start : IsStart (Unit {0}) old.outside entry)
      → (next : Held) × IsStart (Unit {0}) cut.outside next
      × EndsWith (IsStart (Unit {0}) old.outside) old.outside mid.outside one.ran.halted old.left mid.left old.written one.ran.written_then one.ran.serves entry start next.device
  pub free : AllFree (IsStart (Unit {0}) old.outside)
      (λ entry start block. IsFreeOn block (IsStart (Unit {0}) cut.outside) cut.outside new.outside two.ran.halted cut.left new.left cut.written two.ran.written_then two.ran.serves (goes_on entry start).0 (goes_on entry start).1)
      old.outside mid.outside one.ran.halted old.left mid.left old.written one.ran.written_then one.ran.serves
  pub grew : List (List ℕ)
  pub more : List (List ℕ)
  pub drew : DrewAll old.outside.drawn (grew ++ more) new.outside.drawn
  pub discloses : (entry : Held) → IsStart (Unit {0}) old.outside entry → (keys : List (List ℕ)) → Kept keys old.outside.history.present
      → KeyPremises ((keys ++ grew) ++ more) new.outside.history.present.recorded
      → DisclosesOn keys grew old.outside.history mid.outside.history cut.outside.history new.outside.history
      × AllStay (keys ++ grew) (IsStart (Unit {0}) old.outside) old.outside mid.outside cut.outside.history new.outside.history
      one.ran.halted old.left mid.left old.written one.ran.written_then one.ran.serves
