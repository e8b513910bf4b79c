-- What a server is handed, and what its exit status says of faults.
use Rattle.std.specs.Prelude.{◌≡◌, ◌≤◌, ℕ, List, Option}
use Rattle.sdbt_base.specs.Counts.{Counts, InputRose, LedgerRose, NoneFell, OutputRose, PlatformRose, TapeRose}
use Rattle.sdbt_base.specs.declared.sinks.Sink.{Ghosts as SinkGhosts}
use Rattle.sdbt_base.specs.declared.sources.Source.{Ghosts as SourceGhosts}
use Rattle.sdbt_base.specs.declared.tapes.Tape.{Ghosts as TapeGhosts}
use Rattle.platform.specs.declared.platforms.Platform.{Ghosts as PlatformGhosts}
use Rattle.device_course.specs.States.{Outside, around}
use Rattle.session_calls.specs.Blame.{counts_of}

-- the five objects at one moment, and what they tell then: the moments of the platform, its pages, the keys that the tape drew and what the ledger has got; what the input has left; what the
-- output has got; and the counts of their faults
pub record Handed (S R I O L : Type 0) : Type 0 where
  pub platform : S
  pub tape : R
  pub input : I
  pub output : O
  pub ledger : L
  pub outside : Outside
  pub left : Option (List ℕ)
  pub written : Option (List ℕ)
  pub counts : Counts

abbrev pub handed : {S R I O L : Type 0} → PlatformGhosts S → TapeGhosts R → SourceGhosts I → SinkGhosts O → SinkGhosts L → S → R → I → O → L → Handed S R I O L
handed P T I O L platform tape input output ledger = record {
  platform = platform;
  tape = tape;
  input = input;
  output = output;
  ledger = ledger;
  outside = around P T L platform tape ledger;
  left = I.left input;
  written = O.written output;
  counts = counts_of P T I O L platform tape input output ledger;
}

-- no count fell; and an exit status that names a fault comes only where the count of that object rose, and that of no other: at each other one all are as they were
pub record IsBlamedAt (status : ℕ) (before now : Counts) : Type 0 where
  pub none_fell : NoneFell before now
  pub input : status ≡ 3 → InputRose before now
  pub output : status ≡ 4 → OutputRose before now
  pub platform : status ≡ 5 → PlatformRose before now
  pub tape : status ≡ 6 → TapeRose before now
  pub ledger : status ≡ 7 → LedgerRose before now
  pub quiet : (3 ≤ status → status ≤ 7 → ⊥) → now ≡ before
