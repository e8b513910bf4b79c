-- What the program is handed.
use Rattle.std.specs.Prelude.{ℕ, List, Option, None}
use Rattle.sdbt_base.specs.declared.sinks.Sink.{Ghosts as SinkGhosts}
use Rattle.sdbt_base.specs.declared.sources.Source.{Ghosts as SourceGhosts}
use Rattle.sdbt_base.specs.declared.tapes.Tape.{Ghosts as TapeGhosts}
use Rattle.platform.specs.declared.platforms.Platform.{Ghosts as PlatformGhosts}
use Rattle.sdbt_base.specs.Counts.{Counts, counts}
use Rattle.device_cli.specs.World.{World, world_of}

-- the five objects at one moment, and what they tell then: the platform, without a session, and how many of its reads were of pages; the keys that the tape drew; what the input has left; what the output
-- and the ledger have got; and the counts of their faults
pub record Handed (S R I O L : Type 0) : Type 0 where
  pub platform : S
  pub tape : R
  pub input : I
  pub output : O
  pub ledger : L
  pub world : World
  pub page_reads : ℕ
  pub drawn : Option (List (List ℕ))
  pub left : Option (List ℕ)
  pub written : Option (List ℕ)
  pub entries : Option (List ℕ)
  pub counts : Counts

abbrev pub handed : {S R I O L : Type 0} → PlatformGhosts S → TapeGhosts R → SourceGhosts I → SinkGhosts O → SinkGhosts L → S → R → I → O → L → Handed S R I O L
handed P T I O L platform tape input output ledger = record {
  platform = platform;
  tape = tape;
  input = input;
  output = output;
  ledger = ledger;
  world = world_of P None platform;
  page_reads = P.page_reads platform;
  drawn = T.drawn tape;
  left = I.left input;
  written = O.written output;
  entries = L.written ledger;
  counts = counts (P.faults platform) (T.faults tape) (I.faults input) (O.faults output) (L.faults ledger);
}
