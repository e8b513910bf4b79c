-- What contracts see of a tape over a source.
use Rattle.std.specs.Prelude.{◌≡◌, ◌⊎◌, ℕ, Option, None, List, Result, Ok, Err}
use Rattle.sdbt_base.specs.Faults.{Rose, next_count}
use Rattle.sdbt_base.specs.Told.{IsAtEnd}
use Rattle.sdbt_base.specs.declared.sources.Source.{Ghosts}
use Rattle.key_tape.specs.declared.source_tape.SourceTape.{SourceTape}

-- the source that it takes its bytes from
abbrev pub source_of : {S : Type 0} → SourceTape S → S
source_of tape = tape.source

-- how often it has failed
abbrev pub faults_of : {S : Type 0} → SourceTape S → ℕ
faults_of tape = tape.faults

-- the keys that it tells of: it keeps none, and so tells none
abbrev pub told_by : {S : Type 0} → SourceTape S → Option (List (List ℕ))
told_by tape = None

-- a source that failed, and answered no end
pub record HasFailed {S : Type 0} (G : Ghosts S) (before now : S) : Type 0 where
  pub faults : Rose (G.faults before) (G.faults now)
  pub ends : G.ends now ≡ G.ends before

-- one that has nothing left, and answered so once
pub record HasEnded {S : Type 0} (G : Ghosts S) (before now : S) : Type 0 where
  pub left : IsAtEnd (G.left now)
  pub faults : G.faults now ≡ G.faults before
  pub ends : G.ends now ≡ next_count (G.ends before)

-- what a draw tells of the source: it neither failed nor ended where a key was drawn, and else did one of the two
abbrev pub TellsSource : {S T E : Type 0} → Ghosts S → S → S → Result T E → Type 0
TellsSource G before now (Ok key) = (G.faults now ≡ G.faults before) × (G.ends now ≡ G.ends before)
TellsSource G before now (Err fault) = HasFailed G before now ⊎ HasEnded G before now
