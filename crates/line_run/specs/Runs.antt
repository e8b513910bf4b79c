-- A run from its input to its output, whatever a server says of its lines.
use Rattle.std.specs.Prelude.{ℕ, List, Option}
use Rattle.sdbt_base.specs.Told.{Gave}
use Rattle.line_run.specs.Puts.{AreLines, IsPrompt}
use Rattle.line_run.specs.Stops.{Ending, TookUntil}

-- a run that took its lines from an input and put its replies to an output. `Handled` is what the server says of lines, from one world to another, by how that ended and by what its output
-- had got; and `count` how many replies that speaks of
pub record Ran {W : Type 0} (Handled : W → W → Ending → List (List ℕ) → Option (List ℕ) → Option (List ℕ) → Type 0) (count : (old new : W) (ending : Ending) (lines : List (List ℕ)) (a b : Option (List ℕ)) → Handled old new ending lines a b → ℕ) (old new : W) (ending : Ending) (left left_now written written_now : Option (List ℕ)) : Type 0 where
  pub taken : List ℕ
  pub lines : List (List ℕ)
  pub gave : Gave left taken left_now
  pub took : TookUntil ending taken left_now
  pub come : AreLines ending taken left_now lines
  pub handled : Handled old new ending lines written written_now
  pub prompt : IsPrompt taken (count old new ending lines written written_now handled)
