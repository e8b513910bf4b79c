-- A run from its input to its output, but for what it says last.
use Rattle.std.specs.Prelude.{ℕ, List, Option, length}
use Rattle.line_run.specs.Runs as lines
use Rattle.line_run.specs.Stops.{Ending}
use Rattle.volume_serving.specs.Handled.{Handled}
use Rattle.volume_serving.specs.World.{World}

-- how many replies that speaks of
abbrev pub replies_in : (tells : Type 0) (blocks : ℕ) (old new : World) (ending : Ending) (lines : List (List ℕ)) (a b : Option (List ℕ)) → Handled tells blocks old new ending lines a b → ℕ
replies_in tells blocks old new ending lines a b handled = length handled.replied.replies

-- a run that took its lines from an input and put its replies to an output
abbrev pub Ran : Type 0 → ℕ → World → World → Ending → Option (List ℕ) → Option (List ℕ) → Option (List ℕ) → Option (List ℕ) → Type 0
Ran tells blocks old new ending left left_now written written_now = lines.Ran (Handled tells blocks) (replies_in tells blocks) old new ending left left_now written written_now
