-- How many pages a seizure reads, and how often it looks at the cell.
use Rattle.std.specs.Prelude.{◌≢◌, ◌≤◌, ◌⊎◌, ◌+◌, ℕ, List, Option, All, AllPairs, length}
use Rattle.sdbt_base.specs.Rises.{MayRiseByOne}
use Rattle.key_graph.specs.Chains.{Link, ChainEnds}
use Rattle.seizure.specs.Report.{Begins}

-- each page was read once at most, and once more for each key by which a chain from these keys ends at it
pub record ReadsEach (roots pages : List (List ℕ)) (reads reads_now : ℕ) : Type 0 where
  pub openings : List Link
  pub ends : All (ChainEnds roots pages) openings
  pub once : AllPairs (λ one other. one ≢ other) openings
  pub most : reads_now ≤ reads + (length pages + length openings)

-- the cell was looked at, once at most, and no page read; or behind one look at it each page was read so often, from the keys that chains begin with
abbrev pub ReadsFew : ℕ → Option (List ℕ) → List (List ℕ) → List (List ℕ) → ℕ → ℕ → Type 0
ReadsFew head cell keys pages reads reads_now =
    MayRiseByOne reads reads_now ⊎ ((roots : List (List ℕ)) × Begins head cell keys roots × ReadsEach roots pages (reads + 1) reads_now)
