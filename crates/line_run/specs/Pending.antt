-- What is pending of a line: the bytes of it that have come.
use Rattle.std.specs.Prelude.{◌≡◌, ℕ, ◌<◌, Option, None, Some, List, length}
use Rattle.text_lines.specs.Lines.{HasNone}

-- the line's bytes, or only that there are more than a line of a grammar has
abbrev pub IsPending : Option (List ℕ) → List ℕ → Type 0
IsPending None line = 8300 < length line
IsPending (Some bytes) line = bytes ≡ line

-- the same of a line that has not ended
pub record IsUnfinished (pending : Option (List ℕ)) (line : List ℕ) : Type 0 where
  pub is_pending : IsPending pending line
  pub feedless : HasNone 10 line
