-- What contracts see of the source, the sink and the tape in memory.
use Rattle.std.specs.Prelude.{ℕ, ◌==◌, Option, List}
use Rattle.std.specs.List.{find}
use Rattle.std.specs.Option.{option_map}

-- a source: what is left, the most that one take gives, the numbers of the takes that fail, and counts of takes, of faults
-- and of ends
pub record SourceState : Type 0 where
  pub left : List ℕ
  pub step : ℕ
  pub fail : List ℕ
  pub takes : ℕ
  pub faults : ℕ
  pub ends : ℕ

-- a sink: what was written, the numbers of the puts that fail, each with the bytes after which it does, and counts
pub record SinkState : Type 0 where
  pub written : List ℕ
  pub fail : List (ℕ × ℕ)
  pub puts : ℕ
  pub faults : ℕ
  pub starved : ℕ

-- after how many bytes this put fails, if it is listed
abbrev pub fails_after : List (ℕ × ℕ) → ℕ → Option ℕ
fails_after fail number = option_map (λ (p : ℕ × ℕ). p.1) (find (λ (p : ℕ × ℕ). p.0 == number) fail)

-- a tape: the keys drawn, those that are left, the numbers of the draws that fail, and counts
pub record TapeState : Type 0 where
  pub drawn : List (List ℕ)
  pub left : List (List ℕ)
  pub fail : List ℕ
  pub draws : ℕ
  pub faults : ℕ
