-- The room of a line that is built.
use Rattle.std.specs.Prelude.{◌≡◌, ◌≤◌, ℕ, List, [], take, drop, get_or, replicate}

-- the text of a line, and what stands behind it in its room
pub record Line : Type 0 where
  pub text : List ℕ
  pub behind : List ℕ

-- the line of this length at the front of a room
abbrev pub line_in : ℕ → List ℕ → Line
line_in len bytes = record { text = take len bytes; behind = drop len bytes }

-- a line without a text, in whose room nothing is left of any
abbrev pub blank_line : Line
blank_line = record { text = []; behind = replicate 8300 0 }

-- a line of this length stands at the front of the room, as did others, of so many bytes at most; all behind these is zero
pub record IsRoom (len used : ℕ) (bytes : List ℕ) : Type 0 where
  pub fits : len ≤ 8300
  pub short : used ≤ 8300
  pub zeros : (place : ℕ) → len ≤ place → used ≤ place → get_or bytes place 0 ≡ 0
