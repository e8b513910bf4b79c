-- The lines of a text. A line ends with a line feed, byte 10; the last line may lack it.
use Rattle.std.specs.Prelude.{◌≢◌, ℕ, Bool, false, ◌==◌, ◌||◌, if◌then◌else◌, List, [], ◌∷◌}
use Rattle.std.specs.List.{AllByRecursion}

-- no byte of the text is this one
abbrev pub HasNone : ℕ → List ℕ → Type 0
HasNone byte text = AllByRecursion (λ b. b ≢ byte) text

-- the byte in front of the first line, if there is one
abbrev pub in_front : ℕ → List (List ℕ) → List (List ℕ)
in_front byte [] = []
in_front byte (line ∷ lines) = (byte ∷ line) ∷ lines

-- the same, and where there is no line the byte is one
abbrev pub begun_by : ℕ → List (List ℕ) → List (List ℕ)
begun_by byte [] = (byte ∷ []) ∷ []
begun_by byte (line ∷ lines) = (byte ∷ line) ∷ lines

-- whether a line feed stands in the text
unfoldable pub has_feed : List ℕ → Bool
has_feed [] = false
has_feed (byte ∷ text) = (byte == 10) || has_feed text

-- the lines that end with a line feed, without it
unfoldable pub whole_lines_of : List ℕ → List (List ℕ)
whole_lines_of [] = []
whole_lines_of (byte ∷ text) = if byte == 10 then [] ∷ whole_lines_of text else in_front byte (whole_lines_of text)

-- what follows the last line feed
unfoldable pub rest_of : List ℕ → List ℕ
rest_of [] = []
rest_of (byte ∷ text) = if (byte == 10) || has_feed text then rest_of text else byte ∷ text

-- a last line that lacks its line feed; an empty rest is none
abbrev pub last_line : List ℕ → List (List ℕ)
last_line [] = []
last_line (byte ∷ rest) = (byte ∷ rest) ∷ []

-- all lines, a last one without line feed among them
unfoldable pub lines_of : List ℕ → List (List ℕ)
lines_of [] = []
lines_of (byte ∷ text) = if byte == 10 then [] ∷ lines_of text else begun_by byte (lines_of text)
