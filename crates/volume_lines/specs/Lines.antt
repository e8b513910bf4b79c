-- What a line asks for, with the bytes that it writes.
use Rattle.std.specs.Prelude.{ℕ, ◌≤◌, List, take}
use Rattle.volume_lines.specs.declared.lines.Line.{Line as Parsed}
use Rattle.volume_lines.specs.declared.lines.Line.TheVariants as parsed

pub data Line : Type 0 where
  Create : (name : List ℕ) (count : ℕ) → Line
  Read : (name : List ℕ) (block : ℕ) → Line
  Write : (name : List ℕ) (block : ℕ) (content : List ℕ) → Line
  Trim : (name : List ℕ) (block : ℕ) → Line
  Destroy : (name : List ℕ) → Line
  Commit : Line

-- the line that was read, whose bytes stand at the front of a buffer
abbrev pub asked : Parsed → List ℕ → Line
asked (parsed.Create name count) buffer = Create name count
asked (parsed.Read name block) buffer = Read name block
asked (parsed.Write name block count) buffer = Write name block (take count buffer)
asked (parsed.Trim name block) buffer = Trim name block
asked (parsed.Destroy name) buffer = Destroy name
asked parsed.Commit buffer = Commit

-- a write's bytes are those of a block at most
abbrev pub FitsBlock : Parsed → Type 0
FitsBlock (parsed.Write name block count) = count ≤ 4096
FitsBlock _ = Unit {0}
