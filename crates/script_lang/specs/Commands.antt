-- What a line asks for, with the bytes that it writes.
use Rattle.std.specs.Prelude.{ℕ, ◌≤◌, List, take}
use Rattle.script_lang.specs.declared.commands.Command.{Command as Parsed}
use Rattle.script_lang.specs.declared.commands.Command.TheVariants as parsed

pub data Command : Type 0 where
  Format : (blocks order : ℕ) → Command
  Mount : Command
  Read : (block : ℕ) → Command
  Write : (block : ℕ) (content : List ℕ) → Command
  Trim : (block : ℕ) → Command
  Commit : Command
  Drop : Command
  Erase : Command
  Upgrade : Command
  Stat : Command
  Seize : Command

-- the command that was read, whose bytes stand at the front of a buffer
abbrev pub asked : Parsed → List ℕ → Command
asked (parsed.Format blocks order) buffer = Format blocks order
asked parsed.Mount buffer = Mount
asked (parsed.Read block) buffer = Read block
asked (parsed.Write block count) buffer = Write block (take count buffer)
asked (parsed.Trim block) buffer = Trim block
asked parsed.Commit buffer = Commit
asked parsed.Drop buffer = Drop
asked parsed.Erase buffer = Erase
asked parsed.Upgrade buffer = Upgrade
asked parsed.Stat buffer = Stat
asked parsed.Seize buffer = Seize

-- a write's bytes are those of a block at most
abbrev pub FitsBlock : Parsed → Type 0
FitsBlock (parsed.Write block count) = count ≤ 4096
FitsBlock _ = Unit {0}
