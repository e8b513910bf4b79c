-- The lines of commands.
use Rattle.std.specs.Prelude.{ℕ, List, [], ◌∷◌, ◌++◌, codes}
use Rattle.std.specs.Fmt.{decimal}
use Rattle.hex.specs.Hex.{encode_lower}
use Rattle.script_lang.specs.Commands.{Command}
use Rattle.script_lang.specs.Commands.{Format, Mount, Read, Write, Trim, Commit, Drop, Erase, Upgrade, Stat, Seize}
use Rattle.script_lang.specs.Grammar.{Spells}

-- a command's line, without its line feed
unfoldable pub text_of : Command → List ℕ
text_of (Format blocks order) = codes "format " ++ (decimal blocks ++ 32 ∷ decimal order)
text_of Mount = codes "mount"
text_of (Read block) = codes "read " ++ decimal block
text_of (Write block content) = codes "write " ++ (decimal block ++ 32 ∷ encode_lower content)
text_of (Trim block) = codes "trim " ++ decimal block
text_of Commit = codes "commit"
text_of Drop = codes "drop"
text_of Erase = codes "erase"
text_of Upgrade = codes "upgrade"
text_of Stat = codes "stat"
text_of Seize = codes "seize"

-- a command's line, with its line feed
abbrev pub line_of : Command → List ℕ
line_of command = text_of command ++ 10 ∷ []

-- each line spells the command at its place
abbrev pub SpellEach : List (List ℕ) → List Command → Type 0
SpellEach [] [] = Unit {0}
SpellEach [] (command ∷ commands) = ⊥
SpellEach (line ∷ lines) [] = ⊥
SpellEach (line ∷ lines) (command ∷ commands) = Spells line command × SpellEach lines commands
