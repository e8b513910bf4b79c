-- The grammar of lines, by cases on what a line asks for.
use Rattle.std.specs.Prelude.{◌≡◌, ℕ, List, ◌∷◌, ◌++◌, codes}
use Rattle.script_lang.specs.Commands as commands
use Rattle.script_lang.specs.Commands.{Command}
use Rattle.script_lang.specs.Grammar as scripts
use Rattle.script_lang.specs.Grammar.{IsNumber}
use Rattle.volume_table.specs.Names.{IsName}
use Rattle.volume_lines.specs.Lines.{Line, Create, Read, Write, Trim, Destroy, Commit}

-- behind this word stand a name and a space, without which the line is this command of a script
abbrev pub SpellsNamed : List ℕ → List ℕ → List ℕ → Command → Type 0
SpellsNamed line word name command = (rest : List ℕ) × IsName name × (line ≡ word ++ (name ++ 32 ∷ rest)) × scripts.Spells (word ++ rest) command

-- the line asks for this
abbrev pub Spells : List ℕ → Line → Type 0
Spells line (Create name count) = (a : List ℕ) × IsName name × IsNumber a count × (line ≡ codes "create " ++ (name ++ 32 ∷ a))
Spells line (Read name block) = SpellsNamed line (codes "read ") name (commands.Read block)
Spells line (Write name block content) = SpellsNamed line (codes "write ") name (commands.Write block content)
Spells line (Trim name block) = SpellsNamed line (codes "trim ") name (commands.Trim block)
Spells line (Destroy name) = IsName name × (line ≡ codes "destroy " ++ name)
Spells line Commit = line ≡ codes "commit"

-- the line is outside the grammar
abbrev pub IsBad : List ℕ → Type 0
IsBad line = (asked : Line) → Spells line asked → ⊥
