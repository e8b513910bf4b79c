-- The grammar of the lines of a script, by cases on the command that a line spells.
use Rattle.std.specs.Prelude.{◌≡◌, ℕ, ◌<◌, ◌≤◌, ◌^◌, List, ◌∷◌, ◌++◌, length, codes, Ok}
use Rattle.std.specs.Fmt.{decimal}
use Rattle.hex.specs.Hex.{decode_of}
use Rattle.script_lang.specs.Commands.{Command}
use Rattle.script_lang.specs.Commands.{Format, Mount, Read, Write, Trim, Commit, Drop, Erase, Upgrade, Stat, Seize}

-- a number's only text: its decimal digits
abbrev pub IsNumber : List ℕ → ℕ → Type 0
IsNumber text n = (n < 2 ^ 64) × (text ≡ decimal n)

-- hex digits of either case, two for each byte of a block's front
abbrev pub IsHex : List ℕ → List ℕ → Type 0
IsHex text content = (decode_of text ≡ Ok content) × (0 < length content) × (length content ≤ 4096)

-- the line spells the command
abbrev pub Spells : List ℕ → Command → Type 0
Spells line (Format blocks order) = (a b : List ℕ) × IsNumber a blocks × IsNumber b order × (line ≡ codes "format " ++ (a ++ 32 ∷ b))
Spells line Mount = line ≡ codes "mount"
Spells line (Read block) = (a : List ℕ) × IsNumber a block × (line ≡ codes "read " ++ a)
Spells line (Write block content) = (a b : List ℕ) × IsNumber a block × IsHex b content × (line ≡ codes "write " ++ (a ++ 32 ∷ b))
Spells line (Trim block) = (a : List ℕ) × IsNumber a block × (line ≡ codes "trim " ++ a)
Spells line Commit = line ≡ codes "commit"
Spells line Drop = line ≡ codes "drop"
Spells line Erase = line ≡ codes "erase"
Spells line Upgrade = line ≡ codes "upgrade"
Spells line Stat = line ≡ codes "stat"
Spells line Seize = line ≡ codes "seize"

-- the line is outside the grammar
abbrev pub IsBad : List ℕ → Type 0
IsBad line = (command : Command) → Spells line command → ⊥
