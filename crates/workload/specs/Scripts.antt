-- The script of a seed.
use Rattle.std.specs.Prelude.{◌≡◌, ℕ, zero, suc, ◌%◌, ◌<◌, nat_lt, if◌then◌else◌, List, [], ◌∷◌, ◌++◌, length}
use Rattle.std.specs.Int.{w32, to_be_bytes}
use Rattle.script_lang.specs.Commands.{Command}
use Rattle.script_lang.specs.Commands.{Format, Mount, Read, Write, Trim, Commit, Drop, Erase, Upgrade, Stat, Seize}
use Rattle.workload.specs.Draws.{next_state, draw_at}

-- the command that the draws behind a state give, and the state behind them. The first draw modulo 10 says what kind of
-- command it is; the second modulo 4,096 is its block; the third is what a write writes, highest byte first
unfoldable pub generated : ℕ → Command × ℕ
generated x =
    let first = next_state x in
    let second = next_state first in
    let third = next_state second in
    let kind = draw_at first % 10 in
    let block = draw_at second % 4096 in
    if nat_lt kind 5 then (Write block (to_be_bytes w32 (draw_at third)), third)
    else if nat_lt kind 7 then (Read block, second)
    else if nat_lt kind 8 then (Trim block, second)
    else (Commit, first)

-- so many commands
unfoldable pub generated_commands : ℕ → ℕ → List Command
generated_commands x zero = []
generated_commands x (suc n) = (generated x).0 ∷ generated_commands (generated x).1 n

-- the script of a seed: a device of 4,096 blocks and order 16 is made and mounted, generated commands follow, and at its end
-- they are committed, and what the device maps and what it discloses is asked for
abbrev pub commands_of : ℕ → ℕ → List Command
commands_of seed count =
    Format 4096 16 ∷ Mount ∷ (generated_commands seed count ++ Commit ∷ Stat ∷ Seize ∷ [])

-- a command that a mounted device of 4,096 blocks serves: it reads a block, writes four bytes to one, trims one, or commits
abbrev pub IsOrdinary : Command → Type 0
IsOrdinary (Read block) = block < 4096
IsOrdinary (Write block content) = (block < 4096) × (length content ≡ 4)
IsOrdinary (Trim block) = block < 4096
IsOrdinary Commit = Unit {0}
IsOrdinary (Format blocks order) = ⊥
IsOrdinary Mount = ⊥
IsOrdinary Drop = ⊥
IsOrdinary Erase = ⊥
IsOrdinary Upgrade = ⊥
IsOrdinary Stat = ⊥
IsOrdinary Seize = ⊥
