use Rattle.std.proofs.Common.{ℕ, List, Option, Some, None}
use Rattle.std.specs.Option.{IfNone}
use Rattle.script_lang.specs.Grammar.{Spells, IsBad}
use Rattle.script_lang.specs.Commands.{Format, Mount, Read, Write, Trim, Commit, Drop, Erase, Upgrade, Stat, Seize}
use Rattle.script_lang.proofs.commands.parse.Goals as goal

-- a line that spells no command of either kind is bad
none_left : (line : List ℕ) → (Spells line Mount → ⊥) → (Spells line Commit → ⊥) → (Spells line Drop → ⊥)
    → (Spells line Erase → ⊥) → (Spells line Upgrade → ⊥) → (Spells line Stat → ⊥) → (Spells line Seize → ⊥)
    → ((blocks order : ℕ) → Spells line (Format blocks order) → ⊥) → ((block : ℕ) → Spells line (Read block) → ⊥)
    → ((block : ℕ) (content : List ℕ) → Spells line (Write block content) → ⊥)
    → ((block : ℕ) → Spells line (Trim block) → ⊥) → IsBad line
none_left line mount commit drop erase upgrade stat seize format read write trim (Format blocks order) = format blocks order
none_left line mount commit drop erase upgrade stat seize format read write trim Mount = mount
none_left line mount commit drop erase upgrade stat seize format read write trim (Read block) = read block
none_left line mount commit drop erase upgrade stat seize format read write trim (Write block content) = write block content
none_left line mount commit drop erase upgrade stat seize format read write trim (Trim block) = trim block
none_left line mount commit drop erase upgrade stat seize format read write trim Commit = commit
none_left line mount commit drop erase upgrade stat seize format read write trim Drop = drop
none_left line mount commit drop erase upgrade stat seize format read write trim Erase = erase
none_left line mount commit drop erase upgrade stat seize format read write trim Upgrade = upgrade
none_left line mount commit drop erase upgrade stat seize format read write trim Stat = stat
none_left line mount commit drop erase upgrade stat seize format read write trim Seize = seize

weaker : {X : Type 0} (o : Option X) (P Q : Type 0) → (P → Q) → IfNone o P → IfNone o Q
weaker None P Q leads p = leads p
weaker (Some x) P Q leads p = p

pub returns-clause-none : goal.returns-clause-none
returns-clause-none c =
    let word = c.in_default.ensures in
    weaker c.parse_trim.result _ _ (none_left c.args.line.now c.in_default.ensures.mount c.in_default.ensures.commit c.in_default.ensures.drop
    c.in_default.ensures.erase c.in_default.ensures.upgrade c.in_default.ensures.stat c.in_default.ensures.seize c.in_default-parse_format.ensures.none
    c.in_default-parse_read.ensures.none c.in_default-parse_write.ensures.none) c.parse_trim.ensures.none
