-- A line spells one command.
use Rattle.std.proofs.Common.{◌≡◌, ℕ, ◌+◌, ◌*◌, cond, ◌==◌, List, [], ◌∷◌, ◌++◌, get_or, drop, refl, sym, ap, ◌∙◌}
use Rattle.std.specs.Prelude.{codes}
use Rattle.std.specs.Result.{result_unwrap_or}
use Rattle.std.specs.Str.Parse.{digits_value}
use Rattle.hex.specs.Hex.{decode_of}
use Rattle.script_lang.specs.Grammar.{Spells, IsNumber}
use Rattle.script_lang.specs.Commands.{Command}
use Rattle.script_lang.specs.Commands.{Format, Mount, Read, Write, Trim, Commit, Drop, Erase, Upgrade, Stat, Seize}
use Rattle.script_lang.proofs.Numbers.{number_is_numeral}
use Rattle.script_lang.proofs.Spaces.{no_space}
use Rattle.script_lang.proofs.ReplyLaws.{before_space, behind_space, before-space, behind-space}

-- the first two bytes as one number
abbrev begins : List ℕ → ℕ
begins text = get_or text 0 0 * 256 + get_or text 1 0

-- a command that the line spells
abbrev command_of : List ℕ → Command
command_of line =
    cond (begins line == begins (codes "format ")) (Format (digits_value 10 (before_space (drop 7 line))) (digits_value 10 (behind_space (drop 7 line))))
    (cond (begins line == begins (codes "mount")) Mount
    (cond (begins line == begins (codes "read ")) (Read (digits_value 10 (drop 5 line)))
    (cond (begins line == begins (codes "write ")) (Write (digits_value 10 (before_space (drop 6 line)))
    (result_unwrap_or (decode_of (behind_space (drop 6 line))) []))
    (cond (begins line == begins (codes "trim ")) (Trim (digits_value 10 (drop 5 line)))
    (cond (begins line == begins (codes "commit")) Commit
    (cond (begins line == begins (codes "drop")) Drop
    (cond (begins line == begins (codes "erase")) Erase
    (cond (begins line == begins (codes "upgrade")) Upgrade
    (cond (begins line == begins (codes "stat")) Stat Seize)))))))))

value : (text : List ℕ) (n : ℕ) → IsNumber text n → digits_value 10 text ≡ n
value text n h = (number_is_numeral text n h).1

-- the command is computed from its line
command_back : (line : List ℕ) (command : Command) → Spells line command → command_of line ≡ command
command_back line (Format blocks order) (a, b, m, n, e) = ap command_of e
    ∙ ap (λ (text : List ℕ). Format (digits_value 10 text) (digits_value 10 (behind_space (a ++ 32 ∷ b)))) (before-space a b (no_space a blocks m))
    ∙ ap (λ (text : List ℕ). Format (digits_value 10 a) (digits_value 10 text)) (behind-space a b (no_space a blocks m))
    ∙ ap (λ (k : ℕ). Format k (digits_value 10 b)) (value a blocks m) ∙ ap (Format blocks) (value b order n)
command_back line Mount e = ap command_of e
command_back line (Read block) (a, m, e) = ap command_of e ∙ ap Read (value a block m)
command_back line (Write block content) (a, b, m, n, e) = ap command_of e
    ∙ ap (λ (text : List ℕ). Write (digits_value 10 text) (result_unwrap_or (decode_of (behind_space (a ++ 32 ∷ b))) [])) (before-space a b (no_space a block m))
    ∙ ap (λ (text : List ℕ). Write (digits_value 10 a) (result_unwrap_or (decode_of text) [])) (behind-space a b (no_space a block m))
    ∙ ap (λ (k : ℕ). Write k (result_unwrap_or (decode_of b) [])) (value a block m)
    ∙ rw n.0 refl
command_back line (Trim block) (a, m, e) = ap command_of e ∙ ap Trim (value a block m)
command_back line Commit e = ap command_of e
command_back line Drop e = ap command_of e
command_back line Erase e = ap command_of e
command_back line Upgrade e = ap command_of e
command_back line Stat e = ap command_of e
command_back line Seize e = ap command_of e

-- no line spells two
pub one_command : (line : List ℕ) (a b : Command) → Spells line a → Spells line b → a ≡ b
one_command line a b p q = sym (command_back line a p) ∙ command_back line b q
