-- A script as a whole.
use Rattle.std.proofs.Common.{◌≡◌, ℕ, ◌+◌, ◌*◌, ◌≤◌, List, [], ◌∷◌, ◌++◌, length, refl, sym, ap, ◌∙◌, subst, arith, append_assoc, length-append}
use Rattle.std.specs.Prelude.{flat_map, map}
use Rattle.std.proofs.lemmas.Grind.{common_steps}
use Rattle.std.specs.List.{AllByRecursion}
use Rattle.std.proofs.lemmas.List.{length-map}
use Rattle.text_lines.specs.Lines.{HasNone, lines_of}
use Rattle.text_lines.proofs.LineLaws.{lines_of-feed, whole_lines_of-none, rest_of-none}
use Rattle.script_lang.specs.Commands.{Command}
use Rattle.script_lang.specs.Commands.{Format, Mount, Commit, Stat, Seize}
use Rattle.workload.specs.Lines.{text_of, line_of, SpellEach}
use Rattle.workload.specs.Scripts.{commands_of, generated_commands}
use Rattle.workload.proofs.LineLaws.{IsPlain, format_is_plain, mount_is_plain, commit_is_plain, stat_is_plain, seize_is_plain}
use Rattle.workload.proofs.GeneratedLaws.{generated_are_plain, length-generated_commands}

-- the first line of a text, and those behind it
first_line : (line behind : List ℕ) → HasNone 10 line → lines_of ((line ++ 10 ∷ []) ++ behind) ≡ line ∷ lines_of behind
first_line line behind none =
    rw (append_assoc line (10 ∷ []) behind, lines_of-feed line behind, whole_lines_of-none line none, rest_of-none line none) refl

-- the lines of commands are their texts
pub lines_of-commands : (commands : List Command) → AllByRecursion IsPlain commands → lines_of (flat_map line_of commands) ≡ map text_of commands
unfolding lines_of
lines_of-commands [] h = refl
lines_of-commands (command ∷ commands) h =
    first_line (text_of command) (flat_map line_of commands) h.0.one_line
    ∙ ap (λ (lines : List (List ℕ)). text_of command ∷ lines) (lines_of-commands commands h.1)

texts_spell : (commands : List Command) → AllByRecursion IsPlain commands → SpellEach (map text_of commands) commands
texts_spell [] h = tt
texts_spell (command ∷ commands) h = (h.0.spelled, texts_spell commands h.1)

pub lines_spell : (commands : List Command) → AllByRecursion IsPlain commands → SpellEach (lines_of (flat_map line_of commands)) commands
lines_spell commands h =
    let P : List (List ℕ) → Type 0 = λ lines. SpellEach lines commands in
    subst P (sym (lines_of-commands commands h)) (texts_spell commands h)

pub lines_are_short : (commands : List Command) → AllByRecursion IsPlain commands → length (flat_map line_of commands) ≤ 20 * length commands
lines_are_short [] h = omega arith
lines_are_short (command ∷ commands) h =
    omega (arith, length-append (line_of command) (flat_map line_of commands), h.0.short, lines_are_short commands h.1)

all_append : (first second : List Command) → AllByRecursion IsPlain first → AllByRecursion IsPlain second → AllByRecursion IsPlain (first ++ second)
all_append [] second p q = q
all_append (command ∷ first) second p q = (p.0, all_append first second p.1 q)

pub script_is_plain : (seed count : ℕ) → AllByRecursion IsPlain (commands_of seed count)
script_is_plain seed count = (
  format_is_plain,
  (
    mount_is_plain,
    all_append (generated_commands seed count) (Commit ∷ Stat ∷ Seize ∷ []) (generated_are_plain seed count)
        (commit_is_plain, (stat_is_plain, (seize_is_plain, tt))),
  ),
)

pub length-commands_of : (seed count : ℕ) → length (commands_of seed count) ≡ count + 5
length-commands_of seed count =
    omega (arith, length-append (generated_commands seed count) (Commit ∷ Stat ∷ Seize ∷ []), length-generated_commands seed count)

-- a text to which the lines of a script were added one after another is the script
pub script_text : (start first second third fourth fifth last : List ℕ) (seed count : ℕ) → start ≡ [] → first ≡ start ++ line_of (Format 4096 16)
    → second ≡ first ++ line_of Mount → third ≡ second ++ flat_map line_of (generated_commands seed count) → fourth ≡ third ++ line_of Commit
    → fifth ≡ fourth ++ line_of Stat → last ≡ fifth ++ line_of Seize → last ≡ flat_map line_of (commands_of seed count)
script_text start first second third fourth fifth last seed count is_start is_first is_second is_third is_fourth is_fifth is_last = grind (arith, common_steps)

-- what is said of a script's lines, of a text that is the script
pub script_spells : (line : List ℕ) (seed count : ℕ) → line ≡ flat_map line_of (commands_of seed count) → SpellEach (lines_of line) (commands_of seed count)
script_spells line seed count e =
    let P : List ℕ → Type 0 = λ text. SpellEach (lines_of text) (commands_of seed count) in
    subst P (sym e) (lines_spell (commands_of seed count) (script_is_plain seed count))

pub script_has_lines : (line : List ℕ) (seed count : ℕ) → line ≡ flat_map line_of (commands_of seed count) → length (lines_of line) ≡ count + 5
script_has_lines line seed count e =
    ap (λ (text : List ℕ). length (lines_of text)) e ∙ ap length (lines_of-commands (commands_of seed count) (script_is_plain seed count))
    ∙ length-map (commands_of seed count) text_of ∙ length-commands_of seed count

pub script_is_short : (line : List ℕ) (seed count : ℕ) → line ≡ flat_map line_of (commands_of seed count) → length line ≤ 20 * (count + 5)
script_is_short line seed count e =
    omega (arith, ap length e, lines_are_short (commands_of seed count) (script_is_plain seed count), length-commands_of seed count)
