use Rattle.std.proofs.Common.{refl, sym, ◌∙◌, subst}
use Rattle.std.specs.Fmt.{decimal}
use Rattle.std.proofs.lemmas.Fmt.{decimal_injective}
use Rattle.text_lines.specs.Lines.{HasNone}
use Rattle.script_lang.proofs.Spaces.{has_byte, split_once, no_space}
use Rattle.script_lang.proofs.words.number_before.Goals as goal

pub returns-in_err-word-clause-only : goal.returns-in_err-word-clause-only
returns-in_err-word-clause-only c n rest below e =
    absurd (has_byte 32 (decimal n) rest (subst (HasNone 32) e c.in_err-word.ensures.none))

pub returns-in_err-number-clause-only : goal.returns-in_err-number-clause-only
returns-in_err-number-clause-only c n rest below e =
    let found = c.in_ok-word.ensures.found in
    let same = split_once 32 (decimal n) rest _ _ (no_space (decimal n) n (below, refl)) found.0 (sym e ∙ found.1) in
    absurd (c.in_err-number.ensures.none n (below, sym same.0))

pub returns-clause-only : goal.returns-clause-only
returns-clause-only c n rest below e =
    let found = c.in_ok-word.ensures.found in
    let same = split_once 32 (decimal n) rest _ _ (no_space (decimal n) n (below, refl)) found.0 (sym e ∙ found.1) in
    let number = c.in_ok-number.ensures.found in
    (sym (decimal_injective n c.in_ok-number.number below number.0 (same.0 ∙ number.1)), sym same.1)
