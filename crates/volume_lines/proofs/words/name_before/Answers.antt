use Rattle.std.proofs.Common.{ℕ, List, ◌∷◌, ◌++◌, length, sym, ap, ◌∙◌, subst, arith, length-append}
use Rattle.text_lines.specs.Lines.{HasNone}
use Rattle.script_lang.proofs.Spaces.{has_byte, split_once}
use Rattle.volume_table.specs.Names.{IsName}
use Rattle.volume_lines.proofs.NameLaws.{name_has_no_space, behind_word}
use Rattle.volume_lines.proofs.words.name_before.Goals as goal

pub returns-in_err-word-clause-only : goal.returns-in_err-word-clause-only
returns-in_err-word-clause-only c name rest is e = absurd (has_byte 32 name rest (subst (HasNone 32) e c.in_err-word.ensures.none))

pub returns-in_err-name-clause-only : goal.returns-in_err-name-clause-only
returns-in_err-name-clause-only c name rest is e =
    let found = c.in_ok-word.ensures.found in
    let same = split_once 32 name rest _ _ (name_has_no_space name is) found.0 (sym e ∙ found.1) in
    absurd (c.in_err-name.ensures.none (subst IsName same.0 is))

pub returns-clause-only : goal.returns-clause-only
returns-clause-only c name rest is e =
    let found = c.in_ok-word.ensures.found in
    let same = split_once 32 name rest _ _ (name_has_no_space name is) found.0 (sym e ∙ found.1) in
    (c.in_ok-name.ensures.found.0 ∙ sym same.0, behind_word _ _ _ found.1 ∙ sym same.1)

pub returns-clause-found : goal.returns-clause-found
returns-clause-found c =
    let word = c.in_ok-word.ensures.found in
    let name = c.in_ok-name.ensures.found in
    let behind = behind_word _ _ _ word.1 in (
      subst IsName (sym name.0) name.1,
      word.1 ∙ ap (λ (front : List ℕ). front ++ 32 ∷ c.in_ok-word._rest.now) (sym name.0) ∙ ap (λ (rest : List ℕ). c.in_ok-name.name ++ 32 ∷ rest) (sym behind),
      omega (arith, ap length word.1, length-append c.in_ok-word.word.now (32 ∷ c.in_ok-word._rest.now)),
    )
