use Rattle.std.proofs.Common.{◌≡◌, Ok, sym, ◌∙◌}
use Rattle.std.proofs.lemmas.Slice.Eq.{bytes_eq-Decides}
use Rattle.script_lang.proofs.Numbers.{number_is_utf8, number_is_read}
use Rattle.script_lang.proofs.Outcomes.{refused, accepted, only_value, succeeded}
use Rattle.script_lang.proofs.words.parse_number.Goals as goal

pub returns-in_err-ok-clause-none : goal.returns-in_err-ok-clause-none
returns-in_err-ok-clause-none c =
    rw c.from_residual.ensures (λ n h. refused _ _ _ c.from_utf8.result (sym c.ok.ensures.value ∙ c.in_err-ok.was) c.from_utf8.ensures.cases (number_is_utf8 _ n h))

pub returns-in_err-number-clause-none : goal.returns-in_err-number-clause-none
returns-in_err-number-clause-none c =
    rw c.from_residual-in_err-number.ensures (λ n h.
    let same = accepted _ _ c.from_utf8.result c.in_ok-ok.field-0 (sym c.ok.ensures.value ∙ c.in_ok-ok.was) c.from_utf8.ensures.cases in
    let read = number_is_read c.in_ok-ok.field-0.now c.parse.result n c.parse.ensures.value.0 (h.0, same.0 ∙ h.1) in
    only_value c.parse.result n read (sym c.ok-2.ensures.value ∙ c.in_err-number.was))

pub returns-else-eq-clause-none : goal.returns-else-eq-clause-none
returns-else-eq-clause-none c n h =
    let same = accepted _ _ c.from_utf8.result c.in_ok-ok.field-0 (sym c.ok.ensures.value ∙ c.in_ok-ok.was) c.from_utf8.ensures.cases in
    let read = number_is_read c.in_ok-ok.field-0.now c.parse.result n c.parse.ensures.value.0 (h.0, same.0 ∙ h.1) in
    let value : c.parse.result ≡ Ok c.in_ok-number.number = succeeded c.parse.result _ (sym c.ok-2.ensures.value ∙ c.in_ok-number.was) in
    let equal : c.in_ok-number.number ≡ n = cc in
    let printed : c.as_bytes.result.now ≡ c.args.text.now = c.as_bytes.ensures.value ∙ c.format.ensures.text ∙ rw equal (sym h.1) in
    let passes = (bytes_eq-Decides c.as_bytes.result.now c.args.text.now).1 printed in
    cc (passes, c.eq.ensures, c.if-eq.false)
