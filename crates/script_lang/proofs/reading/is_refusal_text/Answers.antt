use Rattle.std.proofs.Common.{◌≡◌, true, IsTrue, refl, sym, ◌∙◌}
use Rattle.script_lang.specs.Replies.{Reply, Bad, Unmounted, AlreadyMounted, NotEmpty, NoDevice, AlreadyUpgraded, Range, Full, is_refusal, text_of}
use Rattle.script_lang.proofs.reading.is_refusal_text.Goals.{then-is_text, else-is_text, then-is_text-2, else-is_text-2, then-is_text-3, else-is_text-3, then-is_text-4, else-is_text-4, then-is_text-5, else-is_text-5, then-is_text-6, else-is_text-6}
use Rattle.script_lang.proofs.reading.is_refusal_text.Goals as goal

pub returns-then-is_text-7-clause-only : goal.returns-then-is_text-7-clause-only
unfolding text_of
returns-then-is_text-7-clause-only c = λ six.
    let Has : Type 0 = (reply : Reply) × (c.args.text.now ≡ text_of reply) × (is_refusal reply ≡ true) in
    let one : IsTrue c.if-is_text.value → Has = λ t. elim c.if-is_text.branch [
      | then-is_text w ↦ (Bad, c.is_text.ensures.0 w.if-is_text.true, refl)
      | else-is_text w ↦ (Unmounted, w.is_text-else-is_text.ensures.0 (sym w.value-is ∙ t), refl)
    ] in
    let two : IsTrue c.if-is_text-2.value → Has = λ t. elim c.if-is_text-2.branch [
      | then-is_text-2 w ↦ one w.if-is_text-2.true
      | else-is_text-2 w ↦ (AlreadyMounted, w.is_text-else-is_text-2.ensures.0 (sym w.value-is ∙ t), refl)
    ] in
    let three : IsTrue c.if-is_text-3.value → Has = λ t. elim c.if-is_text-3.branch [
      | then-is_text-3 w ↦ two w.if-is_text-3.true
      | else-is_text-3 w ↦ (NotEmpty, w.is_text-else-is_text-3.ensures.0 (sym w.value-is ∙ t), refl)
    ] in
    let four : IsTrue c.if-is_text-4.value → Has = λ t. elim c.if-is_text-4.branch [
      | then-is_text-4 w ↦ three w.if-is_text-4.true
      | else-is_text-4 w ↦ (NoDevice, w.is_text-else-is_text-4.ensures.0 (sym w.value-is ∙ t), refl)
    ] in
    let five : IsTrue c.if-is_text-5.value → Has = λ t. elim c.if-is_text-5.branch [
      | then-is_text-5 w ↦ four w.if-is_text-5.true
      | else-is_text-5 w ↦ (AlreadyUpgraded, w.is_text-else-is_text-5.ensures.0 (sym w.value-is ∙ t), refl)
    ] in
    elim c.if-is_text-6.branch [
      | then-is_text-6 w ↦ five w.if-is_text-6.true
      | else-is_text-6 w ↦ (Range, w.is_text-else-is_text-6.ensures.0 (sym w.value-is ∙ six), refl)
    ]

pub returns-else-is_text-7-clause-only : goal.returns-else-is_text-7-clause-only
unfolding text_of
returns-else-is_text-7-clause-only c = λ full. (Full, c.is_text-else-is_text-7.ensures.0 full, refl)
