use Rattle.std.proofs.Common.{ℕ, Option, List, sym, subst, ◌∙◌}
use Rattle.std.specs.Prelude.{Contains}
use Rattle.cert_checker.specs.declared.numbers.Last.{Last}
use Rattle.cert_checker.specs.Settles.{Stands}
use Rattle.cert_checker.proofs.GoneLaws.{tells_top}
use Rattle.cert_checker.proofs.gone.breaks_top.Goals as goal

pub returns : goal.returns
returns c = λ former stands.
    tells_top c.args.live.now c.in-Some.last former c.args.cert.now c.deref-2.result.now c.first_not_led.result (c.deref-2.ensures.value ∙ c.requires.of.gone)
    (subst (λ (o : Option Last). Stands c.args.live.now o former) c.in-Some.is stands) c.requires.was_live
    (subst (λ (xs : List ℕ). Contains xs c.in-Some.last.root) (c.deref.ensures.value ∙ sym c.deref-2.ensures.value) (c.is_among.ensures.0 c.if-not-is_among.false))
    c.first_not_led.ensures
