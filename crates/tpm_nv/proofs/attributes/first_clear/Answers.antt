use Rattle.std.proofs.Common.{suc, get_or, arith, take, drop, take_all, sym, ◌∙◌}
use Rattle.std.proofs.lemmas.List.{set-get_or, set_split}
use Rattle.std.proofs.lemmas.List.Elements.{All-more, All-same}
use Rattle.tpm_nv.specs.Attributes.{IsSet}
use Rattle.tpm_nv.specs.declared.attributes.Attribute.TheVariants.{AuthWrite}
use Rattle.tpm_nv.proofs.attributes.first_clear.Goals as goal

pub loop-attribute-preserved : goal.loop-attribute-preserved
loop-attribute-preserved c = All-more (IsSet c.args.attributes) c.args.list.now c.loop-attribute.attribute-index _ c.loop-attribute-test.true c.loop-attribute.invariant (c.is_set.ensures.set c.if-not-is_set.false)

pub returns-clause-none : goal.returns-clause-none
returns-clause-none c = All-same (IsSet c.args.attributes) c.args.list.now (take c.loop-attribute.attribute-index c.args.list.now) (sym (take_all c.loop-attribute.attribute-index c.args.list.now (omega arith))) c.loop-attribute.invariant

pub returns-then-not-is_set-clause-first : goal.returns-then-not-is_set-clause-first
returns-then-not-is_set-clause-first c =
    let list = c.args.list.now in
    let i = c.loop-attribute.attribute-index in
    (take i list, drop (suc i) list, sym (set-get_or list i AuthWrite) ∙ set_split list i (get_or list i AuthWrite) c.loop-attribute-test.true, c.loop-attribute.invariant)
