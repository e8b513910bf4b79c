use Rattle.std.proofs.Common.{sym, ◌∙◌}
use Rattle.workload.proofs.TallyLaws.{counting_none, counting_refused, counting_accepted, counted_refused, counted_all}
use Rattle.workload.proofs.summaries.Tally.of.Goals as goal

pub loop-line-init : goal.loop-line-init
loop-line-init c = counting_none c.args.told.now

pub loop-line-preserved-then-is_refusal_text : goal.loop-line-preserved-then-is_refusal_text
loop-line-preserved-then-is_refusal_text c =
    counting_refused c.args.told.now c.loop-line.rest.now c.in-Some.line.now c.in-Some.behind.now _ _ c.in-Some.ensures.found.0 c.in-Some.ensures.found.1
    (λ reply e. sym c.if-is_refusal_text.true ∙ c.is_refusal_text.ensures.answers reply e) c.loop-line.invariant

pub loop-line-preserved : goal.loop-line-preserved
loop-line-preserved c =
    counting_accepted c.args.told.now c.loop-line.rest.now c.in-Some.line.now c.in-Some.behind.now _ _ c.in-Some.ensures.found.0 c.in-Some.ensures.found.1
    (λ reply e. sym c.if-is_refusal_text.false ∙ c.is_refusal_text.ensures.answers reply e) c.loop-line.invariant

pub returns-clause-refused : goal.returns-clause-refused
returns-clause-refused c = counted_refused c.args.told.now c.loop-line.rest.now _ _ c.in_default.ensures.none c.loop-line.invariant

pub returns-clause-all : goal.returns-clause-all
returns-clause-all c = counted_all c.args.told.now c.loop-line.rest.now _ _ c.in_default.ensures.none c.loop-line.invariant
