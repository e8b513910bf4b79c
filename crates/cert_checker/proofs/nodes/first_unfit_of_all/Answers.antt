use Rattle.std.proofs.Common.{sym, ◌∙◌, None, Option, ℕ, arith}
use Rattle.cert_checker.specs.declared.held.Placed.{Placed}
use Rattle.cert_checker.specs.Looks.{FirstUnfit}
use Rattle.cert_checker.proofs.HeldLaws.{answered_none, found_some, items_more, items_here, items_within}
use Rattle.cert_checker.proofs.nodes.first_unfit_of_all.Goals as goal

pub returns-then-is_some : goal.returns-then-is_some
returns-then-is_some c =
    found_some (FirstUnfit c.args.live.now c.args.parents.now c.args.addrs.now c.args.gone.now) c.args.added.now c.loop-i.i c.index-added-i.result c.first_unfit_of-answer.result (sym c.is_some.ensures ∙ c.if-is_some.true) (items_here c.args.added.now c.loop-i.i c.index-added-i.result c.loop-i-test.true c.index-added-i.is) (c.first_unfit_of-answer.ensures c.loop-i.i) c.loop-i.invariant

pub loop-i-preserved : goal.loop-i-preserved
loop-i-preserved c =
    items_more (λ (j : ℕ) (other : Placed). FirstUnfit c.args.live.now c.args.parents.now c.args.addrs.now c.args.gone.now j other None) c.args.added.now c.loop-i.i c.index-added-i.result c.loop-i-test.true c.index-added-i.is c.loop-i.invariant
    (answered_none (λ (o : Option ℕ). FirstUnfit c.args.live.now c.args.parents.now c.args.addrs.now c.args.gone.now c.loop-i.i c.index-added-i.result o) c.first_unfit_of-answer.result (sym c.is_some.ensures ∙ c.if-is_some.false) (c.first_unfit_of-answer.ensures c.loop-i.i))

pub returns : goal.returns
returns c = λ i item at. c.loop-i.invariant i item (items_within c.args.added.now i item c.loop-i.i at (omega arith)) at
