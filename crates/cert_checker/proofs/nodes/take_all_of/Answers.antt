use Rattle.std.proofs.Common.{ℕ, List, Option, None, sym, subst, ◌∙◌, arith, take_all}
use Rattle.cert_checker.specs.declared.held.Placed.{Placed}
use Rattle.cert_checker.specs.Held.{traced_all}
use Rattle.cert_checker.specs.Looks.{FirstAgain, HasTaken}
use Rattle.cert_checker.proofs.HeldLaws.{answered_none, found_some, items_more, items_here, items_within}
use Rattle.cert_checker.proofs.TakingLaws.{again_from, takes_more}
use Rattle.cert_checker.proofs.nodes.take_all_of.Goals as goal

pub loop-i-init : goal.loop-i-init
loop-i-init c = record {
  none = λ j other low. absurd (omega arith);
  taken = c.requires;
}

pub returns-then-is_some-clause-first : goal.returns-then-is_some-clause-first
returns-then-is_some-clause-first c =
    found_some (FirstAgain c.args.added.now) c.args.added.now c.loop-i.i c.index-added-i.result c.in_ok-again.again (sym c.is_some.ensures ∙ c.if-is_some.true)
    (items_here c.args.added.now c.loop-i.i c.index-added-i.result c.loop-i-test.true c.index-added-i.is)
    (again_from c.args.added.now c.loop-i.i c.index-added-i.result c.loop-i.taken c.in_ok-again.again c.loop-i.invariant.taken c.in_ok-again.ensures.first)
    c.loop-i.invariant.none

pub loop-i-preserved : goal.loop-i-preserved
loop-i-preserved c = record {
  none = items_more (λ (j : ℕ) (other : Placed). FirstAgain c.args.added.now j other None) c.args.added.now c.loop-i.i c.index-added-i.result c.loop-i-test.true c.index-added-i.is c.loop-i.invariant.none
      (answered_none (λ (o : Option ℕ). FirstAgain c.args.added.now c.loop-i.i c.index-added-i.result o) c.in_ok-again.again (sym c.is_some.ensures ∙ c.if-is_some.false)
      (again_from c.args.added.now c.loop-i.i c.index-added-i.result c.loop-i.taken c.in_ok-again.again c.loop-i.invariant.taken c.in_ok-again.ensures.first));
  taken = takes_more c.args.added.now c.loop-i.i c.index-added-i.result c.loop-i.taken c.take_of.new.taken c.in_ok-again.again c.loop-i-test.true c.index-added-i.is c.loop-i.invariant.taken
      (sym c.is_some.ensures ∙ c.if-is_some.false) c.in_ok-again.ensures.taken;
}

pub returns-clause-first : goal.returns-clause-first
returns-clause-first c = λ i item at. c.loop-i.invariant.none i item (items_within c.args.added.now i item c.loop-i.i at (omega arith)) at

pub returns-clause-taken : goal.returns-clause-taken
returns-clause-taken c = subst (λ (xs : List Placed). HasTaken (traced_all xs) c.loop-i.taken) (take_all c.loop-i.i c.args.added.now (omega arith)) c.loop-i.invariant.taken
