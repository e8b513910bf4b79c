use Rattle.std.proofs.Common.{arith, refl, below_more, sym, ◌∙◌}
use Rattle.std.proofs.lemmas.Grind.{common_steps}
use Rattle.std.proofs.lemmas.Bool.{both_ways}
use Rattle.cert_checker.proofs.LookLaws.{was_in, was_out}
use Rattle.cert_checker.proofs.nodes.take_all.Goals as goal

pub loop-i-init : goal.loop-i-init
loop-i-init c = record {
  none = λ j below bad. omega arith;
  taken = λ a. grind (arith, common_steps);
}

pub returns-then-not-branch-clause-first : goal.returns-then-not-branch-clause-first
returns-then-not-branch-clause-first c = (c.loop-i.i, c.loop-i-test.true, refl, sym (c.loop-i.invariant.taken _) ∙ was_in _ _ c.in_ok-insert.ensures.added c.if-not-branch.true, c.loop-i.invariant.none)

pub loop-i-preserved : goal.loop-i-preserved
loop-i-preserved c = record {
  none = below_more _ c.loop-i.i c.loop-i.invariant.none (λ bad. both_ways _ (was_out _ _ c.in_ok-insert.ensures.added c.if-not-branch.false) (c.loop-i.invariant.taken _ ∙ bad));
  taken = λ q. grind (arith, common_steps, c.loop-i.invariant.taken q);
}

pub returns-clause-first : goal.returns-clause-first
returns-clause-first c = λ k below bad. c.loop-i.invariant.none k (omega arith) bad

pub returns-clause-taken : goal.returns-clause-taken
returns-clause-taken c = λ q. grind (arith, common_steps, c.loop-i.invariant.taken q)
