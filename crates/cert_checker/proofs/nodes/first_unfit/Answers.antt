use Rattle.std.proofs.Common.{arith, refl, below_more}
use Rattle.cert_checker.proofs.LookLaws.{fails}
use Rattle.cert_checker.proofs.nodes.first_unfit.Goals as goal

pub loop-i-init : goal.loop-i-init
loop-i-init c = λ j below bad. omega arith

pub returns-then-not-is_fit : goal.returns-then-not-is_fit
returns-then-not-is_fit c = (c.loop-i.i, c.loop-i-test.true, refl, fails c.is_fit.result c.is_fit.ensures c.if-not-is_fit.true, c.loop-i.invariant)

pub loop-i-preserved : goal.loop-i-preserved
loop-i-preserved c = below_more _ c.loop-i.i c.loop-i.invariant (λ bad. bad (c.is_fit.ensures.0 c.if-not-is_fit.false))

pub returns : goal.returns
returns c = λ k below bad. c.loop-i.invariant k (omega arith) bad
