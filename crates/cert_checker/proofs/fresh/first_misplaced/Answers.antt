use Rattle.std.proofs.Common.{arith, refl, below_more}
use Rattle.cert_checker.proofs.LookLaws.{fails}
use Rattle.cert_checker.proofs.fresh.first_misplaced.Goals as goal

pub loop-i-init : goal.loop-i-init
loop-i-init c = λ j below bad. omega arith

pub returns-then-not-is_in_place : goal.returns-then-not-is_in_place
returns-then-not-is_in_place c = (c.loop-i.i, c.loop-i-test.true, refl, fails c.is_in_place.result c.is_in_place.ensures c.if-not-is_in_place.true, c.loop-i.invariant)

pub loop-i-preserved : goal.loop-i-preserved
loop-i-preserved c = below_more _ c.loop-i.i c.loop-i.invariant (λ bad. bad (c.is_in_place.ensures.0 c.if-not-is_in_place.false))

pub returns : goal.returns
returns c = λ k below bad. c.loop-i.invariant k (omega arith) bad
