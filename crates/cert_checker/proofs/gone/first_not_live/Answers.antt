use Rattle.std.proofs.Common.{arith, refl, sym, ◌∙◌, inl, inr, below_more}
use Rattle.cert_checker.proofs.HeldLaws.{missing, present}
use Rattle.cert_checker.proofs.gone.first_not_live.Goals.{else-i-gt0-via-then-i-gt0+else-addr-gone, else-i-gt0-via-else-i-gt0}
use Rattle.cert_checker.proofs.gone.first_not_live.Goals as goal

pub loop-i-init : goal.loop-i-init
loop-i-init c = λ j below bad. omega arith

pub returns-then-addr-gone : goal.returns-then-addr-gone
returns-then-addr-gone c = (c.loop-i.i, c.loop-i-test.true, refl, inl (omega arith, c.if-addr-gone.true), c.loop-i.invariant)

pub returns-then-not-contains_key : goal.returns-then-not-contains_key
returns-then-not-contains_key c = (c.loop-i.i, c.loop-i-test.true, refl, inr (missing _ (sym c.contains_key.ensures ∙ c.if-not-contains_key.true)), c.loop-i.invariant)

pub loop-i-preserved : goal.loop-i-preserved
loop-i-preserved c = below_more _ c.loop-i.i c.loop-i.invariant (λ bad. elim bad [
  | inl low ↦ elim c.else-i-gt0.branch [
    | else-i-gt0-via-then-i-gt0+else-addr-gone w ↦ (let h = w.if-addr-gone in omega arith)
    | else-i-gt0-via-else-i-gt0 w ↦ (let h = w.if-i-gt0 in omega arith)
  ]
  | inr none ↦ present _ (sym c.contains_key.ensures ∙ c.if-not-contains_key.false) none
])

pub returns : goal.returns
returns c = λ k below bad. c.loop-i.invariant k (omega arith) bad
