use Rattle.std.proofs.Common.{◌≡◌, ◌+◌, ℕ, take, drop, sym, subst, ◌∙◌, arith}
use Rattle.cert_checker.specs.Chain.{from_last_first}
use Rattle.cert_checker.proofs.PickLaws.{from_none, starts_here, starts_before}
use Rattle.cert_checker.proofs.chains.last_first.Goals.{then-commit-eq0, else-commit-eq0}
use Rattle.cert_checker.proofs.chains.last_first.Goals as goal

pub loop-i-init : goal.loop-i-init
loop-i-init c = record { within = omega arith; from = from_none }

pub loop-i-preserved : goal.loop-i-preserved
loop-i-preserved c = elim c.if-commit-eq0.branch [
  | then-commit-eq0 w ↦ record {
    within = (let e = w.start-is in omega arith);
    from = subst (λ (s : ℕ). from_last_first (take (c.loop-i.i + 1) c.args.certs.now) ≡ drop s (take (c.loop-i.i + 1) c.args.certs.now)) (sym w.start-is)
        (starts_here c.args.certs.now c.loop-i.i c.index-certs-i.result c.loop-i-test.true c.index-certs-i.is (sym c.commit.ensures ∙ w.if-commit-eq0.true));
  }
  | else-commit-eq0 w ↦ record {
    within = (let e = w.start-is in let low = c.loop-i.invariant.within in omega arith);
    from = subst (λ (s : ℕ). from_last_first (take (c.loop-i.i + 1) c.args.certs.now) ≡ drop s (take (c.loop-i.i + 1) c.args.certs.now)) (sym w.start-is)
        (starts_before c.args.certs.now c.loop-i.i c.loop-i.start c.index-certs-i.result c.loop-i-test.true c.index-certs-i.is (λ zero. w.if-commit-eq0.false (c.commit.ensures ∙ zero)) c.loop-i.invariant.within c.loop-i.invariant.from);
  }
]
