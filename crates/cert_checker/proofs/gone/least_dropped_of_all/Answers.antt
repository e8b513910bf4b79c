use Rattle.std.proofs.Common.{◌≡◌, ℕ, length, subst, arith}
use Rattle.cert_checker.specs.Looks.{LeastOf, IsUntakenBefore}
use Rattle.cert_checker.proofs.GoneLaws.{dropped_next}
use Rattle.cert_checker.proofs.gone.least_dropped_of_all.Goals as goal

pub loop-i-init : goal.loop-i-init
loop-i-init c = λ child one. let low = one.inside in absurd (omega arith)

pub loop-i-preserved : goal.loop-i-preserved
loop-i-preserved c = dropped_next c.args.live.now c.args.gone.now c.args.taken.now c.loop-i.i c.loop-i.least c.least_dropped_at-least.result c.loop-i.invariant c.least_dropped_at-least.ensures

pub returns : goal.returns
returns c =
    let all : c.loop-i.i ≡ length c.args.gone.now = omega arith in
    subst (λ (n : ℕ). LeastOf (IsUntakenBefore c.args.live.now c.args.gone.now c.args.taken.now n) c.loop-i.least) all c.loop-i.invariant
