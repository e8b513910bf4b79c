use Rattle.std.proofs.Common.{refl}
use Rattle.std.proofs.lemmas.Result.{err_from_is_err_and}
use Rattle.cert_checker.proofs.PickLaws.{refused_at, went_all}
use Rattle.cert_checker.proofs.stepping.run_all.Goals as goal

pub returns-in_err-step : goal.returns-in_err-step
returns-in_err-step c =
    let p = err_from_is_err_and c.from_residual.result c.from_residual.ensures.1 in
    let inv = c.loop-i.invariant in
    rw (p.1, p.2) (refused_at (Unit {0}) c.loop-i.run inv.0 _ _ c.in_err-step.field-0.0 inv.1 inv.2 (c.in_err-step.ensures.some refl) (c.in_err-step.ensures.steps inv.0 inv.1))

pub returns : goal.returns
returns c = went_all c.loop-i.run c.loop-i.invariant.0 _ c.args.certs.now c.loop-i.i c.args.number c.loop-i-test.false c.loop-i.invariant.1 c.loop-i.invariant.2
