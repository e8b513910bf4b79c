use Rattle.std.proofs.lemmas.Result.{err_from_is_err_and}
use Rattle.cert_checker.proofs.RunLaws.{ends_at, some_ended, verdict_is}
use Rattle.cert_checker.proofs.run.Run.finish.Goals as goal

pub returns-in_err-listed : goal.returns-in_err-listed
returns-in_err-listed c = λ chain is.
    let p = err_from_is_err_and c.from_residual.result c.from_residual.ensures.1 in
    rw (p.1, p.2) (some_ended chain c.args.root.now (ends_at c.args.self chain c.args.root.now is (c.ends_at.ensures.0 c.if-not-ends_at.false)))

pub returns : goal.returns
returns c = λ chain is.
    let accepted = ends_at c.args.self chain c.args.root.now is (c.ends_at.ensures.0 c.if-not-ends_at.false) in
    (accepted, verdict_is c.args.self chain c.args.root.now c.in_ok-listed.field-0 is accepted c.in_ok-listed.ensures.ascends c.in_ok-listed.ensures.has)
