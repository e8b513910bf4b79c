use Rattle.std.proofs.lemmas.Result.{err_from_is_err_and}
use Rattle.ledger_check.proofs.JudgeLaws.{judged_refused}
use Rattle.ledger_check.proofs.judging.judge.Goals as goal

pub returns-in_err-conclude-clause-judged : goal.returns-in_err-conclude-clause-judged
returns-in_err-conclude-clause-judged g c =
    let p = err_from_is_err_and c.from_residual-in_err-conclude.result c.from_residual-in_err-conclude.ensures.1 in
    rw (p.1, p.2) (judged_refused c.args.root.now _ _ _ c.in_err-conclude.field-0.0 c.in_ok-checker.ensures.read c.in_err-conclude.ensures.refused)
