use Rattle.std.proofs.Common.{ap, inl, inr, take, ◌∙◌}
use Rattle.std.proofs.lemmas.Result.{err_from_is_err_and}
use Rattle.nbd_core.proofs.HaggleLaws.{flags_stopped}
use Rattle.nbd_core.proofs.haggling.take_flags.Goals as goal

pub returns-in_err-need-clause-came : goal.returns-in_err-need-clause-came
returns-in_err-need-clause-came g c =
    let p = err_from_is_err_and c.from_residual.result c.from_residual.ensures.1 in
    rw (p.1, p.2) (flags_stopped (g.I.Source.left c.args.input.now) (g.I.Source.left c.need.new.input) c.args.intake.now c.need.new.self c.in_err-need.field-0.0
    c.in_err-need.ensures.came c.in_err-need.ensures.short c.in_err-need.ensures.input)

pub returns-then-not-branch-clause-came : goal.returns-then-not-branch-clause-came
returns-then-not-branch-clause-came g c = record {
  came = c.need.new.self.ahead;
  takes = c.in_ok-need.ensures.came;
  ends = inl (c.in_ok-need.ensures.end c.if-not-branch.true);
}

pub returns-in_default-clause-came : goal.returns-in_default-clause-came
returns-in_default-clause-came g c = record {
  came = c.need.new.self.ahead;
  takes = c.in_ok-need.ensures.came;
  ends =
      inr (
        c.in_ok-need.ensures.there c.if-not-branch.false,
        (λ flags more is. c.in_default.ensures.none flags (ap (take 4) (c.ahead.ensures ∙ is))),
      );
}
