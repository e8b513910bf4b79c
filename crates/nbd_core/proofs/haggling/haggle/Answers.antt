use Rattle.std.proofs.Common.{inl, inr}
use Rattle.std.proofs.lemmas.Result.{err_from_is_err_and}
use Rattle.nbd_core.proofs.HaggleLaws.{ungreeted, talked}
use Rattle.nbd_core.proofs.haggling.haggle.Goals as goal

pub returns-in_err-put-clause-haggled : goal.returns-in_err-put-clause-haggled
returns-in_err-put-clause-haggled g c =
    let p = err_from_is_err_and c.from_residual.result c.from_residual.ensures.1 in
    rw (p.1, p.2, c.in_err-put.ensures.cause.0) (inl (ungreeted (g.I.Source.left c.args.input.now) c.args.intake.now (g.O.Sink.written c.args.output.now) (g.O.Sink.written c.put.new.output) c.requires c.in_err-put.ensures.part))

pub returns-clause-haggled : goal.returns-clause-haggled
returns-clause-haggled g c =
    inr (talked c.args.size (g.I.Source.left c.args.input.now) (g.I.Source.left c.take_flags.new.input) (g.I.Source.left c.answer_options.new.input) c.args.intake.now c.take_flags.new.intake c.answer_options.new.intake
    (g.O.Sink.written c.args.output.now) (g.O.Sink.written c.put.new.output) (g.O.Sink.written c.answer_options.new.output) c.in_ok-flags.flags c.answer_options.result c.in_ok-flags.ensures.came c.answer_options.ensures.talk c.in_ok-put.ensures.put)
