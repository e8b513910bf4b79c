use Rattle.std.proofs.Common.{[], ◌∷◌, ◌++◌, Option, Ok, arith, subst, refl, sym, ◌∙◌}
use Rattle.std.specs.Prelude.{IsSome}
use Rattle.std.proofs.lemmas.Result.{err_from_is_err_and}
use Rattle.nbd_lang.specs.declared.options.OptionHead.{OptionHead}
use Rattle.nbd_core.specs.Haggling.{OptionCame}
use Rattle.nbd_core.proofs.HaggleLaws.{heard_nothing, heard_more, others_more, less_to_come, talk_stopped, talk_over, talk_unheard, talk_agreed, talk_aborted}
use Rattle.nbd_core.proofs.haggling.answer_options.Goals as goal

pub options-init : goal.options-init
options-init g c = record {
  options = [];
  heard = heard_nothing c.args.size c.args.flags.no_zeroes (g.I.Source.left c.args.input.now) c.args.intake.now (g.O.Sink.written c.args.output.now);
  others = λ k d below. absurd (omega (arith, below));
  open_yet = omega arith;
  input = omega arith;
  output = omega arith;
}

pub returns-in_err-option-clause-talk : goal.returns-in_err-option-clause-talk
returns-in_err-option-clause-talk g c =
    let p = err_from_is_err_and c.from_residual.result c.from_residual.ensures.1 in
    let so_far = c.options.invariant in
    rw (p.1, p.2) (talk_stopped c.args.size c.args.flags.no_zeroes (g.I.Source.left c.args.input.now) (g.I.Source.left c.options.input) (g.I.Source.left c.next_option.new.input) c.args.intake.now c.options.intake c.next_option.new.intake (g.O.Sink.written c.args.output.now) (g.O.Sink.written c.options.output) so_far.options c.in_err-option.field-0.0 so_far.heard so_far.others c.in_err-option.ensures.came)

pub returns-in_err-put_answer-clause-talk : goal.returns-in_err-put_answer-clause-talk
returns-in_err-put_answer-clause-talk g c =
    let p = err_from_is_err_and c.from_residual-in_err-put_answer.result c.from_residual-in_err-put_answer.ensures.1 in
    let so_far = c.options.invariant in
    let next =
    subst (λ (it : Option OptionHead). OptionCame (g.I.Source.left c.options.input) (g.I.Source.left c.next_option.new.input) c.options.intake c.next_option.new.intake (Ok it)) c.in-Some.is c.in_ok-option.ensures.came in
    rw (p.1, p.2, c.in_err-put_answer.ensures.cause.0)
    (talk_unheard c.args.size c.args.flags.no_zeroes (g.I.Source.left c.args.input.now) (g.I.Source.left c.options.input) (g.I.Source.left c.next_option.new.input) c.args.intake.now c.options.intake c.next_option.new.intake (g.O.Sink.written c.args.output.now) (g.O.Sink.written c.options.output) (g.O.Sink.written c.put_answer.new.output) so_far.options c.in-Some.option so_far.heard so_far.others next c.in_err-put_answer.ensures.part)

pub returns-in-Export-clause-talk : goal.returns-in-Export-clause-talk
returns-in-Export-clause-talk g c =
    let so_far = c.options.invariant in
    let next =
    subst (λ (it : Option OptionHead). OptionCame (g.I.Source.left c.options.input) (g.I.Source.left c.next_option.new.input) c.options.intake c.next_option.new.intake (Ok it)) c.in-Some.is c.in_ok-option.ensures.came in
    talk_agreed c.args.size c.args.flags.no_zeroes (g.I.Source.left c.args.input.now) (g.I.Source.left c.options.input) (g.I.Source.left c.next_option.new.input) c.args.intake.now c.options.intake c.next_option.new.intake (g.O.Sink.written c.args.output.now) (g.O.Sink.written c.options.output) (g.O.Sink.written c.put_answer.new.output) so_far.options c.in-Some.option c.in-Export.is so_far.heard so_far.others next c.in_ok-put_answer.ensures.put

pub returns-in-Abort-clause-talk : goal.returns-in-Abort-clause-talk
returns-in-Abort-clause-talk g c =
    let so_far = c.options.invariant in
    let next =
    subst (λ (it : Option OptionHead). OptionCame (g.I.Source.left c.options.input) (g.I.Source.left c.next_option.new.input) c.options.intake c.next_option.new.intake (Ok it)) c.in-Some.is c.in_ok-option.ensures.came in
    talk_aborted c.args.size c.args.flags.no_zeroes (g.I.Source.left c.args.input.now) (g.I.Source.left c.options.input) (g.I.Source.left c.next_option.new.input) c.args.intake.now c.options.intake c.next_option.new.intake (g.O.Sink.written c.args.output.now) (g.O.Sink.written c.options.output) (g.O.Sink.written c.put_answer.new.output) so_far.options c.in-Some.option c.in-Abort.is so_far.heard so_far.others next c.in_ok-put_answer.ensures.put

pub options-smaller : goal.options-smaller
options-smaller g c =
    let next =
    subst (λ (it : Option OptionHead). OptionCame (g.I.Source.left c.options.input) (g.I.Source.left c.next_option.new.input) c.options.intake c.next_option.new.intake (Ok it)) c.in-Some.is c.in_ok-option.ensures.came in
    less_to_come (g.I.Source.left c.options.input) (g.I.Source.left c.next_option.new.input) c.options.intake c.next_option.new.intake c.in-Some.option next

pub options-preserved : goal.options-preserved
options-preserved g c =
    let so_far = c.options.invariant in
    let next =
    subst (λ (it : Option OptionHead). OptionCame (g.I.Source.left c.options.input) (g.I.Source.left c.next_option.new.input) c.options.intake c.next_option.new.intake (Ok it)) c.in-Some.is c.in_ok-option.ensures.came in
    let more = heard_more c.args.size c.args.flags.no_zeroes (g.I.Source.left c.args.input.now) (g.I.Source.left c.options.input) (g.I.Source.left c.next_option.new.input) c.args.intake.now c.options.intake c.next_option.new.intake (g.O.Sink.written c.args.output.now) (g.O.Sink.written c.options.output) (g.O.Sink.written c.put_answer.new.output) so_far.options c.in-Some.option so_far.heard next c.in_ok-put_answer.ensures.put in
    record {
      options = so_far.options ++ more.0 ∷ [];
      heard = more.2;
      others = others_more so_far.options more.0 c.in-Some.option c.in-Other.field-0 so_far.others more.1 c.in-Other.is;
      open_yet = c.in_ok-option.ensures.ended.open_yet (subst (λ (it : Option OptionHead). IsSome it) (sym c.in-Some.is) refl) ∙ so_far.open_yet;
      input = omega (arith, so_far.input, c.in_ok-option.ensures.cause);
      output = omega (arith, so_far.output, c.in_ok-put_answer.ensures.cause);
    }

pub returns-clause-talk : goal.returns-clause-talk
returns-clause-talk g c =
    let so_far = c.options.invariant in
    let next =
    subst (λ (it : Option OptionHead). OptionCame (g.I.Source.left c.options.input) (g.I.Source.left c.next_option.new.input) c.options.intake c.next_option.new.intake (Ok it)) c.in_default.is c.in_ok-option.ensures.came in
    talk_over c.args.size c.args.flags.no_zeroes (g.I.Source.left c.args.input.now) (g.I.Source.left c.options.input) (g.I.Source.left c.next_option.new.input) c.args.intake.now c.options.intake c.next_option.new.intake (g.O.Sink.written c.args.output.now) (g.O.Sink.written c.options.output) so_far.options so_far.heard so_far.others next
