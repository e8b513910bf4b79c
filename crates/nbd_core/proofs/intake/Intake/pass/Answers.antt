use Rattle.std.proofs.Common.{◌≡◌, ◌++◌, ◌≤◌, ◌∙◌, ap, sym, arith, take, subst, length, length-append, ℕ, List}
use Rattle.nbd_core.specs.Room.{Came, IsShorter}
use Rattle.nbd_core.proofs.CameLaws.{pass_more, gone_more, length-gone}
use Rattle.nbd_core.proofs.intake.Intake.pass.Goals as goal

pub returns-in-Ok-false-clause-passed : goal.returns-in-Ok-false-clause-passed
returns-in-Ok-false-clause-passed g c =
    let so_far = c.loop-left.invariant in
    let ahead : List ℕ = c.need.new.self.ahead in
    let none = (c.in-Ok-false.ensures.end c.in-Ok-false.field-0-test).1 in
    record {
      gone = so_far.gone;
      came =
          pass_more (g.I.Source.left c.args.input.now) (g.I.Source.left c.loop-left.input) (g.I.Source.left c.need.new.input) c.args.self.now c.loop-left.self c.need.new.self.left c.args.count so_far.gone ahead so_far.came
          (omega (arith, so_far.all, c.loop-left-test.true)) c.in-Ok-false.ensures.came;
      whole = λ is_true. cc;
      short = λ is_false. omega (arith, so_far.all, c.loop-left-test.true, none, length-append so_far.gone ahead);
      stopped = tt;
    }

pub returns-in-Err-clause-passed : goal.returns-in-Err-clause-passed
returns-in-Err-clause-passed g c =
    let so_far = c.loop-left.invariant in
    let ahead : List ℕ = c.need.new.self.ahead in
    record {
      gone = so_far.gone;
      came =
          pass_more (g.I.Source.left c.args.input.now) (g.I.Source.left c.loop-left.input) (g.I.Source.left c.need.new.input) c.args.self.now c.loop-left.self c.need.new.self.left c.args.count so_far.gone ahead so_far.came
          (omega (arith, so_far.all, c.loop-left-test.true)) c.in-Err.ensures.came;
      whole = tt;
      short = tt;
      stopped = omega (arith, so_far.all, c.loop-left-test.true, c.in-Err.ensures.short, length-append so_far.gone ahead);
    }

pub loop-left-preserved : goal.loop-left-preserved
loop-left-preserved g c =
    let so_far = c.loop-left.invariant in
    let ahead : List ℕ = c.need.new.self.ahead in
    let here : ℕ = c.min-here.result in
    let within : here ≤ length ahead = omega (arith, c.min-here.ensures, c.count.ensures) in
    let came =
    pass_more (g.I.Source.left c.args.input.now) (g.I.Source.left c.loop-left.input) (g.I.Source.left c.need.new.input) c.args.self.now c.loop-left.self c.need.new.self.left c.args.count so_far.gone ahead so_far.came
    (omega (arith, so_far.all, c.loop-left-test.true)) c.in-Ok-true.ensures.came in
    let same : so_far.gone ++ ahead ≡ (so_far.gone ++ take here ahead) ++ c.skip.new.self.ahead =
    gone_more so_far.gone ahead here ∙ ap (λ (l : List ℕ). (so_far.gone ++ take here ahead) ++ l) (sym c.skip.ensures.ahead) in
    record {
      gone = so_far.gone ++ take here ahead;
      came =
          subst (λ (left_to_take : ℕ). Came (g.I.Source.left c.args.input.now) (g.I.Source.left c.need.new.input) c.args.self.now left_to_take (IsShorter c.args.count) ((so_far.gone ++ take here ahead) ++ c.skip.new.self.ahead))
          (sym c.skip.ensures.left)
          (subst (Came (g.I.Source.left c.args.input.now) (g.I.Source.left c.need.new.input) c.args.self.now c.need.new.self.left (IsShorter c.args.count)) same came);
      all = omega (arith, so_far.all, length-gone so_far.gone ahead here within, c.min-here.ensures);
      open_yet = c.in-Ok-true.ensures.ended.open_yet c.in-Ok-true.field-0-test ∙ so_far.open_yet;
      quiet = omega (arith, so_far.quiet, c.in-Ok-true.ensures.cause);
    }
