use Rattle.std.proofs.Common.{◌≡◌, ◌≢◌, Ok, Err, true, false, refl, arith, ap, inl, inr, take, ◌++◌, ◌∙◌, sym, length, length-append}
use Rattle.std.specs.Prelude.{codes}
use Rattle.nbd_lang.specs.Options.{option_head}
use Rattle.std.proofs.lemmas.Result.{err_from_is_err_and}
use Rattle.nbd_core.proofs.HaggleLaws.{short_awaits_option, shorter_awaits_option, head_awaits_option, magic_stays, option_stopped, magic_came, head_came, option_taken, option_whole}
use Rattle.nbd_core.proofs.haggling.next_option.Goals as goal

pub returns-in_err-need-clause-came : goal.returns-in_err-need-clause-came
returns-in_err-need-clause-came g c =
    let p = err_from_is_err_and c.from_residual.result c.from_residual.ensures.1 in
    rw (p.1, p.2) (option_stopped (g.I.Source.left c.args.input.now) (g.I.Source.left c.need.new.input) c.args.intake.now c.need.new.self c.need.new.self.ahead c.in_err-need.field-0.0
    (magic_came (g.I.Source.left c.args.input.now) (g.I.Source.left c.need.new.input) c.args.intake.now c.need.new.self c.in_err-need.ensures.came)
    (shorter_awaits_option c.need.new.self.ahead c.in_err-need.ensures.short) c.in_err-need.ensures.input)

pub returns-then-count-gt0-clause-came : goal.returns-then-count-gt0-clause-came
returns-then-count-gt0-clause-came g c =
    let end = c.in_ok-need.ensures.end c.if-not-branch.true in
    record {
      came = c.need.new.self.ahead;
      takes = magic_came (g.I.Source.left c.args.input.now) (g.I.Source.left c.need.new.input) c.args.intake.now c.need.new.self c.in_ok-need.ensures.came;
      ends = inl (end.0, omega (arith, c.if-count-gt0.true, c.count.ensures), shorter_awaits_option c.need.new.self.ahead end.1);
    }

pub returns-then-not-is_option-clause-came : goal.returns-then-not-is_option-clause-came
returns-then-not-is_option-clause-came g c =
    let there = c.in_ok-need.ensures.there c.if-not-branch.false in
    let apart : take 8 c.need.new.self.ahead ≢ codes "IHAVEOPT" = λ is. (let no : false ≡ true = c.if-not-is_option.ensures.1 (ap (take 8) c.ahead.ensures ∙ is) in cc) in
    record {
      came = c.need.new.self.ahead;
      takes = magic_came (g.I.Source.left c.args.input.now) (g.I.Source.left c.need.new.input) c.args.intake.now c.need.new.self c.in_ok-need.ensures.came;
      ends = inr (there, apart);
    }

pub returns-in_err-need-2-clause-came : goal.returns-in_err-need-2-clause-came
returns-in_err-need-2-clause-came g c =
    let p = err_from_is_err_and c.from_residual-in_err-need-2.result c.from_residual-in_err-need-2.ensures.1 in
    let long = c.in_ok-need.ensures.there c.if-not-branch.false in
    let magic : take 8 c.need.new.self.ahead ≡ codes "IHAVEOPT" = ap (take 8) (sym c.ahead.ensures) ∙ c.if-not-is_option.ensures.0 refl in
    let more = c.in_err-need-2.ensures.came in
    rw (p.1, p.2) (option_stopped (g.I.Source.left c.args.input.now) (g.I.Source.left c.need-2.new.input) c.args.intake.now c.need-2.new.self c.need-2.new.self.ahead c.in_err-need-2.field-0.0
    (head_came (g.I.Source.left c.args.input.now) (g.I.Source.left c.need.new.input) (g.I.Source.left c.need-2.new.input) c.args.intake.now c.need.new.self c.need-2.new.self long magic c.in_ok-need.ensures.came c.in_err-need-2.ensures.came)
    (short_awaits_option c.need-2.new.self.ahead c.in_err-need-2.ensures.short (λ longer. magic_stays c.need.new.self.ahead more.taken c.need-2.new.self.ahead long magic more.is)) c.in_err-need-2.ensures.input)

pub returns-then-not-branch-2-clause-came : goal.returns-then-not-branch-2-clause-came
returns-then-not-branch-2-clause-came g c =
    let long = c.in_ok-need.ensures.there c.if-not-branch.false in
    let magic : take 8 c.need.new.self.ahead ≡ codes "IHAVEOPT" = ap (take 8) (sym c.ahead.ensures) ∙ c.if-not-is_option.ensures.0 refl in
    let more = c.in_ok-need-2.ensures.came in
    let end = c.in_ok-need-2.ensures.end c.if-not-branch-2.true in
    record {
      came = c.need-2.new.self.ahead;
      takes = head_came (g.I.Source.left c.args.input.now) (g.I.Source.left c.need.new.input) (g.I.Source.left c.need-2.new.input) c.args.intake.now c.need.new.self c.need-2.new.self long magic c.in_ok-need.ensures.came more;
      ends =
          inl (
            end.0,
            omega (arith, long, ap length more.is, length-append c.need.new.self.ahead more.taken),
            short_awaits_option c.need-2.new.self.ahead end.1 (λ longer. magic_stays c.need.new.self.ahead more.taken c.need-2.new.self.ahead long magic more.is),
          );
    }

pub returns-in_err-pass-clause-came : goal.returns-in_err-pass-clause-came
returns-in_err-pass-clause-came g c =
    let p = err_from_is_err_and c.from_residual-in_err-pass.result c.from_residual-in_err-pass.ensures.1 in
    let passed = c.in_err-pass.ensures.passed in
    let head = c.read_option-option.result in
    let takes =
    option_taken _ _ _ _ _ _ _ _ c.pass.new.self _ _ head (Err c.in_err-pass.field-0.0) (c.in_ok-need.ensures.there c.if-not-branch.false) c.ahead.ensures (c.if-not-is_option.ensures.0 refl) c.in_ok-need.ensures.came
    c.in_ok-need-2.ensures.came c.ahead-2.ensures c.read_option-option.ensures.fits c.read_option-option.ensures.spelled c.skip.ensures.ahead c.skip.ensures.left passed in
    rw (p.1, p.2) (option_stopped (g.I.Source.left c.args.input.now) (g.I.Source.left c.pass.new.input) c.args.intake.now c.pass.new.self (option_head head ++ (passed.gone ++ c.pass.new.self.ahead)) c.in_err-pass.field-0.0
    takes (head_awaits_option head (passed.gone ++ c.pass.new.self.ahead) c.read_option-option.ensures.fits passed.stopped) c.in_err-pass.ensures.input)

pub returns-then-not-branch-3-clause-came : goal.returns-then-not-branch-3-clause-came
returns-then-not-branch-3-clause-came g c =
    let passed = c.in_ok-pass.ensures.passed in
    let head = c.read_option-option.result in
    let takes =
    option_taken _ _ _ _ _ _ _ _ c.pass.new.self _ _ head (Ok c.in_ok-pass.field-0) (c.in_ok-need.ensures.there c.if-not-branch.false) c.ahead.ensures (c.if-not-is_option.ensures.0 refl) c.in_ok-need.ensures.came
    c.in_ok-need-2.ensures.came c.ahead-2.ensures c.read_option-option.ensures.fits c.read_option-option.ensures.spelled c.skip.ensures.ahead c.skip.ensures.left passed in
    record {
      came = option_head head ++ (passed.gone ++ c.pass.new.self.ahead);
      takes = takes;
      ends =
          inl (
            c.in_ok-pass.ensures.end c.if-not-branch-3.true,
            omega arith,
            head_awaits_option head (passed.gone ++ c.pass.new.self.ahead) c.read_option-option.ensures.fits (passed.short c.if-not-branch-3.true),
          );
    }

pub returns-clause-came : goal.returns-clause-came
returns-clause-came g c =
    let passed = c.in_ok-pass.ensures.passed in
    let head = c.read_option-option.result in
    let takes =
    option_taken _ _ _ _ _ _ _ _ c.pass.new.self _ _ head (Ok c.in_ok-pass.field-0) (c.in_ok-need.ensures.there c.if-not-branch.false) c.ahead.ensures (c.if-not-is_option.ensures.0 refl) c.in_ok-need.ensures.came
    c.in_ok-need-2.ensures.came c.ahead-2.ensures c.read_option-option.ensures.fits c.read_option-option.ensures.spelled c.skip.ensures.ahead c.skip.ensures.left passed in
    option_whole (g.I.Source.left c.args.input.now) (g.I.Source.left c.pass.new.input) c.args.intake.now c.pass.new.self head passed.gone c.read_option-option.ensures.fits (passed.whole c.if-not-branch-3.false) takes
