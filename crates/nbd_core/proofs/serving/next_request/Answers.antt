use Rattle.std.proofs.Common.{◌≡◌, ◌≢◌, true, false, refl, arith, ap, inl, inr, take, drop, List, ℕ, ◌++◌, ◌∙◌, sym, subst, length, length-append}
use Rattle.nbd_lang.specs.Requests.{request_head}
use Rattle.nbd_core.specs.Room.{Came}
use Rattle.nbd_core.specs.Requests.{request_magic, AwaitsRequest}
use Rattle.nbd_core.proofs.ServedLaws.{broken_no_limit}
use Rattle.nbd_core.proofs.RequestLaws.{short_awaits, shorter_awaits, request_stays, first_came, head_came, head_there, head_stopped, head_ended}
use Rattle.nbd_core.proofs.BlameLaws.{blame_broken, blame_ended, blame_take, blame_taken, blame_then}
use Rattle.nbd_core.proofs.serving.next_request.Goals as goal

pub returns-in-Ok-false-clause-came : goal.returns-in-Ok-false-clause-came
returns-in-Ok-false-clause-came g c =
    let end = c.in-Ok-false.ensures.end c.in-Ok-false.field-0-test in
    head_ended _ _ _ c.need.new.self c.count.result _ c.in-Ok-false.ensures.came end.0 end.1 c.count.ensures c.at_end.ensures.none c.at_end.ensures.broken

pub returns-in-Err-clause-came : goal.returns-in-Err-clause-came
returns-in-Err-clause-came g c =
    head_stopped _ _ _ c.need.new.self c.in-Err.stop (first_came _ _ _ c.need.new.self c.in-Err.ensures.came) (shorter_awaits c.need.new.self.ahead c.in-Err.ensures.short) c.in-Err.ensures.input c.in-Err.ensures.limit

pub returns-then-not-is_request-clause-came : goal.returns-then-not-is_request-clause-came
returns-then-not-is_request-clause-came g c =
    let there = c.in-Ok-true.ensures.there c.in-Ok-true.field-0-test in
    let apart : take 4 c.need.new.self.ahead ≢ request_magic = λ is. (let no : false ≡ true = c.if-not-is_request.ensures.1 (ap (take 4) c.ahead.ensures ∙ is) in cc) in
    record { came = c.need.new.self.ahead; takes = first_came _ _ _ c.need.new.self c.in-Ok-true.ensures.came; ends = inr (there, apart); limit = broken_no_limit _ }

pub returns-in-Ok-false-need-clause-came : goal.returns-in-Ok-false-need-clause-came
returns-in-Ok-false-need-clause-came g c =
    let long = c.in-Ok-true.ensures.there c.in-Ok-true.field-0-test in
    let magic : take 4 c.need.new.self.ahead ≡ request_magic = ap (take 4) (sym c.ahead.ensures) ∙ c.if-not-is_request.ensures.0 refl in
    let more = c.in-Ok-false-need.ensures.came in
    let end = c.in-Ok-false-need.ensures.end c.in-Ok-false-need.field-0-test in
    record {
      came = c.need-2.new.self.ahead;
      takes = head_came _ _ _ _ c.need.new.self c.need-2.new.self long magic c.in-Ok-true.ensures.came more;
      ends =
          inl (
            end.0,
            omega (arith, long, ap length more.is, length-append c.need.new.self.ahead more.taken),
            short_awaits c.need-2.new.self.ahead end.1 (λ longer. request_stays c.need.new.self.ahead more.taken c.need-2.new.self.ahead long magic more.is),
          );
      limit = broken_no_limit _;
    }

pub returns-in-Err-need-clause-came : goal.returns-in-Err-need-clause-came
returns-in-Err-need-clause-came g c =
    let long = c.in-Ok-true.ensures.there c.in-Ok-true.field-0-test in
    let magic : take 4 c.need.new.self.ahead ≡ request_magic = ap (take 4) (sym c.ahead.ensures) ∙ c.if-not-is_request.ensures.0 refl in
    let more = c.in-Err-need.ensures.came in
    head_stopped _ _ _ c.need-2.new.self c.in-Err-need.stop (head_came _ _ _ _ c.need.new.self c.need-2.new.self long magic c.in-Ok-true.ensures.came more)
    (short_awaits c.need-2.new.self.ahead c.in-Err-need.ensures.short (λ longer. request_stays c.need.new.self.ahead more.taken c.need-2.new.self.ahead long magic more.is)) c.in-Err-need.ensures.input c.in-Err-need.ensures.limit

pub returns-clause-came : goal.returns-clause-came
returns-clause-came g c =
    let long = c.in-Ok-true.ensures.there c.in-Ok-true.field-0-test in
    let magic : take 4 c.need.new.self.ahead ≡ request_magic = ap (take 4) (sym c.ahead.ensures) ∙ c.if-not-is_request.ensures.0 refl in
    let more = c.in-Ok-true-need.ensures.came in
    let all : List ℕ = c.need-2.new.self.ahead in
    let request = c.read_request-request.result in
    let spelled : request_magic ++ take 24 (drop 4 all) ≡ request_head request = ap (λ (l : List ℕ). request_magic ++ take 24 (drop 4 l)) (sym c.ahead-2.ensures) ∙ c.read_request-request.ensures.spelled in
    let there : all ≡ request_head request ++ c.skip.new.self.ahead =
    head_there all request (request_stays c.need.new.self.ahead more.taken all long magic more.is) spelled ∙ ap (λ (l : List ℕ). request_head request ++ l) (sym c.skip.ensures.ahead) in
    record {
      came = all;
      takes = subst (λ (n : ℕ). Came (g.I.Source.left c.args.input.now) (g.I.Source.left c.need-2.new.input) c.args.intake.now n AwaitsRequest all) (sym c.skip.ensures.left)
          (head_came _ _ _ _ c.need.new.self c.need-2.new.self long magic c.in-Ok-true.ensures.came more);
      ends = (c.read_request-request.ensures.fits, there);
      limit = tt;
    }

pub returns-in-Ok-false-clause-blame : goal.returns-in-Ok-false-clause-blame
returns-in-Ok-false-clause-blame g c rest = blame_ended rest _ _ c.count.result _ c.in-Ok-false.ensures.cause c.at_end.ensures.none c.at_end.ensures.broken

pub returns-in-Err-clause-blame : goal.returns-in-Err-clause-blame
returns-in-Err-clause-blame g c rest = blame_take rest _ _ c.in-Err.stop c.in-Err.ensures.fell c.in-Err.ensures.cause

pub returns-then-not-is_request-clause-blame : goal.returns-then-not-is_request-clause-blame
returns-then-not-is_request-clause-blame g c rest = blame_broken rest _ _ c.in-Ok-true.ensures.cause

pub returns-in-Ok-false-need-clause-blame : goal.returns-in-Ok-false-need-clause-blame
returns-in-Ok-false-need-clause-blame g c rest = blame_broken rest _ _ (c.in-Ok-false-need.ensures.cause ∙ c.in-Ok-true.ensures.cause)

pub returns-in-Err-need-clause-blame : goal.returns-in-Err-need-clause-blame
returns-in-Err-need-clause-blame g c rest =
    blame_then _ _ _ _ (ap (λ (n : ℕ). record rest { input = n }) c.in-Ok-true.ensures.cause) (blame_take rest _ _ c.in-Err-need.stop c.in-Err-need.ensures.fell c.in-Err-need.ensures.cause)

pub returns-clause-blame : goal.returns-clause-blame
returns-clause-blame g c rest = blame_taken rest _ _ _ (c.in-Ok-true-need.ensures.cause ∙ c.in-Ok-true.ensures.cause)
