use Rattle.std.proofs.Common.{◌≡◌, ◌*◌, ◌++◌, ◌∙◌, ◌∷◌, [], ℕ, ap, true, false, refl, arith, subst, Ok, Option, sym}
use Rattle.std.specs.Prelude.{IsSome}
use Rattle.std.proofs.lemmas.Result.{err_from_is_err_and}
use Rattle.sdbt_base.specs.Counts.{counts}
use Rattle.nbd_lang.specs.declared.requests.Request.{Request}
use Rattle.nbd_core.specs.Requests.{HeadCame}
use Rattle.nbd_core.proofs.BlameLaws.{blame_as, blame_on, blame_then}
use Rattle.session_calls.proofs.CarryLaws.{carries_start, carries_then, carries_end, carries_going}
use Rattle.nbd_core.proofs.RequestLaws.{less_of_head}
use Rattle.device_session.specs.Open.{blocks_of}
use Rattle.nbd_core.proofs.ServedLaws.{answered_on, less_of_answer, replied_more, replied_nothing, served_goodbye, served_halted, served_over, served_stopped}
use Rattle.nbd_core.specs.Changes.{changes_for}
use Rattle.sdbt_base.specs.Rises.{MayRiseBy}
use Rattle.nbd_core.proofs.ChangeLaws.{rises_behind, rises_more}
use Rattle.nbd_core.proofs.KeepLaws.{keeps_same, keeps_then, room_most}
use Rattle.nbd_core.proofs.serving.serve.Goals as goal

pub requests-init : goal.requests-init
requests-init g c = record {
  exchanges = [];
  replied = replied_nothing _ _ _ _ _ _ _ _ (λ entry from. from.1) c.requires.fresh c.requires.ready.mounted;
  carries = carries_start _ _ _ c.requires.ready;
  changes = λ told. record { rises = omega arith; at_most = omega arith };
  room = keeps_same _ _ _ _ _ refl refl;
  open_yet = refl;
  quiet = refl;
}

pub returns-in_err-request-clause-carries : goal.returns-in_err-request-clause-carries
returns-in_err-request-clause-carries g c =
    let p = err_from_is_err_and c.from_residual.result c.from_residual.ensures.1 in
    rw p.1 (carries_end _ _ _ _ _ _ _ (λ never. cc) c.requests.invariant.carries)

pub returns-in_err-request-clause-blame : goal.returns-in_err-request-clause-blame
returns-in_err-request-clause-blame g c =
    let p = err_from_is_err_and c.from_residual.result c.from_residual.ensures.1 in
    rw (p.1, p.2) (blame_then _ _ _ _ c.requests.invariant.quiet (blame_as _ _ c.in_err-request.field-0.0 (c.in_err-request.ensures.blame (counts (g.P.Platform.faults c.requests.platform) (g.T.Tape.faults c.requests.tape) 0 (g.O.Sink.faults c.requests.output) (g.L.Sink.faults c.requests.ledger)))))

pub returns-then-is_disconnect-clause-carries : goal.returns-then-is_disconnect-clause-carries
returns-then-is_disconnect-clause-carries g c = carries_then _ _ _ _ _ _ _ _ _ tt c.requests.invariant.carries c.finish.ensures.carries

pub returns-then-is_disconnect-clause-blame : goal.returns-then-is_disconnect-clause-blame
returns-then-is_disconnect-clause-blame g c =
    let o = g.O.Sink.faults c.requests.output in
    blame_then _ _ _ _ c.requests.invariant.quiet
    (blame_then _ _ _ _ (c.in_ok-request.ensures.blame (counts (g.P.Platform.faults c.requests.platform) (g.T.Tape.faults c.requests.tape) 0 (g.O.Sink.faults c.requests.output) (g.L.Sink.faults c.requests.ledger))).quiet (c.finish.ensures.blame (counts 0 0 (g.I.Source.faults c.next_request.new.input) o 0)))

pub requests-smaller : goal.requests-smaller
requests-smaller g c =
    let head = subst (λ (it : Option Request). HeadCame (g.I.Source.left c.requests.input) (g.I.Source.left c.next_request.new.input) c.requests.intake c.next_request.new.intake (Ok it)) c.in-Some.is c.in_ok-request.ensures.came in
    omega (arith, less_of_head _ _ _ _ c.in-Some.request head, less_of_answer _ _ _ _ _ _ _ _ _ _ _ _ _ c.answer.ensures.answered)

pub requests-preserved : goal.requests-preserved
requests-preserved g c =
    let so_far = c.requests.invariant in
    let head = subst (λ (it : Option Request). HeadCame (g.I.Source.left c.requests.input) (g.I.Source.left c.next_request.new.input) c.requests.intake c.next_request.new.intake (Ok it)) c.in-Some.is c.in_ok-request.ensures.came in
    let size : 4096 * blocks_of c.requests.session ≡ 4096 * blocks_of c.args.first = ap (λ (n : ℕ). 4096 * n) so_far.carries.blocks in
    let answered = answered_on _ _ _ _ _ _ _ _ _ _ _ _ _ _ size c.in-Ok.ensures.answered in
    let answer_changes : g.P.Platform.tells → MayRiseBy (changes_for (4096 * blocks_of c.args.first) c.in-Some.request) (g.P.Platform.changes c.requests.platform) (g.P.Platform.changes c.answer.new.platform) = λ told. subst (λ (n : ℕ). MayRiseBy (changes_for n c.in-Some.request) (g.P.Platform.changes c.requests.platform) (g.P.Platform.changes c.answer.new.platform)) size (c.in-Ok.ensures.changes told) in
    let more = replied_more _ _ _ _ _ _ c.in-Ok.next (4096 * blocks_of c.args.first) _ _ _ _ _ _ _ _ _ _ _ so_far.exchanges c.in-Some.request (λ entry from. from.0) so_far.carries.capacity c.in-Ok.ensures.carries.capacity c.in-Ok.ensures.carries.rises so_far.carries.keeps.keys.extends c.in-Ok.ensures.carries.keeps.keys.extends (λ is. let no : false ≡ true = c.if-is_disconnect.ensures.1 is in cc) size so_far.carries.ready.mounted c.in-Ok.ensures.carries.ready.mounted so_far.replied head answered in
    record {
      exchanges = so_far.exchanges ++ more.0 ∷ [];
      replied = more.2;
      changes = λ told. rises_more _ so_far.exchanges more.0 c.in-Some.request _ _ _ more.1 (so_far.changes told) (answer_changes told);
      room = keeps_then _ 33554448 _ _ _ _ _ _ (omega arith) (room_most (4096 * blocks_of c.requests.session) c.in-Some.request) so_far.room c.in-Ok.ensures.keeps;
      carries = carries_then _ _ _ _ _ _ _ _ _ tt c.requests.invariant.carries (carries_going _ _ _ _ _ _ _ (λ going. refl) c.in-Ok.ensures.carries);
      open_yet = c.in-Ok.ensures.ended.open_yet tt ∙ c.in_ok-request.ensures.ended.open_yet (subst (λ (it : Option Request). IsSome it) (sym c.in-Some.is) refl) ∙ so_far.open_yet;
      quiet = c.in-Ok.ensures.blame.quiet ∙ ((c.in_ok-request.ensures.blame (counts (g.P.Platform.faults c.requests.platform) (g.T.Tape.faults c.requests.tape) 0 (g.O.Sink.faults c.requests.output) (g.L.Sink.faults c.requests.ledger))).quiet ∙ so_far.quiet);
    }

pub returns-in-Err-clause-carries : goal.returns-in-Err-clause-carries
returns-in-Err-clause-carries g c = carries_then _ _ _ _ _ _ _ _ _ tt c.requests.invariant.carries c.in-Err.ensures.carries

pub returns-in-Err-clause-blame : goal.returns-in-Err-clause-blame
returns-in-Err-clause-blame g c =
    blame_then _ _ _ _ c.requests.invariant.quiet (blame_then _ _ _ _ (c.in_ok-request.ensures.blame (counts (g.P.Platform.faults c.requests.platform) (g.T.Tape.faults c.requests.tape) 0 (g.O.Sink.faults c.requests.output) (g.L.Sink.faults c.requests.ledger))).quiet (blame_as _ _ c.in-Err.halt c.in-Err.ensures.blame))

pub returns-clause-carries : goal.returns-clause-carries
returns-clause-carries g c = carries_end _ _ _ _ _ _ _ (λ going. tt) c.requests.invariant.carries

pub returns-clause-blame : goal.returns-clause-blame
returns-clause-blame g c =
    blame_then _ _ _ _ c.requests.invariant.quiet (blame_on _ _ _ _ (c.in_ok-request.ensures.blame (counts (g.P.Platform.faults c.requests.platform) (g.T.Tape.faults c.requests.tape) 0 (g.O.Sink.faults c.requests.output) (g.L.Sink.faults c.requests.ledger))))

pub returns-in_err-request-clause-served : goal.returns-in_err-request-clause-served
returns-in_err-request-clause-served g c =
    let p = err_from_is_err_and c.from_residual.result c.from_residual.ensures.1 in
    rw (p.1, p.2) (served_stopped _ _ _ _ _ _ _ _ _ _ _ _ _ _ _ _ c.requests.invariant.exchanges c.in_err-request.field-0.0 c.requests.invariant.changes c.requests.invariant.replied c.in_err-request.ensures.came)

pub returns-then-is_disconnect-clause-served : goal.returns-then-is_disconnect-clause-served
returns-then-is_disconnect-clause-served g c =
    let head = subst (λ (it : Option Request). HeadCame (g.I.Source.left c.requests.input) (g.I.Source.left c.next_request.new.input) c.requests.intake c.next_request.new.intake (Ok it)) c.in-Some.is c.in_ok-request.ensures.came in
    served_goodbye _ _ _ _ _ _ _ _ _ _ _ _ _ _ _ _ _ c.requests.invariant.exchanges c.in-Some.request _ (λ entry from. from.0) c.requests.invariant.carries.capacity c.finish.ensures.carries.keeps.keys.extends c.finish.ensures.carries.capacity c.finish.ensures.carries.rises c.finish.ensures.short c.finish.ensures.adds c.finish.ensures.reads (c.if-is_disconnect.ensures.0 refl) (λ told. rises_behind _ c.requests.invariant.exchanges 2 _ _ _ (c.requests.invariant.changes told) (c.finish.ensures.changes told)) c.requests.invariant.replied head c.finish.ensures.ends c.finish.ensures.finishes

pub returns-in-Err-clause-served : goal.returns-in-Err-clause-served
returns-in-Err-clause-served g c =
    let so_far = c.requests.invariant in
    let head = subst (λ (it : Option Request). HeadCame (g.I.Source.left c.requests.input) (g.I.Source.left c.next_request.new.input) c.requests.intake c.next_request.new.intake (Ok it)) c.in-Some.is c.in_ok-request.ensures.came in
    let size : 4096 * blocks_of c.requests.session ≡ 4096 * blocks_of c.args.first = ap (λ (n : ℕ). 4096 * n) so_far.carries.blocks in
    served_halted _ _ _ _ _ _ _ _ (4096 * blocks_of c.args.first) _ _ _ _ _ _ _ _ _ _ _ so_far.exchanges c.in-Some.request c.in-Err.halt (λ entry from. from.0) so_far.carries.capacity c.in-Err.ensures.carries.keeps.keys.extends c.in-Err.ensures.carries.capacity c.in-Err.ensures.carries.rises (λ is. let no : false ≡ true = c.if-is_disconnect.ensures.1 is in cc) (λ told. rises_behind _ so_far.exchanges _ _ _ _ (so_far.changes told) (subst (λ (n : ℕ). MayRiseBy (changes_for n c.in-Some.request) (g.P.Platform.changes c.requests.platform) (g.P.Platform.changes c.answer.new.platform)) size (c.in-Err.ensures.changes told))) so_far.replied head (answered_on _ _ _ _ _ _ _ _ _ _ _ _ _ _ size c.in-Err.ensures.answered)

pub returns-clause-served : goal.returns-clause-served
returns-clause-served g c =
    let head = subst (λ (it : Option Request). HeadCame (g.I.Source.left c.requests.input) (g.I.Source.left c.next_request.new.input) c.requests.intake c.next_request.new.intake (Ok it)) c.in_default.is c.in_ok-request.ensures.came in
    served_over _ _ _ _ _ _ _ _ _ _ _ _ _ _ _ _ c.requests.invariant.exchanges c.requests.invariant.changes c.requests.invariant.replied head

pub returns-in_err-request-clause-keeps : goal.returns-in_err-request-clause-keeps
returns-in_err-request-clause-keeps g c = c.requests.invariant.room

pub returns-then-is_disconnect-clause-keeps : goal.returns-then-is_disconnect-clause-keeps
returns-then-is_disconnect-clause-keeps g c = c.requests.invariant.room

pub returns-in-Err-clause-keeps : goal.returns-in-Err-clause-keeps
returns-in-Err-clause-keeps g c =
    keeps_then _ 33554448 _ _ _ _ _ _ (omega arith) (room_most (4096 * blocks_of c.requests.session) c.in-Some.request) c.requests.invariant.room c.in-Err.ensures.keeps

pub returns-clause-keeps : goal.returns-clause-keeps
returns-clause-keeps g c = c.requests.invariant.room
