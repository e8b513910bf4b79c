use Rattle.std.proofs.Common.{refl}
use Rattle.transfer.specs.Counts.{counts}
use Rattle.session_calls.proofs.CarryLaws.{carries_committed, carries_end, carries_going, carries_stopped}
use Rattle.transfer.proofs.BlameLaws.{of_ledger, to_quiet, to_stopped}
use Rattle.transfer.proofs.ChangesLaws.{committed_number, replied_twice, stopped_twice}
use Rattle.transfer.proofs.CommitLaws.{commit_done, commit_short, commit_stopped}
use Rattle.transfer.proofs.HaltLaws.{commit_to, number_blamed, number_commit, number_full}
use Rattle.transfer.proofs.copying.commit_target.Goals as goal

pub returns-in-Ok-clause-carries : goal.returns-in-Ok-clause-carries
returns-in-Ok-clause-carries g c =
    carries_end _ _ _ _ _ _ _ (λ going. tt)
    (carries_committed g.Q.Platform g.T.Tape g.L.Sink _ _ _ _ _ _ c.args.target c.in-Ok.done c.in-Ok.ensures.goes c.in-Ok.ensures.leads)

pub returns-in-Err-clause-carries : goal.returns-in-Err-clause-carries
returns-in-Err-clause-carries g c =
    carries_going _ _ _ _ _ _ _ (λ going. absurd cc)
    (carries_stopped g.Q.Platform g.T.Tape g.L.Sink _ _ _ _ _ _ c.args.target c.in-Err.stop c.in-Err.ensures.goes c.in-Err.ensures.leads)

pub returns-in-Ok-clause-blame : goal.returns-in-Ok-clause-blame
returns-in-Ok-clause-blame g c from output =
    let Q = g.Q.Platform in
    let T = g.T.Tape in
    let L = g.L.Sink in
    let before = counts from (Q.faults c.args.to.now) (T.faults c.args.tape.now) output (L.faults c.args.ledger.now) in
    let now = counts from (Q.faults c.commit_session.new.platform) (T.faults c.commit_session.new.tape) output (L.faults c.commit_session.new.ledger) in
    number_blamed before now c.in-Ok.done.reply c.number_of.result (to_quiet _ _ before now (of_ledger _ _ _ _ output _ _) refl c.in-Ok.ensures.goes.blame.quiet) c.number_of.ensures

pub returns-in-Err-clause-blame : goal.returns-in-Err-clause-blame
returns-in-Err-clause-blame g c from output =
    let Q = g.Q.Platform in
    let T = g.T.Tape in
    let L = g.L.Sink in
    let before = counts from (Q.faults c.args.to.now) (T.faults c.args.tape.now) output (L.faults c.args.ledger.now) in
    let now = counts from (Q.faults c.commit_session.new.platform) (T.faults c.commit_session.new.tape) output (L.faults c.commit_session.new.ledger) in
    to_stopped _ _ before now c.in-Err.stop (of_ledger _ _ _ _ output _ _) refl c.in-Err.ensures.goes.blame.fell c.in-Err.ensures.goes.blame.cause

pub returns-in-Ok-clause-wrong : goal.returns-in-Ok-clause-wrong
returns-in-Ok-clause-wrong g c = number_commit c.in-Ok.done.reply c.number_of.result c.number_of.ensures

pub returns-in-Err-clause-wrong : goal.returns-in-Err-clause-wrong
returns-in-Err-clause-wrong g c = commit_to g.Q.Platform g.T.Tape _ _ _ _ c.in-Err.stop c.in-Err.ensures.answers.left

pub returns-in-Ok-clause-leads : goal.returns-in-Ok-clause-leads
returns-in-Ok-clause-leads g c told there other at =
    commit_done (g.Q.Platform.history c.args.to.now) (g.Q.Platform.history c.commit_session.new.platform) c.args.target c.in-Ok.done.session there other c.in-Ok.done.reply c.number_of.result at (c.in-Ok.ensures.leads told there other at) c.number_of.ensures

pub returns-in-Err-clause-leads : goal.returns-in-Err-clause-leads
returns-in-Err-clause-leads g c told there other at =
    commit_stopped (g.Q.Platform.history c.args.to.now) (g.Q.Platform.history c.commit_session.new.platform) c.args.target there other c.in-Err.stop at (c.in-Err.ensures.goes.keeps.serves told at.served) (c.in-Err.ensures.leads told there other at)

pub returns-in-Ok-clause-full : goal.returns-in-Ok-clause-full
returns-in-Ok-clause-full g c is = commit_short g.Q.Platform _ _ _ _ _ _ c.args.target c.in-Ok.done.session c.in-Ok.done.reply c.number_of.result c.in-Ok.ensures.answers c.number_of.ensures is

pub returns-in-Err-clause-full : goal.returns-in-Err-clause-full
returns-in-Err-clause-full g c is = absurd cc

pub returns-in-Ok-clause-unread : goal.returns-in-Ok-clause-unread
returns-in-Ok-clause-unread g c told = (c.in-Ok.ensures.goes.unread told, replied_twice c.in-Ok.done.reply _ _ (c.in-Ok.ensures.goes.changes told))

pub returns-in-Err-clause-unread : goal.returns-in-Err-clause-unread
returns-in-Err-clause-unread g c told = (c.in-Err.ensures.goes.unread told, stopped_twice c.in-Err.stop _ _ (c.in-Err.ensures.goes.changes told))

pub returns-in-Ok-clause-number : goal.returns-in-Ok-clause-number
returns-in-Ok-clause-number g c told =
    committed_number g.Q.Platform _ _ _ _ _ _ c.args.target c.in-Ok.done.session c.in-Ok.done.reply c.number_of.result c.in-Ok.ensures.answers c.number_of.ensures (c.in-Ok.ensures.goes.back.mounted told)

pub returns-in-Ok-clause-room : goal.returns-in-Ok-clause-room
returns-in-Ok-clause-room g c = number_full _ c.in-Ok.done.reply c.number_of.result c.number_of.ensures

pub returns-in-Err-clause-room : goal.returns-in-Err-clause-room
returns-in-Err-clause-room g c other = (c.in-Err.ensures.answers.touched, c.in-Err.ensures.answers.room)
