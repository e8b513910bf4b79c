use Rattle.std.proofs.Common.{Ok, Err, inl, inr, refl, arith}
use Rattle.platform.proofs.Moments.{During-now}
use Rattle.device_terms.specs.Served.{IsServedImage}
use Rattle.device_session.specs.Open.{blocks_of}
use Rattle.device_course.specs.Held.{after_commit}
use Rattle.session_calls.proofs.HeldLaws.{commit_stopped}
use Rattle.volume_lines.specs.Lines.{Commit}
use Rattle.volume_lines.specs.Replies.{Committed}
use Rattle.volume_desk.specs.Causes.{sizes}
use Rattle.volume_desk.specs.Done.{KeepsAll}
use Rattle.volume_desk.specs.Turns.{StopsAt}
use Rattle.session_calls.proofs.CarryLaws.{carries_committed, carries_going, carries_stopped}
use Rattle.volume_desk.proofs.CauseLaws.{commit_may}
use Rattle.volume_desk.proofs.DoneLaws.{commit_along, keeps_all, needs_behind, short_pages, short_still}
use Rattle.volume_desk.proofs.DrawingLaws.{commit_drew, short_head, spends_some}
use Rattle.volume_desk.proofs.SyncLaws.{commit_changes, replied_twice, stopped_twice}
use Rattle.volume_desk.proofs.TurnLaws.{array_held, commit_pages, commit_served, committed_to}
use Rattle.volume_desk.proofs.committing.commit.Goals as goal

pub returns-in-Ok-clause-carries : goal.returns-in-Ok-clause-carries
returns-in-Ok-clause-carries g c =
    carries_going _ _ _ _ _ _ _ (λ going. tt) (carries_committed g.P.Platform g.T.Tape g.L.Sink _ _ _ _ _ _ _ c.in-Ok.done c.in-Ok.ensures.goes c.in-Ok.ensures.leads)

pub returns-in-Err-clause-carries : goal.returns-in-Err-clause-carries
returns-in-Err-clause-carries g c =
    carries_going _ _ _ _ _ _ _ (λ going. cc) (carries_stopped g.P.Platform g.T.Tape g.L.Sink _ _ _ _ _ _ _ c.in-Err.stop c.in-Err.ensures.goes c.in-Err.ensures.leads)

pub returns-in-Ok-clause-serves : goal.returns-in-Ok-clause-serves
returns-in-Ok-clause-serves g c told entry table buffer held =
    commit_served _ _ table c.in-Ok.done.session entry c.in-Ok.done.reply c.reply_to_commit.result buffer c.reply_to_commit.ensures
    (committed_to g.P.Platform g.T.Tape g.L.Sink _ _ _ _ _ _ _ _ c.in-Ok.done.reply table entry c.requires.ready.is_open c.in-Ok.ensures.goes.back.is_open.served.in_range
    (c.in-Ok.ensures.goes.back.mounted told).cell (g.met.P.Platform.counts_pages told c.commit_session.new.platform) held c.in-Ok.ensures.answers (c.in-Ok.ensures.leads told entry.device entry.session held.at))

pub returns-in-Err-clause-serves : goal.returns-in-Err-clause-serves
returns-in-Err-clause-serves g c told entry table buffer held =
    let stopped = commit_stopped g.P.Platform g.T.Tape _ _ _ _ _ c.in-Err.stop entry (λ ahead stop. StopsAt (g.P.Platform.capacity c.args.platform.now) table entry Commit ahead stop) (inl refl, refl, refl, refl)
    (λ needed needs room. inr (Committed (after_commit entry needed).device.number, after_commit entry needed, refl, (needed, needs, room, refl, refl)))
    c.requires.ready.is_open (array_held _ _ _ table entry held) c.in-Err.ensures.answers (During-now _ _ IsServedImage (c.in-Err.ensures.goes.keeps.serves told held.at.served))
    (c.in-Err.ensures.leads told entry.device entry.session held.at) in
    record { ahead = stopped.0; is = stopped.1; pages = commit_pages g.P.Platform g.T.Tape _ _ _ _ _ c.in-Err.stop table entry c.requires.ready.is_open held c.in-Err.ensures.answers; made = stopped.2 }

pub returns-in-Ok-clause-any : goal.returns-in-Ok-clause-any
returns-in-Ok-clause-any g c table buffer =
    commit_along g.P.Platform.tells (g.P.Platform.history c.args.platform.now) (g.P.Platform.history c.commit_session.new.platform) c.args.session c.in-Ok.done.session
    (sizes (blocks_of c.args.session) (g.P.Platform.head c.commit_session.new.platform) (g.P.Platform.capacity c.commit_session.new.platform)) table c.in-Ok.done.reply c.reply_to_commit.result buffer c.reply_to_commit.ensures
    (λ number is. needs_behind g.P.Platform c.args.platform.now c.commit_session.new.platform c.args.tape.now c.commit_session.new.tape c.args.ledger.now c.commit_session.new.ledger c.args.session c.in-Ok.done.session c.in-Ok.done.reply number is c.in-Ok.ensures.answers)
    (λ needed free is. short_still g.P.Platform c.args.platform.now c.commit_session.new.platform c.args.tape.now c.commit_session.new.tape c.args.ledger.now c.commit_session.new.ledger c.args.session c.in-Ok.done.session c.in-Ok.done.reply needed free
    (λ image s. KeepsAll (g.P.Platform.history c.args.platform.now).present c.args.session image s) is c.in-Ok.ensures.answers (keeps_all (g.P.Platform.history c.args.platform.now).present c.args.session))
    (λ needed free is. short_pages g.P.Platform c.args.platform.now c.commit_session.new.platform c.args.tape.now c.commit_session.new.tape c.args.ledger.now c.commit_session.new.ledger c.args.session c.in-Ok.done.session c.in-Ok.done.reply needed free is c.in-Ok.ensures.answers)

pub returns-in-Err-clause-any : goal.returns-in-Err-clause-any
returns-in-Err-clause-any g c table buffer = (commit_may g.P.Platform.tells (g.P.Platform.history c.commit_session.new.platform).present Commit c.args.session table c.args.ledger.now c.commit_session.new.ledger c.in-Err.stop tt tt tt c.in-Err.ensures.goes.unput, (table, refl))

pub returns-in-Ok-clause-spends : goal.returns-in-Ok-clause-spends
returns-in-Ok-clause-spends g c table buffer =
    spends_some g.P.Platform.tells _ _ _ _ _ _ table Commit buffer (Ok c.reply_to_commit.result) tt
    (commit_drew g.P.Platform g.T.Tape c.args.platform.now c.commit_session.new.platform c.args.tape.now c.commit_session.new.tape c.in-Ok.done.reply c.reply_to_commit.result buffer c.reply_to_commit.ensures c.in-Ok.ensures.goes.drew
    (short_head g.P.Platform _ _ _ _ _ _ _ _ c.in-Ok.done.reply c.in-Ok.ensures.answers))
    (λ told. omega (arith, c.in-Ok.ensures.goes.unread told))

pub returns-in-Err-clause-spends : goal.returns-in-Err-clause-spends
returns-in-Err-clause-spends g c table buffer = spends_some g.P.Platform.tells _ _ _ _ _ _ table Commit buffer (Err c.in-Err.stop) tt tt (λ told. omega (arith, c.in-Err.ensures.goes.unread told))

pub returns-in-Ok-clause-changes : goal.returns-in-Ok-clause-changes
returns-in-Ok-clause-changes g c told buffer =
    commit_changes g.P.Platform _ _ c.args.tape.now c.commit_session.new.tape c.args.ledger.now c.commit_session.new.ledger c.args.session c.in-Ok.done.session c.in-Ok.done.reply c.reply_to_commit.result buffer c.in-Ok.ensures.answers c.reply_to_commit.ensures (replied_twice c.in-Ok.done.reply _ _ (c.in-Ok.ensures.goes.changes told))

pub returns-in-Err-clause-changes : goal.returns-in-Err-clause-changes
returns-in-Err-clause-changes g c told buffer = stopped_twice c.in-Err.stop _ _ (c.in-Err.ensures.goes.changes told)
