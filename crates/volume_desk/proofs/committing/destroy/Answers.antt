use Rattle.std.proofs.Common.{◌+◌, Ok, Err, arith}
use Rattle.sdbt_base.proofs.RiseLaws.{counted_not}
use Rattle.platform.proofs.Moments.{During-now}
use Rattle.device_terms.specs.Served.{IsServedImage}
use Rattle.device_course.specs.States.{around}
use Rattle.device_session.specs.Open.{blocks_of}
use Rattle.session_calls.specs.Damage.{IsMounted}
use Rattle.volume_lines.specs.Lines.{Destroy}
use Rattle.volume_terms.specs.Volumes.{changed}
use Rattle.session_calls.proofs.CarryLaws.{carries_along, carries_committed, carries_end, carries_going, carries_stopped, carries_then}
use Rattle.device_course.proofs.MadeLaws.{made_kept}
use Rattle.volume_desk.specs.Causes.{sizes}
use Rattle.volume_desk.proofs.CauseLaws.{commit_may, stops_known, takes_none_any, takes_some_any}
use Rattle.volume_desk.proofs.DoneLaws.{answered_along, destroy_along, needs_behind, short_behind, short_still, was_mid}
use Rattle.volume_desk.specs.Done.{IsCleared}
use Rattle.volume_desk.specs.Drawing.{tally}
use Rattle.volume_desk.proofs.DrawingLaws.{destroy_drew, short_head, spends_some, takes_none_drew, takes_some_drew}
use Rattle.volume_desk.specs.Reads.{reads_out}
use Rattle.volume_desk.proofs.ReadLaws.{destroy_reads, takes_none_reads, takes_some_reads}
use Rattle.volume_desk.specs.Syncs.{changes_in}
use Rattle.volume_desk.proofs.SyncLaws.{changed_behind, destroy_changes, replied_twice, stopped_twice}
use Rattle.volume_desk.proofs.TurnLaws.{changed_served, committed_to, destroy_served, destroy_stopped, stopped_kept, takes_none, takes_some}
use Rattle.volume_desk.proofs.committing.destroy.Goals as goal

pub returns-in-Some-clause-carries : goal.returns-in-Some-clause-carries
returns-in-Some-clause-carries g c =
    carries_going _ _ _ _ _ _ _ (λ going. tt)
    (carries_along g.P.Platform g.T.Tape g.L.Sink (1 + blocks_of c.args.first) _ c.args.platform.now c.take_out.new.platform c.args.tape.now c.take_out.new.tape c.args.ledger.now _ _ c.requires.ready c.take_out.ensures.calls.along)

pub returns-in-Some-clause-serves : goal.returns-in-Some-clause-serves
returns-in-Some-clause-serves g c told entry buffer held =
    changed_served _ _ c.args.first _ _ _ entry (Destroy c.args.name.now) _ held (c.take_out.ensures.calls.along.cell told)
    (takes_some _ _ _ _ _ _ entry c.args.name.now buffer c.in-Ok.refused c.in-Some.reply c.in-Some.is (c.in-Ok.ensures.turns told entry buffer held))

pub returns-in-Err-clause-carries : goal.returns-in-Err-clause-carries
returns-in-Err-clause-carries g c =
    carries_end _ _ _ _ _ _ _ (λ going. tt)
    (carries_along g.P.Platform g.T.Tape g.L.Sink (1 + blocks_of c.args.first) _ c.args.platform.now c.take_out.new.platform c.args.tape.now c.take_out.new.tape c.args.ledger.now _ _ c.requires.ready c.take_out.ensures.calls.along)

pub returns-in-Err-clause-serves : goal.returns-in-Err-clause-serves
returns-in-Err-clause-serves g c told entry buffer held =
    stopped_kept _ _ c.args.first _ entry (Destroy c.args.name.now) c.in-Err.stop held (c.take_out.ensures.calls.along.cell told) (c.in-Err.ensures.turns told entry buffer held)

pub returns-in-Ok-commit_session-clause-carries : goal.returns-in-Ok-commit_session-clause-carries
returns-in-Ok-commit_session-clause-carries g c =
    let one = carries_along g.P.Platform g.T.Tape g.L.Sink (1 + blocks_of c.args.first) (reads_out c.args.table.now c.args.name.now c.take_out.result) c.args.platform.now c.take_out.new.platform c.args.tape.now c.take_out.new.tape c.args.ledger.now _ _ c.requires.ready c.take_out.ensures.calls.along in
    carries_then _ _ _ _ _ _ _ _ _ tt one
    (carries_going _ _ _ _ _ _ _ (λ going. tt) (carries_committed g.P.Platform g.T.Tape g.L.Sink _ _ _ _ _ _ _ c.in-Ok-commit_session.done c.in-Ok-commit_session.ensures.goes c.in-Ok-commit_session.ensures.leads))

pub returns-in-Ok-commit_session-clause-serves : goal.returns-in-Ok-commit_session-clause-serves
returns-in-Ok-commit_session-clause-serves g c told entry buffer held =
    let along = c.take_out.ensures.calls.along in
    let kept = made_kept _ _ entry.device held.at.there.device held.at.served (along.cell told) in
    let taken = takes_none _ _ _ _ _ _ entry c.args.name.now buffer c.in-Ok.refused c.in_default.is (c.in-Ok.ensures.turns told entry buffer held) in
    destroy_served _ (around g.P.Platform g.T.Tape g.L.Sink c.take_out.new.platform c.take_out.new.tape c.args.ledger.now) _ _ _ _ _ entry c.args.name.now c.in-Ok-commit_session.done.reply c.reply_to_destroy.result buffer c.reply_to_destroy.ensures along.capacity taken kept
    (committed_to g.P.Platform g.T.Tape g.L.Sink _ _ _ _ _ _ _ _ c.in-Ok-commit_session.done.reply _ (changed entry c.take_out.new.table taken.v) along.is_open c.in-Ok-commit_session.ensures.goes.back.is_open.served.in_range
    (c.in-Ok-commit_session.ensures.goes.back.mounted told).cell (g.met.P.Platform.counts_pages told c.commit_session.new.platform) taken.held c.in-Ok-commit_session.ensures.answers
    (c.in-Ok-commit_session.ensures.leads told entry.device (changed entry c.take_out.new.table taken.v).session taken.held.at))

pub returns-in-Err-commit_session-clause-carries : goal.returns-in-Err-commit_session-clause-carries
returns-in-Err-commit_session-clause-carries g c =
    let one = carries_along g.P.Platform g.T.Tape g.L.Sink (1 + blocks_of c.args.first) (reads_out c.args.table.now c.args.name.now c.take_out.result) c.args.platform.now c.take_out.new.platform c.args.tape.now c.take_out.new.tape c.args.ledger.now _ _ c.requires.ready c.take_out.ensures.calls.along in
    carries_then _ _ _ _ _ _ _ _ _ tt one
    (carries_going _ _ _ _ _ _ _ (λ going. cc) (carries_stopped g.P.Platform g.T.Tape g.L.Sink _ _ _ _ _ _ _ c.in-Err-commit_session.stop c.in-Err-commit_session.ensures.goes c.in-Err-commit_session.ensures.leads))

pub returns-in-Err-commit_session-clause-serves : goal.returns-in-Err-commit_session-clause-serves
returns-in-Err-commit_session-clause-serves g c told entry buffer held =
    let along = c.take_out.ensures.calls.along in
    let kept = made_kept _ _ entry.device held.at.there.device held.at.served (along.cell told) in
    let taken = takes_none _ _ _ _ _ _ entry c.args.name.now buffer c.in-Ok.refused c.in_default.is (c.in-Ok.ensures.turns told entry buffer held) in
    destroy_stopped g.P.Platform g.T.Tape g.L.Sink _ _ _ _ _ _ _ _ _ c.in-Err-commit_session.stop _ _ entry c.args.name.now along.capacity taken kept along.is_open c.in-Err-commit_session.ensures.answers
    (During-now _ _ IsServedImage (c.in-Err-commit_session.ensures.goes.keeps.serves told taken.held.at.served)) (c.in-Err-commit_session.ensures.leads told entry.device (changed entry c.take_out.new.table taken.v).session taken.held.at)

pub returns-in-Some-clause-any : goal.returns-in-Some-clause-any
returns-in-Some-clause-any g c buffer =
    let along = c.take_out.ensures.calls.along in
    answered_along g.P.Platform.tells (g.P.Platform.history c.args.platform.now) (g.P.Platform.history c.take_out.new.platform) c.args.first c.take_out.new.session
    (sizes (blocks_of c.args.first) (g.P.Platform.head c.take_out.new.platform) (g.P.Platform.capacity c.take_out.new.platform)) c.args.table.now c.take_out.new.table (Destroy c.args.name.now) buffer c.in-Some.reply
    (λ told. (along.cell told).extends) c.requires.ready.mounted (λ told. along.mounted told (c.requires.ready.mounted told)) (takes_some_any g.P.Platform.tells (g.P.Platform.history c.args.platform.now).present (g.P.Platform.history c.take_out.new.platform).present c.args.first c.take_out.new.session (sizes (blocks_of c.args.first) (g.P.Platform.head c.take_out.new.platform) (g.P.Platform.capacity c.take_out.new.platform)) c.args.table.now c.take_out.new.table c.args.name.now buffer c.in-Ok.refused c.in-Some.reply c.in-Some.is (c.in-Ok.ensures.any buffer))

pub returns-in-Err-clause-any : goal.returns-in-Err-clause-any
returns-in-Err-clause-any g c buffer =
    stops_known (g.P.Platform.tells × IsMounted (g.P.Platform.history c.args.platform.now).present c.args.first) g.P.Platform.tells (g.P.Platform.history c.take_out.new.platform).present c.args.first (blocks_of c.args.first) c.args.table.now (Destroy c.args.name.now) c.in-Err.stop (λ told. (told, c.requires.ready.mounted told)) (c.in-Err.ensures.any buffer)

pub returns-in-Ok-commit_session-clause-any : goal.returns-in-Ok-commit_session-clause-any
returns-in-Ok-commit_session-clause-any g c buffer =
    let history = g.P.Platform.history in
    let left = c.take_out.new.table in
    let along = c.take_out.ensures.calls.along in
    let taken = takes_none_any g.P.Platform.tells (history c.args.platform.now).present (history c.take_out.new.platform).present c.args.first c.take_out.new.session
    (sizes (blocks_of c.args.first) (g.P.Platform.head c.take_out.new.platform) (g.P.Platform.capacity c.take_out.new.platform)) c.args.table.now left c.args.name.now buffer c.in-Ok.refused c.in_default.is (c.in-Ok.ensures.any buffer) in
    let cleared : g.P.Platform.tells → IsCleared (history c.args.platform.now).present c.args.first (history c.take_out.new.platform).present c.take_out.new.session c.args.table.now c.args.name.now left = λ told. taken.1 (told, c.requires.ready.mounted told) in
    destroy_along g.P.Platform.tells (history c.args.platform.now) (history c.commit_session.new.platform) c.args.first c.in-Ok-commit_session.done.session
    (sizes (blocks_of c.args.first) (g.P.Platform.head c.commit_session.new.platform) (g.P.Platform.capacity c.commit_session.new.platform)) c.args.table.now left c.args.name.now c.in-Ok-commit_session.done.reply c.reply_to_destroy.result buffer
    c.reply_to_destroy.ensures taken.0
    (λ told. was_mid (history c.args.platform.now) (history c.take_out.new.platform) (history c.commit_session.new.platform) c.take_out.new.session (λ image session. IsCleared (history c.args.platform.now).present c.args.first image session c.args.table.now c.args.name.now left) (along.cell told).extends
    (c.in-Ok-commit_session.ensures.goes.keeps.keys.extends told) (along.mounted told (c.requires.ready.mounted told)) (cleared told))
    (λ number is. needs_behind g.P.Platform c.take_out.new.platform c.commit_session.new.platform c.take_out.new.tape c.commit_session.new.tape c.args.ledger.now c.commit_session.new.ledger c.take_out.new.session c.in-Ok-commit_session.done.session
    c.in-Ok-commit_session.done.reply number is c.in-Ok-commit_session.ensures.answers)
    (λ needed free is told. short_still g.P.Platform c.take_out.new.platform c.commit_session.new.platform c.take_out.new.tape c.commit_session.new.tape c.args.ledger.now c.commit_session.new.ledger c.take_out.new.session c.in-Ok-commit_session.done.session
    c.in-Ok-commit_session.done.reply needed free (λ image session. IsCleared (history c.args.platform.now).present c.args.first image session c.args.table.now c.args.name.now left) is c.in-Ok-commit_session.ensures.answers (cleared told))
    (λ needed free is. short_behind g.P.Platform c.take_out.new.platform c.commit_session.new.platform c.take_out.new.tape c.commit_session.new.tape c.args.ledger.now c.commit_session.new.ledger c.take_out.new.session c.in-Ok-commit_session.done.session
    c.in-Ok-commit_session.done.reply needed free is c.in-Ok-commit_session.ensures.answers)

pub returns-in-Err-commit_session-clause-any : goal.returns-in-Err-commit_session-clause-any
returns-in-Err-commit_session-clause-any g c buffer =
    let taken = takes_none_any g.P.Platform.tells (g.P.Platform.history c.args.platform.now).present (g.P.Platform.history c.take_out.new.platform).present c.args.first c.take_out.new.session (sizes (blocks_of c.args.first) (g.P.Platform.head c.take_out.new.platform) (g.P.Platform.capacity c.take_out.new.platform)) c.args.table.now c.take_out.new.table c.args.name.now buffer c.in-Ok.refused c.in_default.is (c.in-Ok.ensures.any buffer) in (
      commit_may _ _ (Destroy c.args.name.now) c.args.first c.args.table.now c.args.ledger.now c.commit_session.new.ledger c.in-Err-commit_session.stop tt tt tt c.in-Err-commit_session.ensures.goes.unput,
      (c.take_out.new.table, taken.0),
    )

pub returns-in-Some-clause-spends : goal.returns-in-Some-clause-spends
returns-in-Some-clause-spends g c buffer =
    spends_some g.P.Platform.tells _ _ _ _ _ _ c.args.table.now (Destroy c.args.name.now) buffer (Ok c.in-Some.reply) tt
    (takes_some_drew (tally (g.T.Tape.drawn c.args.tape.now) (g.P.Platform.head c.args.platform.now)) (tally (g.T.Tape.drawn c.take_out.new.tape) (g.P.Platform.head c.take_out.new.platform)) c.args.name.now buffer c.in-Ok.refused c.in-Some.reply c.in-Some.is (c.in-Ok.ensures.drew buffer))
    (λ told. let none = takes_some_reads c.args.table.now c.args.name.now c.in-Ok.refused c.in-Some.reply _ _ c.in-Some.is (c.in-Ok.ensures.calls.along.reads told) in omega (arith, none))

pub returns-in-Err-clause-spends : goal.returns-in-Err-clause-spends
returns-in-Err-clause-spends g c buffer = spends_some g.P.Platform.tells _ _ _ _ _ _ c.args.table.now (Destroy c.args.name.now) buffer (Err c.in-Err.stop) tt tt c.in-Err.ensures.calls.along.reads

pub returns-in-Ok-commit_session-clause-spends : goal.returns-in-Ok-commit_session-clause-spends
returns-in-Ok-commit_session-clause-spends g c buffer =
    let one = takes_none_drew (tally (g.T.Tape.drawn c.args.tape.now) (g.P.Platform.head c.args.platform.now)) (tally (g.T.Tape.drawn c.take_out.new.tape) (g.P.Platform.head c.take_out.new.platform)) c.args.name.now buffer c.in-Ok.refused c.in_default.is (c.in-Ok.ensures.drew buffer) in
    spends_some g.P.Platform.tells c.args.tape.now c.commit_session.new.tape (tally (g.T.Tape.drawn c.args.tape.now) (g.P.Platform.head c.args.platform.now)) (tally (g.T.Tape.drawn c.commit_session.new.tape) (g.P.Platform.head c.commit_session.new.platform))
    (g.P.Platform.reads c.args.platform.now) (g.P.Platform.reads c.commit_session.new.platform) c.args.table.now (Destroy c.args.name.now) buffer (Ok c.reply_to_destroy.result) tt
    (destroy_drew g.P.Platform g.T.Tape c.args.platform.now c.take_out.new.platform c.commit_session.new.platform c.args.tape.now c.take_out.new.tape c.commit_session.new.tape c.args.name.now c.in-Ok-commit_session.done.reply c.reply_to_destroy.result buffer c.reply_to_destroy.ensures
    one c.in-Ok-commit_session.ensures.goes.drew (short_head g.P.Platform _ _ _ _ _ _ _ _ c.in-Ok-commit_session.done.reply c.in-Ok-commit_session.ensures.answers))
    (λ told.
    let taken = takes_none_reads c.args.table.now c.args.name.now c.in-Ok.refused _ _ c.in_default.is (c.in-Ok.ensures.calls.along.reads told) in
    destroy_reads c.args.table.now c.args.name.now c.in-Ok-commit_session.done.reply c.reply_to_destroy.result buffer (g.P.Platform.reads c.args.platform.now) (g.P.Platform.reads c.commit_session.new.platform) c.reply_to_destroy.ensures
    (omega (arith, taken, c.in-Ok-commit_session.ensures.goes.unread told)))

pub returns-in-Err-commit_session-clause-spends : goal.returns-in-Err-commit_session-clause-spends
returns-in-Err-commit_session-clause-spends g c buffer =
    spends_some g.P.Platform.tells _ _ _ _ _ _ c.args.table.now (Destroy c.args.name.now) buffer (Err c.in-Err-commit_session.stop) tt tt
    (λ told.
    let taken = takes_none_reads c.args.table.now c.args.name.now c.in-Ok.refused _ _ c.in_default.is (c.in-Ok.ensures.calls.along.reads told) in
    omega (arith, taken, c.in-Err-commit_session.ensures.goes.unread told))

pub returns-in-Some-clause-changes : goal.returns-in-Some-clause-changes
returns-in-Some-clause-changes g c told buffer = counted_not (changes_in (Destroy c.args.name.now) buffer (Ok c.in-Some.reply)) _ _ (c.in-Ok.ensures.calls.along.changes told)

pub returns-in-Err-clause-changes : goal.returns-in-Err-clause-changes
returns-in-Err-clause-changes g c told buffer = counted_not 2 _ _ (c.in-Err.ensures.calls.along.changes told)

pub returns-in-Ok-commit_session-clause-changes : goal.returns-in-Ok-commit_session-clause-changes
returns-in-Ok-commit_session-clause-changes g c told buffer =
    changed_behind (changes_in (Destroy c.args.name.now) buffer (Ok c.reply_to_destroy.result)) _ _ _ (c.in-Ok.ensures.calls.along.changes told)
    (destroy_changes g.P.Platform c.take_out.new.platform c.commit_session.new.platform c.take_out.new.tape c.commit_session.new.tape c.args.ledger.now c.commit_session.new.ledger c.take_out.new.session c.in-Ok-commit_session.done.session c.in-Ok-commit_session.done.reply c.reply_to_destroy.result c.args.name.now buffer
    c.in-Ok-commit_session.ensures.answers c.reply_to_destroy.ensures (replied_twice c.in-Ok-commit_session.done.reply _ _ (c.in-Ok-commit_session.ensures.goes.changes told)))

pub returns-in-Err-commit_session-clause-changes : goal.returns-in-Err-commit_session-clause-changes
returns-in-Err-commit_session-clause-changes g c told buffer = changed_behind 2 _ _ _ (c.in-Ok.ensures.calls.along.changes told) (stopped_twice c.in-Err-commit_session.stop _ _ (c.in-Err-commit_session.ensures.goes.changes told))
