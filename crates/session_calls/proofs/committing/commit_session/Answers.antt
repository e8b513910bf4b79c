use Rattle.std.proofs.Common.{◌≡◌, ◌-◌, true, Some, Ok, Err, inl, inr, refl, sym, subst, arith}
use Rattle.std.proofs.lemmas.Bool.{cases_Bool, cases_lt}
use Rattle.sdbt_base.specs.Rises.{MayRiseBy}
use Rattle.platform.proofs.Moments.{During-now}
use Rattle.device_terms.specs.Served.{IsServedImage}
use Rattle.device_course.proofs.KeysLaws.{on_commit}
use Rattle.device_session.specs.Open.{is_touched, needed_by}
use Rattle.device_session.specs.declared.refusals.CommitFault.{CommitFault}
use Rattle.device_session.specs.declared.refusals.CommitReply.{CommitReply}
use Rattle.sdbt_base.specs.Counts.{Counts, counts}
use Rattle.session_calls.specs.Blame.{HasCause}
use Rattle.session_calls.specs.Commits.{CommitLeads, LeavesLedger, LeftAt, most_stopped}
use Rattle.session_calls.specs.declared.stops.DeviceStop.{DeviceStop}
use Rattle.session_calls.proofs.CommitLaws.{commit_behind, fault_blamed, fault_changes, fault_leads, fault_left, fault_unput, reply_answers, reply_drew, reply_leads}
use Rattle.session_calls.proofs.committing.commit_session.Goals as goal

pub returns-in-Ok-clause-goes : goal.returns-in-Ok-clause-goes
returns-in-Ok-clause-goes g c =
    let commits = c.in-Ok.ensures.commits in record {
      back = record {
        is_open = commits.goes_on.0;
        mounted = λ told.
            let there = c.requires.mounted told in
            let both = c.in-Ok.ensures.mounted told in
            record { cell = both.1 there.cell; follows = both.0 there.follows };
        blocks = commits.goes_on.1;
        mapped = commits.goes_on.2;
        room = commits.goes_on.3;
      };
      capacity = commits.grows.capacity;
      rises = commits.grows.rises;
      adds = commits.grows.at_most;
      unread = commits.unread;
      changes = commits.changes;
      behind = commits.behind;
      keeps = on_commit {X = CommitReply} {Y = CommitFault} _ _ _ _ _ (Some c.args.session) c.args.session _ _ _ (Ok c.in-Ok.reply) _ _ _ refl c.requires.open (λ told. (c.requires.mounted told).cell) commits.discloses commits.certifies
          (commit_behind g.P.Platform g.L.Sink.written _ _ _ _ c.args.session g.met.P.Platform.counts_pages c.requires.open (λ e. (c.in-Ok.ensures.idle e).3) commits.synced) (λ going. going) (λ keys done. done);
      blame = record {
        fell = record { platform = commits.grows.platform_faults; tape = commits.grows.tape_faults; input = omega arith; output = omega arith; ledger = commits.grows.ledger_faults };
        quiet = commits.quiet;
        cause = tt;
      };
      synced = commits.synced;
      unput = tt;
      drew = reply_drew g.P.Platform g.T.Tape _ _ _ _ _ _ _ _ c.in-Ok.reply
          (λ e. let idle = c.in-Ok.ensures.idle e in (idle.0, idle.1, idle.2, idle.3, idle.4))
          (λ e few. let full = c.in-Ok.ensures.full e few in (full.0, full.1, full.2, full.3, full.4)) c.in-Ok.ensures.raised;
    }

pub returns-in-Err-clause-goes : goal.returns-in-Err-clause-goes
returns-in-Err-clause-goes g c =
    let commits = c.in-Err.ensures.commits in
    let before : Counts = counts (g.P.Platform.faults c.args.platform.now) (g.T.Tape.faults c.args.tape.now) 0 0 (g.L.Sink.faults c.args.ledger.now) in
    let now : Counts = counts (g.P.Platform.faults c.commit.new.platform) (g.T.Tape.faults c.commit.new.tape) 0 0 (g.L.Sink.faults c.commit.new.ledger) in record {
      back = tt;
      capacity = commits.grows.capacity;
      rises = commits.grows.rises;
      adds = commits.grows.at_most;
      unread = commits.unread;
      changes = λ told. subst (λ (s : DeviceStop). MayRiseBy (most_stopped s) (g.P.Platform.changes c.args.platform.now) (g.P.Platform.changes c.commit.new.platform)) (sym c.stop_of.ensures) (fault_changes c.in-Err.fault _ _ (commits.changes told));
      behind = commits.behind;
      keeps = on_commit {X = CommitReply} {Y = CommitFault} _ _ _ _ _ (Some c.args.session) c.args.session _ _ _ (Err c.in-Err.fault) _ _ _ refl c.requires.open (λ told. (c.requires.mounted told).cell) commits.discloses commits.certifies
          (commit_behind g.P.Platform g.L.Sink.written _ _ _ _ c.args.session g.met.P.Platform.counts_pages c.requires.open (λ e. (c.in-Err.ensures.idle e).3) commits.synced) (λ going. going) (λ keys done. done);
      blame = record {
        fell = record { platform = commits.grows.platform_faults; tape = commits.grows.tape_faults; input = omega arith; output = omega arith; ledger = commits.grows.ledger_faults };
        quiet = tt;
        cause = subst (λ (s : DeviceStop). HasCause before now s) (sym c.stop_of.ensures) (fault_blamed g.P.Platform g.T.Tape _ _ _ _ _ _ c.in-Err.fault before now commits.cause);
      };
      synced = commits.synced;
      unput = subst (λ (s : DeviceStop). LeavesLedger c.args.ledger.now c.commit.new.ledger s) (sym c.stop_of.ensures) (fault_unput g.P.Platform g.T.Tape _ _ _ _ _ _ c.in-Err.fault before now commits.cause);
      drew = tt;
    }

pub returns-in-Ok-clause-answers : goal.returns-in-Ok-clause-answers
returns-in-Ok-clause-answers g c =
    reply_answers g.P.Platform g.T.Tape _ _ _ _ _ _ _ _ c.in-Ok.reply c.requires.open c.in-Ok.ensures.commits.goes_on.0
    (λ e. let idle = c.in-Ok.ensures.idle e in (idle.0, idle.1, idle.2, idle.3, idle.4))
    (λ e few. let full = c.in-Ok.ensures.full e few in (full.0, full.1, full.2, full.3, full.4))
    c.in-Ok.ensures.raised

pub returns-in-Err-clause-answers : goal.returns-in-Err-clause-answers
returns-in-Err-clause-answers g c =
    let P = g.P.Platform in
    let touched : is_touched c.args.session ≡ true = elim (cases_Bool (is_touched c.args.session)) [ inl e ↦ e | inr e ↦ absurd (let no = (c.in-Err.ensures.idle e).5 in cc) ] in record {
      touched = touched;
      room = elim (cases_lt (P.capacity c.args.platform.now - P.head c.args.platform.now) (needed_by c.args.session)) [
        | inl few ↦ absurd (let no = (c.in-Err.ensures.full touched few).5 in cc)
        | inr many ↦ many
      ];
      left = subst (λ (s : DeviceStop). LeftAt P g.T.Tape c.args.platform.now c.commit.new.platform c.args.tape.now c.commit.new.tape s) (sym c.stop_of.ensures) (fault_left P g.T.Tape _ _ _ _ _ _ c.in-Err.fault _ _ c.in-Err.ensures.commits.cause);
    }

pub returns-in-Ok-clause-leads : goal.returns-in-Ok-clause-leads
returns-in-Ok-clause-leads g c told device array at =
    let P = g.P.Platform in
    let commits = c.in-Ok.ensures.commits in
    reply_leads _ _ c.args.session c.commit.new.self device array.contents array.touched c.in-Ok.reply (P.capacity c.args.platform.now - P.head c.args.platform.now) at.there.session.0 at.there.session.1
    (During-now _ _ IsServedImage (commits.discloses.serves told at.served))
    (λ e. let idle = c.in-Ok.ensures.idle e in (idle.0, idle.4))
    (λ e few. let full = c.in-Ok.ensures.full e few in (full.0, full.4))
    (λ e many. let raised = c.in-Ok.ensures.raised e many in (raised.replied, raised.untouched))
    (commits.array told device array.contents at.there.session.0)
    (commits.time told device array.contents at.there.session.0)

pub returns-in-Err-clause-leads : goal.returns-in-Err-clause-leads
returns-in-Err-clause-leads g c told device array at =
    let P = g.P.Platform in
    let commits = c.in-Err.ensures.commits in
    subst (λ (s : DeviceStop). CommitLeads (P.history c.args.platform.now) (P.history c.commit.new.platform) device array (Err s)) (sym c.stop_of.ensures)
    (fault_leads P g.T.Tape _ _ c.args.tape.now c.commit.new.tape c.in-Err.fault device array told (fault_left P g.T.Tape _ _ _ _ _ _ c.in-Err.fault _ _ commits.cause) at.there.device (commits.time told device array.contents at.there.session.0))
