use Rattle.std.proofs.Common.{◌≤◌, ◌∙◌, Ok, refl, ap, arith}
use Rattle.device_session.specs.Reading.{room_of}
use Rattle.sdbt_base.specs.Arrays.{closed}
use Rattle.std.proofs.Common.{Some}
use Rattle.device_course.proofs.MadeLaws.{made_kept, shut}
use Rattle.transfer.specs.Counts.{counts}
use Rattle.transfer.proofs.BlameLaws.{blames_halt, blames_then, from_quiet, from_stopped, of_platform}
use Rattle.transfer.proofs.ChangesLaws.{changes_looked, changes_stopped}
use Rattle.transfer.proofs.FromLaws.{clears_look, clears_mounted, ready_found}
use Rattle.transfer.proofs.LookedLaws.{looked_found, looked_none, looked_stop, there_before, told_found, there_no_device}
use Rattle.transfer.specs.Running.{HasSome}
use Rattle.transfer.proofs.HaltLaws.{mount_from}
use Rattle.transfer.proofs.MoveLaws.{at_mounted, moves_behind, moves_stopped}
use Rattle.transfer.proofs.OpenLaws.{formatted_found, mount_sound}
use Rattle.transfer.proofs.ToLaws.{found_none, spans_not}
use Rattle.transfer.proofs.RefusalLaws.{idle_found, refusing_behind, refusing_from, refusing_none, room_found}
use Rattle.transfer.proofs.running.move_device.Goals as goal
use Rattle.transfer.proofs.ReadsLaws.{few_behind, few_stopped}
use Rattle.transfer.proofs.WholeLaws.{whole_found, whole_looked}

pub move_session-requires : goal.move_session-requires
move_session-requires g c =
    let room = room_found g.P.Platform _ _ _ c.in-Ok-Some.source c.mount_session.result (c.in-Ok-Some.is ∙ ap Ok c.in-Ok-Some.field-0-is) c.mount_session.ensures.finds in
    let enough : 20 ≤ room_of c.in-Ok-Some.source = omega (arith, room) in
    record {
      ready = (
        ready_found g.P.Platform c.args.from.now c.mount_session.new.platform c.in-Ok-Some.source c.mount_session.result (c.in-Ok-Some.is ∙ ap Ok c.in-Ok-Some.field-0-is) c.mount_session.ensures.finds,
        enough,
        (idle_found g.P.Platform c.args.from.now c.mount_session.new.platform c.in-Ok-Some.source c.mount_session.result (c.in-Ok-Some.is ∙ ap Ok c.in-Ok-Some.field-0-is) c.mount_session.ensures.finds).untouched,
      );
    }

pub returns-in-Ok-Some-clause-from : goal.returns-in-Ok-Some-clause-from
returns-in-Ok-Some-clause-from g c =
    clears_mounted g.P.Platform c.args.from.now c.mount_session.new.platform c.move_session.new.from c.in-Ok-Some.source _ c.mount_session.result (c.in-Ok-Some.is ∙ ap Ok c.in-Ok-Some.field-0-is) c.mount_session.ensures.looks
    (c.mount_session.ensures.keeps _ _) c.mount_session.ensures.leads c.move_session.ensures.from

pub returns-in-Ok-None-clause-from : goal.returns-in-Ok-None-clause-from
returns-in-Ok-None-clause-from g c = clears_look g.P.Platform c.args.from.now c.mount_session.new.platform _ (λ done. cc) c.mount_session.ensures.looks

pub returns-in-Err-clause-from : goal.returns-in-Err-clause-from
returns-in-Err-clause-from g c = clears_look g.P.Platform c.args.from.now c.mount_session.new.platform _ (λ done. cc) c.mount_session.ensures.looks

pub returns-in-Ok-None-clause-to : goal.returns-in-Ok-None-clause-to
returns-in-Ok-None-clause-to g c = spans_not g.Q.Platform _ _ (g.met.Q.Platform.has_room c.args.to.now)

pub returns-in-Err-clause-to : goal.returns-in-Err-clause-to
returns-in-Err-clause-to g c = spans_not g.Q.Platform _ _ (g.met.Q.Platform.has_room c.args.to.now)

pub returns-in-Ok-Some-clause-blame : goal.returns-in-Ok-Some-clause-blame
returns-in-Ok-Some-clause-blame g c output =
    let P = g.P.Platform in
    let before = counts (P.faults c.args.from.now) (g.Q.Platform.faults c.args.to.now) (g.T.Tape.faults c.args.tape.now) output (g.L.Sink.faults c.args.ledger.now) in
    let mid = counts (P.faults c.mount_session.new.platform) (g.Q.Platform.faults c.args.to.now) (g.T.Tape.faults c.args.tape.now) output (g.L.Sink.faults c.args.ledger.now) in
    blames_then _ _ _ _ (from_quiet _ _ before mid (of_platform _ _ _ output _) refl c.in-Ok-Some.ensures.blame.quiet) (c.move_session.ensures.blame output)

pub returns-in-Ok-None-clause-blame : goal.returns-in-Ok-None-clause-blame
returns-in-Ok-None-clause-blame g c output =
    let P = g.P.Platform in
    let before = counts (P.faults c.args.from.now) (g.Q.Platform.faults c.args.to.now) (g.T.Tape.faults c.args.tape.now) output (g.L.Sink.faults c.args.ledger.now) in
    let now = counts (P.faults c.mount_session.new.platform) (g.Q.Platform.faults c.args.to.now) (g.T.Tape.faults c.args.tape.now) output (g.L.Sink.faults c.args.ledger.now) in
    let same = from_quiet _ _ before now (of_platform _ _ _ output _) refl c.in-Ok-None.ensures.blame.quiet in
    blames_halt before now _ same same

pub returns-in-Err-clause-blame : goal.returns-in-Err-clause-blame
returns-in-Err-clause-blame g c output =
    let P = g.P.Platform in
    let before = counts (P.faults c.args.from.now) (g.Q.Platform.faults c.args.to.now) (g.T.Tape.faults c.args.tape.now) output (g.L.Sink.faults c.args.ledger.now) in
    let now = counts (P.faults c.mount_session.new.platform) (g.Q.Platform.faults c.args.to.now) (g.T.Tape.faults c.args.tape.now) output (g.L.Sink.faults c.args.ledger.now) in
    from_stopped _ _ before now c.in-Err.stop (of_platform _ _ _ output _) refl c.in-Err.ensures.blame.fell c.in-Err.ensures.blame.cause

pub returns-in-Err-clause-wrong : goal.returns-in-Err-clause-wrong
returns-in-Err-clause-wrong g c = mount_from g.P.Platform.tells g.Q.Platform.tells (HasSome (g.Q.Platform.history c.args.to.now).present) ⊥ (g.P.Platform.history c.mount_session.new.platform).present (g.Q.Platform.history c.args.to.now).present _ _ _ c.in-Err.stop c.in-Err.ensures.stops

pub returns-in-Ok-Some-clause-looked : goal.returns-in-Ok-Some-clause-looked
returns-in-Ok-Some-clause-looked g c =
    looked_found g.P.Platform c.args.from.now c.mount_session.new.platform c.in-Ok-Some.source c.mount_session.result c.move_session.result (c.in-Ok-Some.is ∙ ap Ok c.in-Ok-Some.field-0-is) (λ told. g.met.P.Platform.counts_pages told c.args.from.now) c.mount_session.ensures.looks
    c.mount_session.ensures.finds c.move_session.ensures.behind

pub returns-in-Ok-None-clause-looked : goal.returns-in-Ok-None-clause-looked
returns-in-Ok-None-clause-looked g c = looked_none g.P.Platform c.args.from.now c.mount_session.new.platform c.mount_session.result (c.in-Ok-None.is ∙ ap Ok c.in-Ok-None.field-0-is) c.mount_session.ensures.finds

pub returns-in-Err-clause-looked : goal.returns-in-Err-clause-looked
returns-in-Err-clause-looked g c = looked_stop _ _ _ c.in-Err.stop (λ told. g.met.P.Platform.counts_pages told c.args.from.now) c.in-Err.ensures.stops

pub returns-in-Ok-Some-clause-leads : goal.returns-in-Ok-Some-clause-leads
returns-in-Ok-Some-clause-leads g c from_told to_told device there stands served stands_to served_to =
    moves_behind _ _ _ _ _ device there _ c.move_session.result
    (made_kept (g.P.Platform.history c.args.from.now) (g.P.Platform.history c.mount_session.new.platform) device stands served (c.mount_session.ensures.looks.time from_told))
    (c.move_session.ensures.leads from_told to_told device there
    (at_mounted (g.P.Platform.history c.mount_session.new.platform).present c.in-Ok-Some.source device c.mount_session.result (c.in-Ok-Some.is ∙ ap Ok c.in-Ok-Some.field-0-is)
    (c.mount_session.ensures.leads from_told (closed (Some device)) (shut (g.P.Platform.history c.args.from.now).present (Some device) stands served)))
    stands_to served_to)

pub returns-in-Ok-None-clause-leads : goal.returns-in-Ok-None-clause-leads
returns-in-Ok-None-clause-leads g c from_told to_told device there stands served stands_to served_to =
    absurd (formatted_found (g.P.Platform.history c.mount_session.new.platform).present device c.mount_session.result (c.in-Ok-None.is ∙ ap Ok c.in-Ok-None.field-0-is)
    (c.mount_session.ensures.leads from_told (closed (Some device)) (shut (g.P.Platform.history c.args.from.now).present (Some device) stands served)))

pub returns-in-Err-clause-leads : goal.returns-in-Err-clause-leads
returns-in-Err-clause-leads g c from_told to_told device there stands served stands_to served_to =
    moves_stopped _ _ (g.Q.Platform.history c.args.to.now) device there _ c.in-Err.stop
    (made_kept (g.P.Platform.history c.args.from.now) (g.P.Platform.history c.mount_session.new.platform) device stands served (c.mount_session.ensures.looks.time from_told))
    (mount_sound (g.P.Platform.history c.mount_session.new.platform).present (closed (Some device)) c.in-Err.stop (c.in-Err.ensures.leads from_told (closed (Some device)) (shut (g.P.Platform.history c.args.from.now).present (Some device) stands served)))
    stands_to served_to

pub returns-in-Ok-Some-clause-told : goal.returns-in-Ok-Some-clause-told
returns-in-Ok-Some-clause-told g c =
    told_found g.P.Platform c.args.from.now c.mount_session.new.platform c.in-Ok-Some.source c.mount_session.result c.move_session.result _ (c.in-Ok-Some.is ∙ ap Ok c.in-Ok-Some.field-0-is) c.mount_session.ensures.finds c.move_session.ensures.told

pub returns-in-Ok-None-clause-there : goal.returns-in-Ok-None-clause-there
returns-in-Ok-None-clause-there g c = (there_no_device _ _, few_stopped g.P.Platform g.Q.Platform c.args.from.now c.mount_session.new.platform c.args.to.now (λ told. (c.mount_session.ensures.reads told).0.by_one), changes_stopped g.P.Platform g.Q.Platform _ c.args.from.now c.mount_session.new.platform c.args.to.now c.mount_session.ensures.looks)

pub returns-in-Err-clause-there : goal.returns-in-Err-clause-there
returns-in-Err-clause-there g c = (there_before _ _ c.in-Err.stop, few_stopped g.P.Platform g.Q.Platform c.args.from.now c.mount_session.new.platform c.args.to.now (λ told. (c.mount_session.ensures.reads told).0.by_one), changes_stopped g.P.Platform g.Q.Platform _ c.args.from.now c.mount_session.new.platform c.args.to.now c.mount_session.ensures.looks)

pub returns-in-Ok-Some-clause-refused : goal.returns-in-Ok-Some-clause-refused
returns-in-Ok-Some-clause-refused g c = refusing_behind _ _ _ _ _ _ c.move_session.result c.mount_session.ensures.looks.image c.move_session.ensures.refused

pub returns-in-Ok-None-clause-refused : goal.returns-in-Ok-None-clause-refused
returns-in-Ok-None-clause-refused g c =
    refusing_none _ _ _ _ _ (found_none g.P.Platform c.args.from.now c.mount_session.new.platform c.mount_session.result (c.in-Ok-None.is ∙ ap Ok c.in-Ok-None.field-0-is) c.mount_session.ensures.finds)

pub returns-in-Err-clause-refused : goal.returns-in-Err-clause-refused
returns-in-Err-clause-refused g c = refusing_from _ _ _ _ _ c.in-Err.stop

pub returns-in-Ok-Some-clause-whole : goal.returns-in-Ok-Some-clause-whole
returns-in-Ok-Some-clause-whole g c =
    whole_found g.Q.Platform.tells g.P.Platform c.args.from.now c.mount_session.new.platform c.move_session.new.from (g.Q.Platform.history c.args.to.now) (g.Q.Platform.history c.move_session.new.to) c.in-Ok-Some.source c.mount_session.result c.move_session.result (c.in-Ok-Some.is ∙ ap Ok c.in-Ok-Some.field-0-is) c.mount_session.ensures.looks c.mount_session.ensures.finds c.move_session.ensures.moves

pub returns-in-Ok-None-clause-whole : goal.returns-in-Ok-None-clause-whole
returns-in-Ok-None-clause-whole g c = whole_looked g.Q.Platform.tells g.P.Platform c.args.from.now c.mount_session.new.platform _ _ _ c.mount_session.ensures.looks

pub returns-in-Err-clause-whole : goal.returns-in-Err-clause-whole
returns-in-Err-clause-whole g c = whole_looked g.Q.Platform.tells g.P.Platform c.args.from.now c.mount_session.new.platform _ _ _ c.mount_session.ensures.looks

pub returns-in-Ok-Some-clause-there : goal.returns-in-Ok-Some-clause-there
returns-in-Ok-Some-clause-there g c = (
  c.move_session.ensures.there.0,
  few_behind g.P.Platform g.Q.Platform c.args.from.now c.mount_session.new.platform c.move_session.new.from c.args.to.now c.move_session.new.to c.mount_session.ensures.looks (λ told. (c.mount_session.ensures.reads told).0.by_one) c.move_session.ensures.there.1,
  changes_looked g.P.Platform g.Q.Platform _ c.args.from.now c.mount_session.new.platform c.move_session.new.from c.args.to.now c.move_session.new.to c.mount_session.ensures.looks c.move_session.ensures.there.2,
)
