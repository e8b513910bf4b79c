use Rattle.std.proofs.Common.{◌≡◌, ◌≤◌, ◌+◌, ◌∙◌, Ok, refl, ap, arith}
use Rattle.std.proofs.lemmas.Result.{IfOk-weaker}
use Rattle.sdbt_base.proofs.RiseLaws.{counted_not}
use Rattle.platform.specs.Image.{Image}
use Rattle.device_session.specs.Reading.{room_of}
use Rattle.transfer.specs.Counts.{counts}
use Rattle.transfer.specs.declared.opening.Target.{Target}
use Rattle.transfer.proofs.ChangesLaws.{changed_behind}
use Rattle.transfer.proofs.BlameLaws.{blames_done, blames_then, of_platform, to_quiet, to_stopped}
use Rattle.transfer.proofs.HaltLaws.{mount_to}
use Rattle.transfer.proofs.LookedLaws.{there_found, there_none, there_stop}
use Rattle.transfer.proofs.OpenLaws.{mount_stopped, nones_behind}
use Rattle.transfer.proofs.ToLaws.{found_none, opens_behind, opens_found, spans_behind, spans_look}
use Rattle.transfer.proofs.RefusalLaws.{idle_found, mount_opens_not, not_behind, on_behind, on_found, room_found, still_behind}
use Rattle.transfer.proofs.opening.open_target.Goals as goal

pub returns-in-Ok-Some-clause-target : goal.returns-in-Ok-Some-clause-target
returns-in-Ok-Some-clause-target g c = record {
  opened = opens_found g.Q.Platform _ _ c.args.to.now c.mount_session.new.platform _ _ c.in-Ok-Some.session c.mount_session.result (c.in-Ok-Some.is ∙ ap Ok c.in-Ok-Some.field-0-is) refl refl refl refl refl refl c.mount_session.ensures.looks
      c.mount_session.ensures.finds (c.mount_session.ensures.keeps _ _) c.mount_session.ensures.leads;
  stopped = tt;
  is_new = λ told is opened stands. absurd cc;
  none = tt;
  adds = let looks = c.mount_session.ensures.looks in
      (omega (arith, looks.head), looks.capacity);
  blame = λ from output. let Q = g.Q.Platform in
      let before = counts from (Q.faults c.args.to.now) (g.T.Tape.faults c.args.tape.now) output (g.L.Sink.faults c.args.ledger.now) in
      let now = counts from (Q.faults c.mount_session.new.platform) (g.T.Tape.faults c.args.tape.now) output (g.L.Sink.faults c.args.ledger.now) in
      blames_done before now _ (to_quiet _ _ before now (of_platform _ _ _ output _) refl c.in-Ok-Some.ensures.blame.quiet);
  stops = tt;
  idle = idle_found g.Q.Platform c.args.to.now c.mount_session.new.platform c.in-Ok-Some.session c.mount_session.result (c.in-Ok-Some.is ∙ ap Ok c.in-Ok-Some.field-0-is) c.mount_session.ensures.finds;
  room = let room = room_found g.Q.Platform _ _ _ c.in-Ok-Some.session c.mount_session.result (c.in-Ok-Some.is ∙ ap Ok c.in-Ok-Some.field-0-is) c.mount_session.ensures.finds in
      let enough : 20 ≤ room_of c.in-Ok-Some.session = omega (arith, room) in
      enough;
  still = λ told never. c.mount_session.ensures.looks.image told;
  on = on_found g.Q.Platform c.args.to.now c.mount_session.new.platform c.in-Ok-Some.session c.mount_session.result (c.in-Ok-Some.is ∙ ap Ok c.in-Ok-Some.field-0-is) c.mount_session.ensures.finds;
  opens_not = tt;
}

pub returns-in-Ok-None-clause-target : goal.returns-in-Ok-None-clause-target
returns-in-Ok-None-clause-target g c = record {
  opened = let looks = c.mount_session.ensures.looks in
      opens_behind _ _ _ _ _ _ (λ (t : Target). t.session) c.make_target.result (record { image = looks.image; time = looks.time; head = looks.head; capacity = looks.capacity; drawn = refl; written = refl }) c.make_target.ensures.target.opened;
  stopped = let looks = c.mount_session.ensures.looks in
      spans_behind _ _ _ _ _ c.make_target.result (record { image = looks.image; time = looks.time; head = looks.head; capacity = looks.capacity; drawn = refl; written = refl }) c.make_target.ensures.target.stopped;
  is_new = c.make_target.ensures.target.is_new;
  none = nones_behind g.Q.Platform _ _ _ _ _ c.make_target.result c.mount_session.ensures.looks c.make_target.ensures.target.none;
  adds = let looks = c.mount_session.ensures.looks in
      let Q = g.Q.Platform in
      IfOk-weaker c.make_target.result (λ target. (Q.head c.make_target.new.to ≤ Q.head c.mount_session.new.platform + 1) × (Q.capacity c.make_target.new.to ≡ Q.capacity c.mount_session.new.platform))
      (λ target. (Q.head c.make_target.new.to ≤ Q.head c.args.to.now + 1) × (Q.capacity c.make_target.new.to ≡ Q.capacity c.args.to.now)) (λ target adds. (omega (arith, looks.head, adds.0), adds.1 ∙ looks.capacity)) c.make_target.ensures.target.adds;
  blame = λ from output. let Q = g.Q.Platform in
      let before = counts from (Q.faults c.args.to.now) (g.T.Tape.faults c.args.tape.now) output (g.L.Sink.faults c.args.ledger.now) in
      let mid = counts from (Q.faults c.mount_session.new.platform) (g.T.Tape.faults c.args.tape.now) output (g.L.Sink.faults c.args.ledger.now) in
      blames_then _ _ _ _ (to_quiet _ _ before mid (of_platform _ _ _ output _) refl c.in-Ok-None.ensures.blame.quiet) (c.make_target.ensures.target.blame from output);
  stops = c.make_target.ensures.target.stops;
  idle = c.make_target.ensures.target.idle;
  room = c.make_target.ensures.target.room;
  still = still_behind _ _ _ _ (λ (t : Target). t.is_new) c.make_target.result c.mount_session.ensures.looks.image c.make_target.ensures.target.still;
  on = on_behind _ _ _ c.args.blocks c.args.order (λ (t : Target). t.session) (λ (t : Target). t.is_new) c.make_target.result c.mount_session.ensures.looks.image c.make_target.ensures.target.on;
  opens_not = let looks = c.mount_session.ensures.looks in
      not_behind _ _ _ _ _ c.make_target.result looks.image (omega (arith, looks.head, looks.capacity)) c.make_target.ensures.target.opens_not;
}

pub returns-in-Err-clause-target : goal.returns-in-Err-clause-target
returns-in-Err-clause-target g c = record {
  opened = tt;
  stopped = let looks = c.mount_session.ensures.looks in
      spans_look g.Q.Platform _ _ _ refl refl looks.head looks.capacity (g.met.Q.Platform.has_room c.mount_session.new.platform) looks.image looks.time;
  is_new = tt;
  none = λ told there stands served. mount_stopped g.Q.Platform _ _ c.args.blocks c.args.order _ c.in-Err.stop there c.mount_session.ensures.looks c.in-Err.ensures.leads told stands served;
  adds = tt;
  blame = λ from output. let Q = g.Q.Platform in
      let before = counts from (Q.faults c.args.to.now) (g.T.Tape.faults c.args.tape.now) output (g.L.Sink.faults c.args.ledger.now) in
      let now = counts from (Q.faults c.mount_session.new.platform) (g.T.Tape.faults c.args.tape.now) output (g.L.Sink.faults c.args.ledger.now) in
      to_stopped _ _ before now c.in-Err.stop (of_platform _ _ _ output _) refl c.in-Err.ensures.blame.fell c.in-Err.ensures.blame.cause;
  stops = mount_to _ _ _ c.in-Err.stop c.in-Err.ensures.stops;
  idle = tt;
  room = tt;
  still = tt;
  on = tt;
  opens_not = λ told. mount_opens_not g.Q.Platform.tells (g.Q.Platform.history c.args.to.now).present _ _ c.in-Err.stop told c.in-Err.ensures.stops;
}

pub make_target-requires-clause-empty : goal.make_target-requires-clause-empty
make_target-requires-clause-empty g c = λ told. ap (λ (image : Image). image.cell) (c.mount_session.ensures.looks.image told) ∙ found_none g.Q.Platform c.args.to.now c.mount_session.new.platform c.mount_session.result (c.in-Ok-None.is ∙ ap Ok c.in-Ok-None.field-0-is) c.mount_session.ensures.finds told

pub returns-in-Ok-Some-clause-there : goal.returns-in-Ok-Some-clause-there
returns-in-Ok-Some-clause-there g c =
    there_found g.Q.Platform c.args.to.now c.mount_session.new.platform c.in-Ok-Some.session c.mount_session.result _ (c.in-Ok-Some.is ∙ ap Ok c.in-Ok-Some.field-0-is) (λ told. g.met.Q.Platform.counts_pages told c.args.to.now) c.mount_session.ensures.looks c.mount_session.ensures.finds

pub returns-in-Ok-None-clause-there : goal.returns-in-Ok-None-clause-there
returns-in-Ok-None-clause-there g c =
    there_none _ _ c.make_target.result (found_none g.Q.Platform c.args.to.now c.mount_session.new.platform c.mount_session.result (c.in-Ok-None.is ∙ ap Ok c.in-Ok-None.field-0-is) c.mount_session.ensures.finds) c.make_target.ensures.there

pub returns-in-Err-clause-there : goal.returns-in-Err-clause-there
returns-in-Err-clause-there g c = there_stop _ _ _ c.in-Err.stop (λ told. g.met.Q.Platform.counts_pages told c.args.to.now) c.in-Err.ensures.stops

pub returns-in-Ok-Some-clause-looks : goal.returns-in-Ok-Some-clause-looks
returns-in-Ok-Some-clause-looks g c told =
    let once = (c.mount_session.ensures.reads told).0.by_one in
    (omega (arith, once), λ full. once)

pub returns-in-Ok-None-clause-looks : goal.returns-in-Ok-None-clause-looks
returns-in-Ok-None-clause-looks g c told =
    let once = (c.mount_session.ensures.reads told).0.by_one in
    let twice = c.make_target.ensures.looks told in (
      omega (arith, once, twice),
      λ full. absurd (full (found_none g.Q.Platform c.args.to.now c.mount_session.new.platform c.mount_session.result (c.in-Ok-None.is ∙ ap Ok c.in-Ok-None.field-0-is) c.mount_session.ensures.finds told)),
    )

pub returns-in-Err-clause-looks : goal.returns-in-Err-clause-looks
returns-in-Err-clause-looks g c told =
    let once = (c.mount_session.ensures.reads told).0.by_one in
    (omega (arith, once), λ full. once)

pub returns-in-Ok-Some-clause-changes : goal.returns-in-Ok-Some-clause-changes
returns-in-Ok-Some-clause-changes g c told =
    let same = c.mount_session.ensures.looks.changes told in
    (counted_not 2 _ _ same, λ full. same)

pub returns-in-Ok-None-clause-changes : goal.returns-in-Ok-None-clause-changes
returns-in-Ok-None-clause-changes g c told = (
  changed_behind 2 _ _ _ (c.mount_session.ensures.looks.changes told) (c.make_target.ensures.changes told),
  λ full. absurd (full (found_none g.Q.Platform c.args.to.now c.mount_session.new.platform c.mount_session.result (c.in-Ok-None.is ∙ ap Ok c.in-Ok-None.field-0-is) c.mount_session.ensures.finds told)),
)

pub returns-in-Err-clause-changes : goal.returns-in-Err-clause-changes
returns-in-Err-clause-changes g c told =
    let same = c.mount_session.ensures.looks.changes told in
    (counted_not 2 _ _ same, λ full. same)
