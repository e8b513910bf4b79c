use Rattle.std.proofs.Common.{◌≤◌, ◌∙◌, Some, Ok, Err, inl, refl, sym, ap, subst, arith}
use Rattle.platform.proofs.Moments.{During-now}
use Rattle.sdbt_base.specs.Arrays.{closed, new_device}
use Rattle.device_terms.specs.Served.{IsServedImage}
use Rattle.device_course.specs.States.{around}
use Rattle.device_course.proofs.FitsLaws.{behind_added}
use Rattle.device_course.proofs.MadeLaws.{shut}
use Rattle.device_session.specs.Reading.{room_of}
use Rattle.device_core.specs.declared.refusals.FormatRefusal.{FormatRefusal}
use Rattle.transfer.specs.Counts.{counts}
use Rattle.transfer.specs.Halts.{Blames}
use Rattle.transfer.specs.Running.{IsOfOpening}
use Rattle.transfer.specs.declared.halts.Halt.{Halt}
use Rattle.transfer.proofs.BlameLaws.{blames_done, blames_then, of_ledger, of_platform, to_quiet, to_stopped}
use Rattle.transfer.proofs.ChangesLaws.{changed_before, made_twice}
use Rattle.transfer.proofs.FormatLaws.{format_blamed, format_halt}
use Rattle.transfer.proofs.HaltLaws.{mount_to}
use Rattle.transfer.proofs.LookedLaws.{made_served}
use Rattle.transfer.proofs.OpenLaws.{format_not_root, made_found, formatted_found, formatted_stopped, is_made, unformatted}
use Rattle.transfer.proofs.ToLaws.{found_none, formatted_made, format_keeps, formatted_of, opens_formatted, opens_found, spans_formatted, spans_look, spans_unformatted}
use Rattle.transfer.proofs.MoveLaws.{at_mounted}
use Rattle.transfer.proofs.RefusalLaws.{format_opens_not, idle_found, made_opens_not, on_new, room_found}
use Rattle.transfer.proofs.opening.make_target.Goals as goal

pub returns-in-Ok-Some-clause-target : goal.returns-in-Ok-Some-clause-target
returns-in-Ok-Some-clause-target g c = record {
  opened = let format = c.format.ensures in
      opens_formatted _ _ _ _ (around g.Q.Platform g.T.Tape g.L.Sink c.format.new.platform c.format.new.tape c.format.new.ledger) _ c.in-Ok-Some.session
      (formatted_of {X = Unit {0}} FormatRefusal _ c.args.blocks c.args.order _ _ _ tt format.grows.0.capacity format.grows.0.rises format.discloses (λ told full. (format.kept told (inl full)).1) c.requires.empty c.in-Ok.ensures.certifies
      (behind_added g.Q.Platform g.L.Sink.written 1 c.args.to.now c.format.new.platform c.args.ledger.now c.format.new.ledger g.met.Q.Platform.counts_pages (omega arith) format.synced) (λ told. (c.in-Ok.ensures.made told).0) (λ told. (c.in-Ok.ensures.made told).1) format.time)
      (opens_found g.Q.Platform _ _ c.format.new.platform c.mount_session.new.platform _ _ c.in-Ok-Some.session c.mount_session.result (c.in-Ok-Some.is ∙ ap Ok c.in-Ok-Some.field-0-is) refl refl refl refl refl refl c.mount_session.ensures.looks
      c.mount_session.ensures.finds (c.mount_session.ensures.keeps _ _) c.mount_session.ensures.leads);
  stopped = tt;
  is_new = λ told is opened stands. is_made _ _ _ opened (c.mount_session.ensures.looks.image told) (c.in-Ok.ensures.made told).0 stands;
  none = tt;
  adds = let looks = c.mount_session.ensures.looks in
      (omega (arith, looks.head, c.in-Ok.ensures.cause.2), looks.capacity ∙ c.format.ensures.grows.0.capacity);
  blame = λ from output. let Q = g.Q.Platform in
      let T = g.T.Tape in
      let L = g.L.Sink in
      let before = counts from (Q.faults c.args.to.now) (T.faults c.args.tape.now) output (L.faults c.args.ledger.now) in
      let mid = counts from (Q.faults c.format.new.platform) (T.faults c.format.new.tape) output (L.faults c.format.new.ledger) in
      let now = counts from (Q.faults c.mount_session.new.platform) (T.faults c.format.new.tape) output (L.faults c.format.new.ledger) in
      blames_then before mid now _ (to_quiet _ _ before mid (of_ledger _ _ _ _ output _ _) refl c.in-Ok.ensures.cause.3) (blames_done mid now _ (to_quiet _ _ mid now (of_platform _ _ _ output _) refl c.in-Ok-Some.ensures.blame.quiet));
  stops = tt;
  idle = idle_found g.Q.Platform c.format.new.platform c.mount_session.new.platform c.in-Ok-Some.session c.mount_session.result (c.in-Ok-Some.is ∙ ap Ok c.in-Ok-Some.field-0-is) c.mount_session.ensures.finds;
  room = let room = room_found g.Q.Platform _ _ _ c.in-Ok-Some.session c.mount_session.result (c.in-Ok-Some.is ∙ ap Ok c.in-Ok-Some.field-0-is) c.mount_session.ensures.finds in
      let enough : 20 ≤ room_of c.in-Ok-Some.session = omega (arith, room) in
      enough;
  still = λ told never. absurd (never refl);
  on = λ told. (
    c.requires.empty told,
    on_new (g.Q.Platform.history c.mount_session.new.platform).present c.in-Ok-Some.session c.args.blocks c.args.order
        (idle_found g.Q.Platform c.format.new.platform c.mount_session.new.platform c.in-Ok-Some.session c.mount_session.result (c.in-Ok-Some.is ∙ ap Ok c.in-Ok-Some.field-0-is) c.mount_session.ensures.finds)
        (at_mounted (g.Q.Platform.history c.mount_session.new.platform).present c.in-Ok-Some.session _ c.mount_session.result (c.in-Ok-Some.is ∙ ap Ok c.in-Ok-Some.field-0-is)
        (c.mount_session.ensures.leads told (closed (Some (new_device c.args.blocks c.args.order))) (shut (g.Q.Platform.history c.format.new.platform).present _ (c.in-Ok.ensures.made told).0 (c.in-Ok.ensures.made told).1))),
  );
  opens_not = tt;
}

pub returns-in-Ok-None-clause-target : goal.returns-in-Ok-None-clause-target
returns-in-Ok-None-clause-target g c = record {
  opened = tt;
  stopped = let format = c.format.ensures in
      let looks = c.mount_session.ensures.looks in
      spans_formatted _ _ _ _ (around g.Q.Platform g.T.Tape g.L.Sink c.format.new.platform c.format.new.tape c.format.new.ledger) _ _
      (formatted_of {X = Unit {0}} FormatRefusal _ c.args.blocks c.args.order _ _ _ tt format.grows.0.capacity format.grows.0.rises format.discloses (λ told full. (format.kept told (inl full)).1) c.requires.empty c.in-Ok.ensures.certifies
      (behind_added g.Q.Platform g.L.Sink.written 1 c.args.to.now c.format.new.platform c.args.ledger.now c.format.new.ledger g.met.Q.Platform.counts_pages (omega arith) format.synced) (λ told. (c.in-Ok.ensures.made told).0) (λ told. (c.in-Ok.ensures.made told).1) format.time)
      (spans_look g.Q.Platform _ _ _ refl refl looks.head looks.capacity (g.met.Q.Platform.has_room c.mount_session.new.platform) looks.image looks.time);
  is_new = tt;
  none = λ told there stands served. let made = (formatted_made c.args.blocks c.args.order (g.Q.Platform.history c.args.to.now) (g.Q.Platform.history c.format.new.platform) there (c.requires.empty told) stands (c.in-Ok.ensures.made told).0 (c.in-Ok.ensures.made told).1 (c.format.ensures.time told there stands)).1 in
      absurd (formatted_found (g.Q.Platform.history c.mount_session.new.platform).present _ c.mount_session.result (c.in-Ok-None.is ∙ ap Ok c.in-Ok-None.field-0-is) (c.mount_session.ensures.leads told _ made.exits));
  adds = tt;
  blame = λ from output. let Q = g.Q.Platform in
      let T = g.T.Tape in
      let L = g.L.Sink in
      let before = counts from (Q.faults c.args.to.now) (T.faults c.args.tape.now) output (L.faults c.args.ledger.now) in
      let mid = counts from (Q.faults c.format.new.platform) (T.faults c.format.new.tape) output (L.faults c.format.new.ledger) in
      let now = counts from (Q.faults c.mount_session.new.platform) (T.faults c.format.new.tape) output (L.faults c.format.new.ledger) in
      let looked = c.in-Ok-None.ensures.blame in
      blames_then before mid now _ (to_quiet _ _ before mid (of_ledger _ _ _ _ output _ _) refl c.in-Ok.ensures.cause.3) (to_stopped _ _ mid now _ (of_platform _ _ _ output _) refl looked.fell looked.quiet);
  stops = tt;
  idle = tt;
  room = tt;
  still = tt;
  on = tt;
  opens_not = λ told. tt;
}

pub returns-in-Err-mount_session-clause-target : goal.returns-in-Err-mount_session-clause-target
returns-in-Err-mount_session-clause-target g c = record {
  opened = tt;
  stopped = let format = c.format.ensures in
      let looks = c.mount_session.ensures.looks in
      spans_formatted _ _ _ _ (around g.Q.Platform g.T.Tape g.L.Sink c.format.new.platform c.format.new.tape c.format.new.ledger) _ _
      (formatted_of {X = Unit {0}} FormatRefusal _ c.args.blocks c.args.order _ _ _ tt format.grows.0.capacity format.grows.0.rises format.discloses (λ told full. (format.kept told (inl full)).1) c.requires.empty c.in-Ok.ensures.certifies
      (behind_added g.Q.Platform g.L.Sink.written 1 c.args.to.now c.format.new.platform c.args.ledger.now c.format.new.ledger g.met.Q.Platform.counts_pages (omega arith) format.synced) (λ told. (c.in-Ok.ensures.made told).0) (λ told. (c.in-Ok.ensures.made told).1) format.time)
      (spans_look g.Q.Platform _ _ _ refl refl looks.head looks.capacity (g.met.Q.Platform.has_room c.mount_session.new.platform) looks.image looks.time);
  is_new = tt;
  none = λ told there stands served. formatted_stopped g.Q.Platform _ _ _ c.args.blocks c.args.order _ c.in-Err-mount_session.stop there
      (formatted_made c.args.blocks c.args.order (g.Q.Platform.history c.args.to.now) (g.Q.Platform.history c.format.new.platform) there (c.requires.empty told) stands (c.in-Ok.ensures.made told).0 (c.in-Ok.ensures.made told).1 (c.format.ensures.time told there stands)).1
      c.mount_session.ensures.looks c.in-Err-mount_session.ensures.leads told;
  adds = tt;
  blame = λ from output. let Q = g.Q.Platform in
      let T = g.T.Tape in
      let L = g.L.Sink in
      let before = counts from (Q.faults c.args.to.now) (T.faults c.args.tape.now) output (L.faults c.args.ledger.now) in
      let mid = counts from (Q.faults c.format.new.platform) (T.faults c.format.new.tape) output (L.faults c.format.new.ledger) in
      let now = counts from (Q.faults c.mount_session.new.platform) (T.faults c.format.new.tape) output (L.faults c.format.new.ledger) in
      let looked = c.in-Err-mount_session.ensures.blame in
      blames_then before mid now _ (to_quiet _ _ before mid (of_ledger _ _ _ _ output _ _) refl c.in-Ok.ensures.cause.3) (to_stopped _ _ mid now _ (of_platform _ _ _ output _) refl looked.fell looked.cause);
  stops = mount_to _ _ _ c.in-Err-mount_session.stop c.in-Err-mount_session.ensures.stops;
  idle = tt;
  room = tt;
  still = tt;
  on = tt;
  opens_not = λ told. made_opens_not (g.Q.Platform.history c.args.to.now).present _ c.in-Err-mount_session.stop (λ none. c.in-Ok.ensures.cause.1 (let within = g.met.Q.Platform.has_room c.args.to.now in omega (arith, none, within)));
}

pub returns-in-Err-clause-target : goal.returns-in-Err-clause-target
returns-in-Err-clause-target g c = record {
  opened = tt;
  stopped = let format = c.format.ensures in
      spans_unformatted _ c.args.blocks c.args.order _ _ (record { capacity = format.grows.0.capacity; rises = format.grows.0.rises; within = g.met.Q.Platform.has_room c.format.new.platform })
      (format_keeps {X = Unit {0}} {Y = FormatRefusal} _ _ _ _ _ _ _ _ (Err c.in-Err.refusal) _ _ format.discloses (λ told full. (format.kept told (inl full)).1) (λ told ok. absurd cc) c.in-Err.ensures.certifies
      (behind_added g.Q.Platform g.L.Sink.written 1 c.args.to.now c.format.new.platform c.args.ledger.now c.format.new.ledger g.met.Q.Platform.counts_pages (omega arith) format.synced) (λ never. absurd never) (λ told keys. tt))
      format.time;
  is_new = tt;
  none = λ told there stands served. rw c.halt_of.ensures (unformatted g.Q.Platform g.T.Tape _ _ _ _ _ _ c.in-Err.refusal c.args.blocks c.args.order there c.in-Err.ensures.cause told (c.requires.empty told) stands
      (During-now (g.Q.Platform.history c.args.to.now) (g.Q.Platform.history c.format.new.platform) IsServedImage (c.format.ensures.discloses.serves told served)) (c.format.ensures.time told there stands));
  adds = tt;
  blame = λ from output. let Q = g.Q.Platform in
      let T = g.T.Tape in
      let L = g.L.Sink in
      let before = counts from (Q.faults c.args.to.now) (T.faults c.args.tape.now) output (L.faults c.args.ledger.now) in
      let now = counts from (Q.faults c.format.new.platform) (T.faults c.format.new.tape) output (L.faults c.format.new.ledger) in
      let grows = c.format.ensures.grows in
      subst (λ (h : Halt). Blames before now (Err h)) (sym c.halt_of.ensures)
      (format_blamed Q T _ _ _ _ _ _ before now c.in-Err.refusal (of_ledger _ _ _ _ output _ _) refl (record { platform = grows.0.faults; tape = grows.1; input = omega arith; output = omega arith; ledger = grows.2 }) c.in-Err.ensures.cause);
  stops = subst IsOfOpening (sym c.halt_of.ensures) (format_halt c.in-Err.refusal);
  idle = tt;
  room = tt;
  still = tt;
  on = tt;
  opens_not = λ told. rw c.halt_of.ensures (format_opens_not g.Q.Platform g.T.Tape _ _ _ _ _ _ c.in-Err.refusal c.in-Err.ensures.cause told (c.requires.empty told) (g.met.Q.Platform.has_room c.args.to.now));
}

pub returns-in-Ok-Some-clause-there : goal.returns-in-Ok-Some-clause-there
returns-in-Ok-Some-clause-there g c told is = cc

pub returns-in-Ok-None-clause-there : goal.returns-in-Ok-None-clause-there
returns-in-Ok-None-clause-there g c told is =
    made_found (g.Q.Platform.history c.format.new.platform).present _ (c.in-Ok.ensures.made told).0 (found_none g.Q.Platform c.format.new.platform c.mount_session.new.platform c.mount_session.result (c.in-Ok-None.is ∙ ap Ok c.in-Ok-None.field-0-is) c.mount_session.ensures.finds told)

pub returns-in-Err-mount_session-clause-there : goal.returns-in-Err-mount_session-clause-there
returns-in-Err-mount_session-clause-there g c told is =
    made_served _ (g.Q.Platform.history c.format.new.platform).present (g.Q.Platform.head c.format.new.platform) c.in-Err-mount_session.stop told (g.met.Q.Platform.counts_pages told c.format.new.platform) (c.in-Ok.ensures.made told).1 c.in-Err-mount_session.ensures.stops
    cc

pub returns-in-Err-clause-there : goal.returns-in-Err-clause-there
returns-in-Err-clause-there g c told is = format_not_root c.in-Err.refusal c.halt_of.result c.halt_of.ensures cc

pub returns-in-Ok-Some-clause-looks : goal.returns-in-Ok-Some-clause-looks
returns-in-Ok-Some-clause-looks g c told =
    let one = (c.format.ensures.spends.0 told).0.by_one in
    let other = (c.mount_session.ensures.reads told).0.by_one in
    omega (arith, one, other)

pub returns-in-Ok-None-clause-looks : goal.returns-in-Ok-None-clause-looks
returns-in-Ok-None-clause-looks g c told =
    let one = (c.format.ensures.spends.0 told).0.by_one in
    let other = (c.mount_session.ensures.reads told).0.by_one in
    omega (arith, one, other)

pub returns-in-Err-mount_session-clause-looks : goal.returns-in-Err-mount_session-clause-looks
returns-in-Err-mount_session-clause-looks g c told =
    let one = (c.format.ensures.spends.0 told).0.by_one in
    let other = (c.mount_session.ensures.reads told).0.by_one in
    omega (arith, one, other)

pub returns-in-Err-clause-looks : goal.returns-in-Err-clause-looks
returns-in-Err-clause-looks g c told =
    let one = (c.format.ensures.spends.0 told).0.by_one in
    omega (arith, one)

pub returns-in-Ok-Some-clause-changes : goal.returns-in-Ok-Some-clause-changes
returns-in-Ok-Some-clause-changes g c told = changed_before 2 _ _ _ (c.mount_session.ensures.looks.changes told) (made_twice c.format.result _ _ (c.format.ensures.spends.0 told).2)

pub returns-in-Ok-None-clause-changes : goal.returns-in-Ok-None-clause-changes
returns-in-Ok-None-clause-changes g c told = changed_before 2 _ _ _ (c.mount_session.ensures.looks.changes told) (made_twice c.format.result _ _ (c.format.ensures.spends.0 told).2)

pub returns-in-Err-mount_session-clause-changes : goal.returns-in-Err-mount_session-clause-changes
returns-in-Err-mount_session-clause-changes g c told = changed_before 2 _ _ _ (c.mount_session.ensures.looks.changes told) (made_twice c.format.result _ _ (c.format.ensures.spends.0 told).2)

pub returns-in-Err-clause-changes : goal.returns-in-Err-clause-changes
returns-in-Err-clause-changes g c told = (made_twice c.format.result _ _ (c.format.ensures.spends.0 told).2)
