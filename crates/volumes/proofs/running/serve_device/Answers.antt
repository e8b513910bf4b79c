use Rattle.std.proofs.Common.{ℕ, inl, refl, ◌∙◌, ap, Ok, arith}
use Rattle.volume_desk.specs.Drawing.{tally}
use Rattle.session_calls.proofs.SpanLaws.{spans_look, spans_mounted}
use Rattle.volumes.proofs.StartLaws.{found_fresh, found_full, found_none, found_room, found_served, idle_since, serves_since, silent_none, silent_stop, since_mount}
use Rattle.volumes.proofs.EndLaws.{damage_behind, looked_behind, looked_none, looked_stop}
use Rattle.volumes.proofs.running.serve_device.Goals as goal

pub returns-in-Ok-Some-clause-spans : goal.returns-in-Ok-Some-clause-spans
returns-in-Ok-Some-clause-spans g c =
    let looks = c.mount_session.ensures.looks in
    spans_mounted _ _ _ _ c.in-Ok-Some.session _ c.mount_session.result (c.in-Ok-Some.is ∙ ap Ok c.in-Ok-Some.field-0-is) looks.head looks.capacity (g.met.P.Platform.has_room c.serve_volumes.new.platform) looks.time
    (c.mount_session.ensures.keeps (g.T.Tape.drawn c.args.tape.now) (g.L.Sink.written c.args.ledger.now)) c.mount_session.ensures.leads c.serve_volumes.ensures.carries

pub returns-in-Ok-None-clause-spans : goal.returns-in-Ok-None-clause-spans
returns-in-Ok-None-clause-spans g c =
    let looks = c.mount_session.ensures.looks in
    spans_look _ _ _ _ refl refl looks.head looks.capacity (g.met.P.Platform.has_room c.mount_session.new.platform) looks.image looks.time

pub returns-in-Err-clause-spans : goal.returns-in-Err-clause-spans
returns-in-Err-clause-spans g c =
    let looks = c.mount_session.ensures.looks in
    spans_look _ _ _ _ refl refl looks.head looks.capacity (g.met.P.Platform.has_room c.mount_session.new.platform) looks.image looks.time

pub returns-in-Ok-Some-clause-serves : goal.returns-in-Ok-Some-clause-serves
returns-in-Ok-Some-clause-serves g c =
    let looks = c.mount_session.ensures.looks in
    serves_since g.P.Platform.tells _ _ _ _ _ _ _ _ _ _ _ _ _ looks.capacity (ap (λ (n : ℕ). tally (g.T.Tape.drawn c.args.tape.now) n) looks.head) looks.time looks.image (λ told. (c.mount_session.ensures.reads told).0.by_one) looks.changes
    (since_mount g.P.Platform c.args.platform.now c.mount_session.new.platform _ _ c.in-Ok-Some.session c.mount_session.result (c.in-Ok-Some.is ∙ ap Ok c.in-Ok-Some.field-0-is) refl refl refl refl looks c.mount_session.ensures.finds c.mount_session.ensures.leads)
    c.serve_volumes.ensures.serves

pub returns-in-Ok-None-clause-serves : goal.returns-in-Ok-None-clause-serves
returns-in-Ok-None-clause-serves g c = record { changes = c.mount_session.ensures.looks.changes; serves = inl (_, refl, silent_none _ _ _ _ _ (found_none g.P.Platform c.args.platform.now c.mount_session.new.platform c.mount_session.result (c.in-Ok-None.is ∙ ap Ok c.in-Ok-None.field-0-is) c.mount_session.ensures.finds) (λ told. (c.mount_session.ensures.reads told).0.by_one)) }

pub returns-in-Err-clause-serves : goal.returns-in-Err-clause-serves
returns-in-Err-clause-serves g c =
    record {
      serves = inl (_, refl, silent_stop _ _ _ c.in-Err.stop _ _ (λ told. g.met.P.Platform.counts_pages told c.args.platform.now) c.in-Err.ensures.stops c.mount_session.ensures.looks.time (λ told. (c.mount_session.ensures.reads told).0.by_one));
      changes = c.mount_session.ensures.looks.changes;
    }

pub returns-in-Ok-Some-clause-looked : goal.returns-in-Ok-Some-clause-looked
returns-in-Ok-Some-clause-looked g c =
    let is = c.in-Ok-Some.is ∙ ap Ok c.in-Ok-Some.field-0-is in
    looked_behind _ _ _ _ (λ told. found_served g.P.Platform c.args.platform.now c.mount_session.new.platform c.in-Ok-Some.session c.mount_session.result is told (g.met.P.Platform.counts_pages told c.args.platform.now) c.mount_session.ensures.looks c.mount_session.ensures.finds)
    (λ told. found_full g.P.Platform c.args.platform.now c.mount_session.new.platform c.in-Ok-Some.session c.mount_session.result is told c.mount_session.ensures.finds) c.serve_volumes.ensures.damage

pub returns-in-Ok-None-clause-looked : goal.returns-in-Ok-None-clause-looked
returns-in-Ok-None-clause-looked g c = looked_none _ _ (found_none g.P.Platform c.args.platform.now c.mount_session.new.platform c.mount_session.result (c.in-Ok-None.is ∙ ap Ok c.in-Ok-None.field-0-is) c.mount_session.ensures.finds)

pub returns-in-Err-clause-looked : goal.returns-in-Err-clause-looked
returns-in-Err-clause-looked g c = looked_stop _ _ _ c.in-Err.stop (λ told. g.met.P.Platform.counts_pages told c.args.platform.now) c.in-Err.ensures.stops

pub returns-in-Ok-Some-clause-damage : goal.returns-in-Ok-Some-clause-damage
returns-in-Ok-Some-clause-damage g c told = damage_behind _ c.serve_volumes.result (c.serve_volumes.ensures.damage told)

pub returns-in-Ok-Some-clause-idle : goal.returns-in-Ok-Some-clause-idle
returns-in-Ok-Some-clause-idle g c told =
    let looks = c.mount_session.ensures.looks in
    idle_since _ _ _ _ _ _ _ _ _ _ _ _ _ _ c.serve_volumes.result looks.head looks.time (c.serve_volumes.ensures.idle told)

pub serve_volumes-requires-clause-fresh : goal.serve_volumes-requires-clause-fresh
serve_volumes-requires-clause-fresh g c = found_fresh g.P.Platform c.args.platform.now c.mount_session.new.platform c.in-Ok-Some.session c.mount_session.result (c.in-Ok-Some.is ∙ ap Ok c.in-Ok-Some.field-0-is) c.mount_session.ensures.finds

pub serve_volumes-requires-clause-room : goal.serve_volumes-requires-clause-room
serve_volumes-requires-clause-room g c = found_room g.P.Platform _ _ _ c.in-Ok-Some.session c.mount_session.result (c.in-Ok-Some.is ∙ ap Ok c.in-Ok-Some.field-0-is) c.mount_session.ensures.finds
