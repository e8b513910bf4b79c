use Rattle.std.proofs.Common.{inl, refl, ◌∙◌, ap, Ok, arith}
use Rattle.nbd_core.proofs.SpanLaws.{early_mount, fresh_found, room_found, silent_look, talks_mounted}
use Rattle.session_calls.proofs.SpanLaws.{spans_look, spans_mounted}
use Rattle.nbd_core.proofs.running.serve_device.Goals as goal

pub returns-in-Ok-Some-clause-spans : goal.returns-in-Ok-Some-clause-spans
returns-in-Ok-Some-clause-spans g c =
    let looks = c.mount_session.ensures.looks in
    spans_mounted _ _ _ _ c.in-Ok-Some.session _ c.mount_session.result (c.in-Ok-Some.is ∙ ap Ok c.in-Ok-Some.field-0-is) looks.head looks.capacity (g.met.P.Platform.has_room c.serve_client.new.platform) looks.time
    (c.mount_session.ensures.keeps (g.T.Tape.drawn c.args.tape.now) (g.L.Sink.written c.args.ledger.now)) c.mount_session.ensures.leads c.serve_client.ensures.carries

pub returns-in-Ok-Some-clause-talks : goal.returns-in-Ok-Some-clause-talks
returns-in-Ok-Some-clause-talks g c =
    let is = c.in-Ok-Some.is ∙ ap Ok c.in-Ok-Some.field-0-is in
    let looks = c.mount_session.ensures.looks in
    talks_mounted g.P.Platform g.T.Tape g.L.Sink _ _ _ _ _ _ c.in-Ok-Some.session c.mount_session.result _ _ _ _ _ is looks c.mount_session.ensures.finds c.mount_session.ensures.leads (λ told. (c.mount_session.ensures.reads told).0.by_one) _ c.serve_client.ensures.says

pub returns-in-Ok-None-clause-spans : goal.returns-in-Ok-None-clause-spans
returns-in-Ok-None-clause-spans g c =
    let looks = c.mount_session.ensures.looks in
    spans_look _ _ _ _ refl refl looks.head looks.capacity (g.met.P.Platform.has_room c.mount_session.new.platform) looks.image looks.time

pub returns-in-Err-clause-spans : goal.returns-in-Err-clause-spans
returns-in-Err-clause-spans g c =
    let looks = c.mount_session.ensures.looks in
    spans_look _ _ _ _ refl refl looks.head looks.capacity (g.met.P.Platform.has_room c.mount_session.new.platform) looks.image looks.time

pub returns-in-Ok-None-clause-talks : goal.returns-in-Ok-None-clause-talks
returns-in-Ok-None-clause-talks g c = inl (silent_look _ _ _ _ _ _ _ tt c.mount_session.ensures.looks.head (λ told. (c.mount_session.ensures.reads told).0.by_one) c.mount_session.ensures.looks.changes c.mount_session.ensures.looks.time)

pub returns-in-Err-clause-talks : goal.returns-in-Err-clause-talks
returns-in-Err-clause-talks g c = inl (silent_look _ _ _ _ _ _ _ (early_mount _ _ _ c.in-Err.stop _ c.in-Err.ensures.stops c.after_mount.ensures) c.mount_session.ensures.looks.head (λ told. (c.mount_session.ensures.reads told).0.by_one) c.mount_session.ensures.looks.changes c.mount_session.ensures.looks.time)

pub serve_client-requires-clause-fresh : goal.serve_client-requires-clause-fresh
serve_client-requires-clause-fresh g c = fresh_found g.P.Platform _ _ _ c.in-Ok-Some.session c.mount_session.result (c.in-Ok-Some.is ∙ ap Ok c.in-Ok-Some.field-0-is) c.mount_session.ensures.finds

pub serve_client-requires-clause-room : goal.serve_client-requires-clause-room
serve_client-requires-clause-room g c =
    let room = room_found g.P.Platform _ _ _ c.in-Ok-Some.session c.mount_session.result (c.in-Ok-Some.is ∙ ap Ok c.in-Ok-Some.field-0-is) c.mount_session.ensures.finds in
    (omega (arith, room), omega (arith, room))
