use Rattle.std.proofs.Common.{arith, inl, refl}
use Rattle.device_terms.proofs.MomentLaws.{one_look}
use Rattle.nbd_core.proofs.SpanLaws.{early_look, silent_look, spans_looked, talks_looked}
use Rattle.session_calls.proofs.SpanLaws.{spans_look}
use Rattle.nbd_core.specs.Changes.{tally}
use Rattle.nbd_core.proofs.running.run.Goals as goal

pub returns-in-Ok-None-clause-spans : goal.returns-in-Ok-None-clause-spans
returns-in-Ok-None-clause-spans g c =
    let e = c.check_cell.ensures.reads_cell in
    spans_look _ _ _ _ refl refl e.head e.capacity (g.met.P.Platform.has_room c.check_cell.new.platform) e.image (λ told. one_look _ _ (e.time told) (e.image told))

pub returns-in-Err-clause-spans : goal.returns-in-Err-clause-spans
returns-in-Err-clause-spans g c =
    let e = c.check_cell.ensures.reads_cell in
    spans_look _ _ _ _ refl refl e.head e.capacity (g.met.P.Platform.has_room c.check_cell.new.platform) e.image (λ told. one_look _ _ (e.time told) (e.image told))

pub returns-clause-spans : goal.returns-clause-spans
returns-clause-spans g c =
    let e = c.check_cell.ensures.reads_cell in
    spans_looked _ _ _ _ _ refl refl e.head e.capacity e.image (λ told. one_look _ _ (e.time told) (e.image told)) c.serve_device.ensures.spans

pub returns-clause-talks : goal.returns-clause-talks
returns-clause-talks g c =
    let e = c.check_cell.ensures.reads_cell in
    talks_looked _ (tally 1 (g.P.Platform.changes c.check_cell.new.platform) (g.P.Platform.changes c.serve_device.new.platform)) (g.P.Platform.changes c.args.platform.now) _ _ _ _ _ _ _ _ e.head e.capacity (λ told. (e.reads told).by_one) e.changes e.image (λ told. one_look _ _ (e.time told) (e.image told)) c.serve_device.ensures.talks

pub returns-in-Ok-None-clause-talks : goal.returns-in-Ok-None-clause-talks
returns-in-Ok-None-clause-talks g c =
    let e = c.check_cell.ensures.reads_cell in
    inl (silent_look _ _ _ _ _ _ _ tt e.head (λ told. omega (arith, (e.reads told).by_one)) e.changes (λ told. one_look _ _ (e.time told) (e.image told)))

pub returns-in-Err-clause-talks : goal.returns-in-Err-clause-talks
returns-in-Err-clause-talks g c =
    let e = c.check_cell.ensures.reads_cell in
    inl (silent_look _ _ _ _ _ _ _ (early_look c.in-Err.stop _ c.in-Err.ensures.stops c.after_look.ensures) e.head (λ told. omega (arith, (e.reads told).by_one)) e.changes (λ told. one_look _ _ (e.time told) (e.image told)))
