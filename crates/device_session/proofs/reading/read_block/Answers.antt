use Rattle.std.proofs.Common.{◌≡◌, ◌∙◌, refl, subst}
use Rattle.page_store.specs.declared.refusals.FetchRefusal.TheVariants.{BadRecord}
use Rattle.page_store.specs.declared.wants.Want.{Want}
use Rattle.page_store.specs.Places.{NothingFits}
use Rattle.std.proofs.Common.{Err, ap}
use Rattle.std.proofs.lemmas.Result.{err_from_is_err_and}
use Rattle.device_session.proofs.reading.read_block.Goals as goal

pub returns-in_err-fetch_block-clause-nothing_fits : goal.returns-in_err-fetch_block-clause-nothing_fits
returns-in_err-fetch_block-clause-nothing_fits g c =
    let p = err_from_is_err_and c.from_residual.result c.from_residual.ensures.1 in
    rw (p.1, p.2) (λ told addr is.
    let bad : c.in_err-fetch_block.field-0.0 ≡ BadRecord addr = cc in (
      c.in_err-fetch_block.ensures.bad addr (ap Err bad) ∙ ap (λ (w : Want). w.addr) c.of_block-want.ensures,
      subst (λ (w : Want). NothingFits (g.P.Platform.history c.args.platform.now).present.readable w c.args.entry.now.key) c.of_block-want.ensures (c.in_err-fetch_block.ensures.nothing_fits told addr (ap Err bad)),
    ))

pub returns-in_err-fetch_block-clause-left : goal.returns-in_err-fetch_block-clause-left
returns-in_err-fetch_block-clause-left g c =
    let p = err_from_is_err_and c.from_residual.result c.from_residual.ensures.1 in
    rw p.1 refl
