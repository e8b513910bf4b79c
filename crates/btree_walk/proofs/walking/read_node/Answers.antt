use Rattle.std.proofs.Common.{◌≡◌, ap, Err}
use Rattle.std.proofs.lemmas.Result.{err_from_is_err_and}
use Rattle.page_store.specs.declared.refusals.FetchRefusal.TheVariants.{BadRecord}
use Rattle.btree_walk.proofs.NodeLaws.{refused_bad}
use Rattle.btree_walk.proofs.walking.read_node.Goals as goal

pub returns-in_err-fetch_node-clause-misfit : goal.returns-in_err-fetch_node-clause-misfit
returns-in_err-fetch_node-clause-misfit g c =
    let p = err_from_is_err_and c.from_residual.result c.from_residual.ensures.1 in
    rw (p.1, p.2) (λ tells addr is.
    let same : c.in_err-fetch_node.field-0.0 ≡ BadRecord addr = refused_bad c.in_err-fetch_node.field-0.0 addr cc in
    record { here = c.in_err-fetch_node.ensures.bad addr (ap Err same); nothing = c.in_err-fetch_node.ensures.nothing_fits tells addr (ap Err same) })
