use Rattle.std.proofs.Common.{sym, ap, ◌∙◌}
use Rattle.cert_checker.specs.Held.{children_held}
use Rattle.cert_checker.proofs.HeldLaws.{unfit_node}
use Rattle.cert_checker.proofs.nodes.first_unfit_of.Goals as goal

pub returns-in-Node : goal.returns-in-Node
returns-in-Node c = λ i. unfit_node c.args.live.now c.args.parents.now c.args.addrs.now c.args.gone.now i c.args.item.now c.deref.result.now c.first_unfit.result (c.deref.ensures.value ∙ ap children_held (sym c.in-Node.is)) c.first_unfit.ensures
