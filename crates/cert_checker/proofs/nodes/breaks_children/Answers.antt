use Rattle.std.proofs.Common.{ap, ◌∙◌}
use Rattle.cert_checker.specs.Held.{traced_all}
use Rattle.cert_checker.proofs.NodeLaws.{addrs_ascend, tells_children}
use Rattle.cert_checker.proofs.nodes.breaks_children.Goals as goal

pub first_unfit_of_all-requires-clause-addrs : goal.first_unfit_of_all-requires-clause-addrs
first_unfit_of_all-requires-clause-addrs c = addrs_ascend c.args.cert.now c.deref.result.now (c.deref.ensures.value ∙ c.requires.of.addrs) c.requires.fresh

pub returns : goal.returns
returns c = λ former stands goes.
    tells_children c.args.live.now c.args.last former c.args.cert.now c.deref-3.result.now c.deref.result.now c.deref-2.result.now c.first_unfit_of_all.result stands goes
    (ap traced_all c.deref-3.ensures.value ∙ c.requires.of.added) (c.deref.ensures.value ∙ c.requires.of.addrs) (c.deref-2.ensures.value ∙ c.requires.of.gone) c.requires.fresh
    c.first_unfit_of_all.ensures
