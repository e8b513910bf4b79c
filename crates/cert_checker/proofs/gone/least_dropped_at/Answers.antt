use Rattle.cert_checker.specs.declared.held.Held.TheVariants.{Node}
use Rattle.cert_checker.proofs.GoneLaws.{dropped_at}
use Rattle.cert_checker.proofs.gone.least_dropped_at.Goals as goal

pub returns-in-Some-Node : goal.returns-in-Some-Node
returns-in-Some-Node c =
    dropped_at c.args.found c.least_dropped.result c.args.live.now c.args.gone.now c.args.taken.now c.args.addr (Node c.in-Some-Node.children) c.deref.result.now
    (rw c.in-Some-Node.field-0-is at c.in-Some-Node.ensures.value) c.deref.ensures.value c.least_dropped.ensures
