use Rattle.std.proofs.Common.{ℕ, ap, sym, subst}
use Rattle.key_graph.specs.Opening.{IsNodeKind}
use Rattle.seizure.specs.declared.opened.Opened.{Opened}
use Rattle.seizure.proofs.WorkLaws.{gains_no_node}
use Rattle.seizure.proofs.work.Work.note.Goals as goal

pub returns-in-None-clause-keys : goal.returns-in-None-clause-keys
returns-in-None-clause-keys c =
    let kind = ap (λ (o : Opened). o.kind) c.told-told.ensures in
    gains_no_node c.args.self.now.keys c.args.body.now (λ size node. c.in-None.ensures.other size (subst (λ (k : ℕ). IsNodeKind k size) (sym kind) node))
