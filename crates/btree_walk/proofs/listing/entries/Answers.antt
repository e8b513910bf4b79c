use Rattle.std.proofs.Common.{subst}
use Rattle.page_store.specs.declared.wants.Want.{Want}
use Rattle.btree_walk.specs.Nodes.{listed, CutShort}
use Rattle.btree_walk.proofs.NodeLaws.{lists_met, on_error}
use Rattle.btree_walk.proofs.listing.entries.Goals as goal

pub returns-clause-listed : goal.returns-clause-listed
returns-clause-listed g c = λ tells.
    lists_met (g.P.Platform.history c.args.platform.now).present.readable c.args.root.now listed _ _ _ _ _ c.of_root.ensures c.new-list.ensures (c.in_ok-walk.ensures.met tells)

pub returns-in_err-walk-clause-cut : goal.returns-in_err-walk-clause-cut
returns-in_err-walk-clause-cut g c = λ tells.
    on_error c.from_residual.result _ (subst (λ (w : Want). CutShort (g.P.Platform.history c.args.platform.now).present.readable w c.args.root.now.key (g.P.Platform.reads c.args.platform.now) (g.P.Platform.reads c.walk.new.platform)) c.of_root.ensures (c.in_err-walk.ensures.cut tells))
