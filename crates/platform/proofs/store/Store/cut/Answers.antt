use Rattle.platform.proofs.Cuts.{MayLeave-torn}
use Rattle.platform.proofs.store.Store.cut.Goals as goal

pub returns-clause-left : goal.returns-clause-left
returns-clause-left c =
    let old = c.args.self.now in
    MayLeave-torn old.medium c.cut.new.self old.cell c.args.torn.now c.cut.ensures.whole c.cut.ensures.recorded c.cut.ensures.synced c.requires c.cut.ensures.readable
