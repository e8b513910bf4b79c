use Rattle.std.proofs.Common.{arith}
use Rattle.btree_walk.proofs.TurnLaws.{none_at}
use Rattle.btree_walk.proofs.turns.entry_of.Goals as goal

pub returns-else-entry-block : goal.returns-else-entry-block
returns-else-entry-block c = none_at c.args.entries.now c.args.block c.reach_of-reach.result c.index-entries-reach.result c.requires c.reach_of-reach.ensures.point c.reach_of-reach.ensures.bound (omega (arith, c.if-reach-eq0.false)) c.index-entries-reach.is c.if-entry-block.false
