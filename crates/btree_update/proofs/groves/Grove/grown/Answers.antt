use Rattle.std.proofs.Common.{rules}
use Rattle.btree_update.proofs.CountLaws.{few_in_root}
use Rattle.btree_update.proofs.groves.Grove.grown.Goals as goal

pub count-requires : goal.count-requires
count-requires c = few_in_root c.args.self.now.order c.args.self.now.level c.args.self.now.blocks c.args.self.now.top c.requires.one c.requires.least (search rules) c.requires.shaped
