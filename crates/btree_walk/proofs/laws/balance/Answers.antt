use Rattle.btree_walk.proofs.BalanceLaws.{tree_many}
use Rattle.btree_walk.proofs.laws.balance.Goals as goal

pub returns : goal.returns
returns c = tree_many
