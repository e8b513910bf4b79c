use Rattle.btree_walk.proofs.LevelLaws.{root_few}
use Rattle.btree_walk.proofs.list_laws.lists_few.Goals as goal

pub returns : goal.returns
returns c = root_few
