use Rattle.btree_walk.proofs.LevelLaws.{tree_few, low_level}
use Rattle.btree_walk.proofs.list_laws.no_level_above.Goals as goal

pub returns-clause-count : goal.returns-clause-count
returns-clause-count c = tree_few

pub returns-clause-level : goal.returns-clause-level
returns-clause-level c = low_level
