use Rattle.btree_walk.proofs.ApartLaws.{tree_apart}
use Rattle.btree_walk.proofs.list_laws.one_place.Goals as goal

pub returns : goal.returns
returns c = tree_apart
