use Rattle.btree_walk.proofs.MappedLaws.{found_is_mapped as lemma}
use Rattle.btree_walk.proofs.laws.found_is_mapped.Goals as goal

pub returns : goal.returns
returns c = lemma
