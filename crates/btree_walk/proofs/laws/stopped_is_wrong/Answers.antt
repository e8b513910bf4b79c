use Rattle.btree_walk.proofs.MappedLaws.{stopped_is_wrong as lemma}
use Rattle.btree_walk.proofs.laws.stopped_is_wrong.Goals as goal

pub returns : goal.returns
returns c = lemma
