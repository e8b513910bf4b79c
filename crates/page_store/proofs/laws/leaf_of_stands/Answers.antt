use Rattle.page_store.proofs.LeafStandsLaws.{leaf_of_stands as lemma}
use Rattle.page_store.proofs.laws.leaf_of_stands.Goals as goal

pub returns : goal.returns
returns c = lemma
