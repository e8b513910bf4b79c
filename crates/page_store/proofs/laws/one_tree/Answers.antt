use Rattle.page_store.proofs.TreeLaws.{one_tree as lemma}
use Rattle.page_store.proofs.laws.one_tree.Goals as goal

pub returns : goal.returns
returns c = lemma
