use Rattle.page_store.proofs.KeptLaws.{reaches_tree as lemma}
use Rattle.page_store.proofs.key_laws.reaches_tree.Goals as goal

pub returns : goal.returns
returns c = lemma
