use Rattle.tree_build.proofs.TreeLaws.{builds_a_tree as lemma}
use Rattle.tree_build.proofs.laws.builds_a_tree.Goals as goal

pub returns : goal.returns
returns c = lemma
