use Rattle.page_store.specs.Leaf.{leaf_parts}
use Rattle.page_store.proofs.LeafStandsLaws.{stands_by_leaf as lemma}
use Rattle.page_store.proofs.laws.stands_by_leaf.Goals as goal

pub returns-clause-tree : goal.returns-clause-tree
returns-clause-tree c = lemma

pub returns-clause-stands : goal.returns-clause-stands
returns-clause-stands c = λ image device root entries contents by_leaf. (root, leaf_parts root.addr root.key entries contents, lemma image device root entries contents by_leaf)
