use Rattle.page_store.proofs.TreeLaws.{tree_not_wrong}
use Rattle.page_store.specs.Places.{root_want}
use Rattle.btree_walk.proofs.ShowsLaws.{first_wrong_is_wrong}
use Rattle.btree_walk.proofs.LevelLaws.{tree_entries, tree_addrs}
use Rattle.btree_walk.proofs.list_laws.lists_the_tree.Goals as goal

pub returns-clause-entries : goal.returns-clause-entries
returns-clause-entries c = tree_entries

pub returns-clause-addrs : goal.returns-clause-addrs
returns-clause-addrs c = tree_addrs

pub returns-clause-stands : goal.returns-clause-stands
returns-clause-stands c = λ pages root parts addr fits is wrong. tree_not_wrong pages root parts addr fits is (first_wrong_is_wrong pages addr root.order root.level (root_want root) root.key wrong)
