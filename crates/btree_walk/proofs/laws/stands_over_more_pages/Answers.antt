use Rattle.page_store.proofs.TreeLaws.{tree_stays}
use Rattle.btree_walk.proofs.laws.stands_over_more_pages.Goals as goal

pub returns : goal.returns
returns c = tree_stays
