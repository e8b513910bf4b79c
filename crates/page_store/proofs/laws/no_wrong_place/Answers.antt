use Rattle.page_store.proofs.TreeLaws.{tree_not_wrong}
use Rattle.page_store.proofs.laws.no_wrong_place.Goals as goal

pub returns : goal.returns
returns c = tree_not_wrong
