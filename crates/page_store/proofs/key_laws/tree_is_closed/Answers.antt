use Rattle.page_store.proofs.TreeMaps.{tree_closed}
use Rattle.page_store.proofs.key_laws.tree_is_closed.Goals as goal

pub returns : goal.returns
returns c = tree_closed
