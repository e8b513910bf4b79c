use Rattle.btree_update.proofs.Places as places
use Rattle.btree_update.proofs.laws.sealed_is.Goals as goal

pub returns : goal.returns
returns c = places.sealed_is
