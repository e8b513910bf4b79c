use Rattle.btree_update.proofs.Places as places
use Rattle.btree_update.proofs.laws.take_maps.Goals as goal

pub returns : goal.returns
returns c = places.takes_maps
