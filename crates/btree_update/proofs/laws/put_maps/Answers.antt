use Rattle.btree_update.proofs.Places as places
use Rattle.btree_update.proofs.laws.put_maps.Goals as goal

pub returns : goal.returns
returns c = places.puts_maps
