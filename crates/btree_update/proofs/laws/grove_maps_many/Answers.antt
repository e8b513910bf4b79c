use Rattle.btree_update.proofs.ManyLaws.{grove_many}
use Rattle.btree_update.proofs.laws.grove_maps_many.Goals as goal

pub returns : goal.returns
returns c = grove_many
