use Rattle.btree_update.proofs.AscendLaws.{grove_ascends}
use Rattle.btree_update.proofs.laws.grove_maps_ascend.Goals as goal

pub returns : goal.returns
returns c = grove_ascends
