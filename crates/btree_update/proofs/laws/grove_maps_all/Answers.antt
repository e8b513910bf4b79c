use Rattle.btree_update.proofs.AscendLaws.{grove_all, grove_filled}
use Rattle.btree_update.proofs.laws.grove_maps_all.Goals as goal

pub returns-clause-filled : goal.returns-clause-filled
returns-clause-filled c = λ pages grove mapped block sound m many to. grove_filled pages grove mapped block sound m many to

pub returns-clause-high : goal.returns-clause-high
returns-clause-high c = grove_all
