use Rattle.btree_update.proofs.OpenMaps as opens
use Rattle.btree_update.proofs.laws.opened_maps.Goals as goal

pub returns : goal.returns
returns c = λ pages order addrs old new mapped o h. opens.opened_maps pages order addrs old new mapped o h
