use Rattle.std.proofs.Common.{◌+◌, ◌*◌}
use Rattle.btree_update.proofs.opening.+open.Given as goal

abbrev pub decreases-open_way : goal.decreases-open_way
decreases-open_way l = 2 * l.level

abbrev pub decreases-open_below : goal.decreases-open_below
decreases-open_below l = 2 * l.level + 1
