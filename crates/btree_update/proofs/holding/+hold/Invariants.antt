use Rattle.std.proofs.Common.{◌+◌, ◌*◌}
use Rattle.btree_update.proofs.holding.+hold.Given as goal

abbrev pub decreases-hold_way : goal.decreases-hold_way
decreases-hold_way g l = 2 * l.level

abbrev pub decreases-hold_below : goal.decreases-hold_below
decreases-hold_below g l = 2 * l.level + 1
