use Rattle.std.proofs.Common.{◌+◌, ◌*◌}
use Rattle.btree_update.proofs.helping.+help.Given as goal

abbrev pub decreases-help_way : goal.decreases-help_way
decreases-help_way l = 2 * l.level

abbrev pub decreases-help_below : goal.decreases-help_below
decreases-help_below l = 2 * l.level + 1
