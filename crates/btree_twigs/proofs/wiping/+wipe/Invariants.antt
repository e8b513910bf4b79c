use Rattle.std.proofs.Common.{◌≡◌, ◌<◌, ℕ, ◌+◌, ◌*◌, get_or}
use Rattle.btree_twigs.specs.Wiped.{blank}
use Rattle.btree_twigs.proofs.wiping.+wipe.Given as goal

abbrev pub decreases-wipe_all : goal.decreases-wipe_all
decreases-wipe_all l = 2 * l.level + 1

abbrev pub decreases-wipe_child : goal.decreases-wipe_child
decreases-wipe_child l = 2 * l.level

abbrev pub invariant-wipe_all-loop-child : goal.invariant-wipe_all-loop-child
invariant-wipe_all-loop-child l = (k : ℕ) → k < l.child-index → get_or l.children k blank ≡ blank
