use Rattle.std.proofs.Common.{◌≡◌, ◌+◌, ◌*◌, take}
use Rattle.btree_twigs.specs.Stubs.{sum_by, nodes}
use Rattle.btree_update.proofs.counting.+count.Given as goal

abbrev pub decreases-count : goal.decreases-count
decreases-count l = 2 * l.level

abbrev pub decreases-count_all : goal.decreases-count_all
decreases-count_all l = 2 * l.level + 1

abbrev pub invariant-count_all-loop-child : goal.invariant-count_all-loop-child
invariant-count_all-loop-child l = l.sum ≡ sum_by (nodes l.level) (take l.child-index l.children)
