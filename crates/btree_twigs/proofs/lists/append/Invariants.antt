use Rattle.std.proofs.Common.{◌≡◌, ◌≤◌, ◌+◌, ◌++◌, reverse, vec_len, vec_capacity}
use Rattle.btree_twigs.proofs.lists.append.Given as goal

abbrev pub decreases-loop-child : goal.decreases-loop-child
decreases-loop-child l = vec_len l.right

abbrev pub invariant-loop-child : goal.invariant-loop-child
invariant-loop-child l = record {
  all : l.left.items ++ reverse l.right.items ≡ l.fn.left.items ++ l.fn.right.items;
  room : vec_len l.left + vec_len l.right ≤ vec_capacity l.left;
  kept : vec_capacity l.left ≡ vec_capacity l.fn.left;
  same : vec_capacity l.right ≡ vec_capacity l.fn.right;
}
