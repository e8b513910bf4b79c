use Rattle.std.proofs.Common.{◌≡◌, ◌≤◌, ◌+◌, ◌++◌, reverse, vec_len, vec_capacity}
use Rattle.btree_twigs.proofs.lists.move_tail.Given as goal

abbrev pub decreases-loop-from : goal.decreases-loop-from
decreases-loop-from l = vec_len l.from

abbrev pub invariant-loop-from : goal.invariant-loop-from
invariant-loop-from l = record {
  all : l.from.items ++ reverse l.to.items ≡ l.fn.from.items;
  long : l.at ≤ vec_len l.from;
  room : vec_len l.from + vec_len l.to ≤ vec_capacity l.to;
  kept : vec_capacity l.from ≡ vec_capacity l.fn.from;
  same : vec_capacity l.to ≡ vec_capacity l.fn.to;
}
