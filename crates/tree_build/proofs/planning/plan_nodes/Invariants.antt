use Rattle.std.proofs.Common.{◌≡◌, ◌+◌, ◌++◌, drop}
use Rattle.tree_build.specs.Nodes.{nodes_from}
use Rattle.tree_build.proofs.planning.plan_nodes.Given as goal

abbrev pub invariant-loop-i : goal.invariant-loop-i
invariant-loop-i l = record {
  addr : l.addr ≡ l.base + l.count + l.i;
  added : l.added ++ nodes_from l.base l.addr (drop l.i l.shape) ≡ l.initial.added ++ nodes_from l.base (l.base + l.count) l.shape;
}
