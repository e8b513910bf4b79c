use Rattle.std.proofs.Common.{◌≡◌, ◌+◌, ◌-◌, ◌++◌}
use Rattle.tree_build.specs.Nodes.{addrs_from}
use Rattle.tree_build.proofs.planning.addrs_from.Given as goal

abbrev pub invariant-loop-i : goal.invariant-loop-i
invariant-loop-i l = l.addrs ++ addrs_from (l.first + l.i) (l.count - l.i) ≡ addrs_from l.first l.count
