use Rattle.std.proofs.Common.{◌≡◌, suc, ◌+◌, ◌-◌, ◌*◌, ◌≤◌, ◌++◌}
use Rattle.tree_build.specs.Shape.{cut}
use Rattle.tree_build.proofs.shapes.push_level.Given as goal

abbrev pub invariant-loop-node : goal.invariant-loop-node
invariant-loop-node l = record {
  level : l.rest.level ≡ l.fn.all.level;
  end : l.rest.first + l.rest.count ≡ l.fn.all.first + l.fn.all.count;
  room : l.half * (l.nodes - l._node) ≤ l.rest.count;
  spans : l.spans ++ cut l.fn.all.level l.half l.rest.first (suc (l.nodes - l._node)) l.rest.count
      ≡ l.initial.spans ++ cut l.fn.all.level l.half l.fn.all.first l.nodes l.fn.all.count;
}
