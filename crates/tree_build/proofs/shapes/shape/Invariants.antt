use Rattle.std.proofs.Common.{◌≡◌, ◌+◌, ◌-◌, ◌*◌, ◌≤◌, ◌++◌}
use Rattle.tree_build.specs.Shape.{shape_from, shape_of}
use Rattle.tree_build.proofs.shapes.shape.Given as goal

abbrev pub invariant-loop-below : goal.invariant-loop-below
invariant-loop-below l = record {
  most : l.most ≡ l.fn.order;
  few : l.items ≤ 1048576;
  small : l.first ≤ 1048576 * l.below;
  rest : l.spans ++ shape_from (20 - l.below) l.fn.order (l.below + 1) l.first l.items ≡ shape_of l.fn.order l.fn.count;
}
