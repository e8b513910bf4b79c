use Rattle.std.proofs.Common.{◌≡◌, ◌+◌, ◌-◌, ◌*◌, ◌≤◌}
use Rattle.tree_build.specs.Shape.{built_from, built}
use Rattle.tree_build.proofs.shapes.built.Given as goal

abbrev pub invariant-loop-level : goal.invariant-loop-level
invariant-loop-level l = record {
  most : l.most ≡ l.fn.order;
  few : l.items ≤ 1048576;
  small : l.many ≤ 1048576 * l._level;
  rest : l.many + built_from (20 - l._level) l.fn.order l.items ≡ built l.fn.order l.fn.count;
}
