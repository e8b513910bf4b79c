use Rattle.std.proofs.Common.{◌≡◌, ℕ, ◌+◌, ◌-◌, ◌/◌, ◌<◌, ◌≤◌, List, ◌++◌, ap, sym, subst, ◌∙◌, arith}
use Rattle.tree_build.specs.declared.shapes.Span.{Span}
use Rattle.tree_build.specs.Shape.{nodes_over, cut, shape_from, shape_of}
use Rattle.tree_build.proofs.CutLaws.{nodes_most, level_is, shape_next, shape_last, shape_none}
use Rattle.tree_build.proofs.shapes.shape.Goals as goal
use Rattle.tree_build.proofs.shapes.shape.Goals.{else-loop-below-test, then-loop-below-test+in_ok-push_level+then-items-most}

pub loop-below-preserved : goal.loop-below-preserved
loop-below-preserved c =
    let order = c.args.order in
    let items = c.loop-below.items in
    let first = c.loop-below.first in
    let k = c.loop-below.below in
    let nodes : c.nodes_over-nodes.result ≡ nodes_over order items = c.nodes_over-nodes.ensures ∙ ap (λ (o : ℕ). nodes_over o items) c.loop-below.invariant.most in
    let few : nodes_over order items ≤ 1048576 = nodes_most order items 1048576 (omega arith) c.loop-below.invariant.few in
    let all = shape_of order c.args.count in
    let level = ap (λ (ss : List Span). c.loop-below.spans ++ ss) (level_is order c.from-most.result c.nodes_over-nodes.result (k + 1) first items c.loop-below.invariant.most nodes) in
    record {
      most = c.loop-below.invariant.most;
      few = omega (arith, nodes, few);
      small = omega arith;
      rest = subst (λ (n : ℕ). c.push_level.new.spans ++ shape_from (20 - (k + 1)) order (k + 1 + 1) (first + items) n ≡ all) (sym nodes)
          (ap (λ (ss : List Span). ss ++ shape_from (20 - (k + 1)) order (k + 1 + 1) (first + items) (nodes_over order items)) (c.in_ok-push_level.ensures ∙ level)
          ∙ shape_next k order first items c.loop-below.spans all (omega arith) (omega arith) c.loop-below.invariant.rest);
    }

level_of : (order most k first items nodes : ℕ) (spans all : List Span) → most ≡ order → nodes ≡ nodes_over most items → k < 20 → items ≤ most
    → spans ++ shape_from (20 - k) order (k + 1) first items ≡ all → spans ++ cut (k + 1) (most / 2) first nodes items ≡ all
level_of order most k first items nodes spans all same many before few is =
    let over : nodes ≡ nodes_over order items = many ∙ ap (λ (o : ℕ). nodes_over o items) same in
    ap (λ (ss : List Span). spans ++ ss) (level_is order most nodes (k + 1) first items same over)
    ∙ shape_last k order first items spans all before (omega arith) is

pub returns : goal.returns
returns c = elim c.loop-below-test.branch [
  | else-loop-below-test w ↦ w.spans-is ∙ shape_none c.loop-below.below c.args.order c.loop-below.first c.loop-below.items c.loop-below.spans (shape_of c.args.order c.args.count) (omega arith) c.loop-below.invariant.rest
  | then-loop-below-test+in_ok-push_level+then-items-most w ↦ w.spans-is ∙ (w.in_ok-push_level.ensures ∙ (level_of c.args.order c.from-most.result c.loop-below.below c.loop-below.first c.loop-below.items w.nodes_over-nodes.result c.loop-below.spans (shape_of c.args.order c.args.count)
      c.loop-below.invariant.most w.nodes_over-nodes.ensures (omega arith) (omega arith) c.loop-below.invariant.rest))
]
