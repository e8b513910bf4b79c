use Rattle.std.proofs.Common.{◌≡◌, ℕ, ◌+◌, ◌-◌, ◌≤◌, ap, sym, subst, ◌∙◌, arith}
use Rattle.tree_build.specs.Shape.{nodes_over, built_from, built}
use Rattle.tree_build.proofs.CutLaws.{nodes_most, built_next, built_last, built_none}
use Rattle.tree_build.proofs.shapes.built.Goals as goal

pub loop-level-preserved : goal.loop-level-preserved
loop-level-preserved c =
    let order = c.args.order in
    let items = c.loop-level.items in
    let many = c.loop-level.many in
    let k = c.loop-level._level in
    let nodes : c.nodes_over-nodes.result ≡ nodes_over order items = c.nodes_over-nodes.ensures ∙ ap (λ (o : ℕ). nodes_over o items) c.loop-level.invariant.most in
    let few : nodes_over order items ≤ 1048576 = nodes_most order items 1048576 (omega arith) c.loop-level.invariant.few in
    record {
      most = c.loop-level.invariant.most;
      few = omega (arith, nodes, few);
      small = omega (arith, nodes, few);
      rest = subst (λ (n : ℕ). many + n + built_from (20 - (k + 1)) order n ≡ built order c.args.count) (sym nodes)
          (built_next k order items many (built order c.args.count) (omega arith) (omega arith) c.loop-level.invariant.rest);
    }

pub returns-after-loop-level : goal.returns-after-loop-level
returns-after-loop-level c = built_none c.loop-level._level c.args.order c.loop-level.items c.loop-level.many (built c.args.order c.args.count) (omega arith) c.loop-level.invariant.rest

pub returns-then-items-most : goal.returns-then-items-most
returns-then-items-most c =
    let order = c.args.order in
    let items = c.loop-level.items in
    let nodes : c.nodes_over-nodes.result ≡ nodes_over order items = c.nodes_over-nodes.ensures ∙ ap (λ (o : ℕ). nodes_over o items) c.loop-level.invariant.most in
    let all = built_last c.loop-level._level order items c.loop-level.many (built order c.args.count) (omega arith) (omega arith) c.loop-level.invariant.rest in
    omega (arith, nodes, all)
