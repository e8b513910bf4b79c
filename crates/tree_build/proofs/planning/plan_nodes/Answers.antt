use Rattle.std.proofs.Common.{◌+◌, ◌++◌, arith}
use Rattle.tree_build.specs.Nodes.{nodes_from}
use Rattle.tree_build.proofs.ListingLaws.{nodes_next}
use Rattle.tree_build.proofs.planning.plan_nodes.Goals as goal

pub loop-i-preserved : goal.loop-i-preserved
loop-i-preserved c =
    let addr = c.loop-i.invariant.addr in
    record {
      addr = omega (arith, addr);
      added = nodes_next c.args.base c.loop-i.addr c.loop-i.i c.args.shape.now c.at-span.result.now c.in_ok-children.children c.loop-i.added c.push.new.self
          (c.args.added.now ++ nodes_from c.args.base (c.args.base + c.args.count) c.args.shape.now)
          c.at-span.ensures c.in_ok-children.ensures c.in_ok-push.ensures c.loop-i.invariant.added;
    }
