use Rattle.std.proofs.Common.{ℕ, ◌+◌, ◌-◌, List, ◌++◌, ap, ◌∙◌, arith}
use Rattle.tree_build.specs.Nodes.{addrs_from}
use Rattle.tree_build.proofs.ListingLaws.{addrs_next}
use Rattle.tree_build.proofs.planning.addrs_from.Goals as goal

pub loop-i-preserved : goal.loop-i-preserved
loop-i-preserved c =
    ap (λ (addrs : List ℕ). addrs ++ addrs_from (c.args.first + (c.loop-i.i + 1)) (c.args.count - (c.loop-i.i + 1))) c.in_ok-push.ensures
    ∙ addrs_next c.args.first c.loop-i.i c.args.count c.loop-i.addrs (addrs_from c.args.first c.args.count) (omega arith) c.loop-i.invariant
