use Rattle.std.proofs.Common.{◌≡◌, ◌-◌}
use Rattle.btree_walk.specs.Looks.{OnlyLooks}
use Rattle.btree_walk.specs.Nodes.{branches, node_at, Adds}
use Rattle.btree_walk.proofs.NodeLaws.{Ahead}
use Rattle.btree_walk.proofs.walking.+walk.Given as goal

abbrev pub decreases-walk : goal.decreases-walk
decreases-walk g l = l.want.now.level

abbrev pub invariant-loop-place : goal.invariant-loop-place
invariant-loop-place g l = record {
  ahead : g.P.Platform.tells → Ahead (g.P.Platform.history l.fn.platform).present.readable l.want.most (l.want.level - 1)
      (branches l.want.most (l.want.level - 1) l.want.high l.node.entries.items) l.place
      (Adds g.G.Gather.holds l.fn.gathered l.gathered) (node_at l.want.addr l.want.level l.node.entries.items)
      (g.P.Platform.reads l.fn.platform) (g.P.Platform.reads l.platform);
  looks : OnlyLooks g.P.Platform l.fn.platform l.platform;
  quiet : g.P.Platform.faults l.platform ≡ g.P.Platform.faults l.fn.platform;
}
