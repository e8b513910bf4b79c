use Rattle.std.proofs.Common.{length}
use Rattle.tree_build.proofs.ListingLaws.{planned_is, plan_room, plan_spans}
use Rattle.tree_build.proofs.planning.plan.Goals as goal

pub plan_nodes-requires-clause-room : goal.plan_nodes-requires-clause-room
plan_nodes-requires-clause-room c = plan_room c.args.order c.args.base (length c.args.entries.now) c.args.shape.now c.requires.shaped c.requires.base c.requires.shape

pub plan_nodes-requires-clause-spans : goal.plan_nodes-requires-clause-spans
plan_nodes-requires-clause-spans c = plan_spans c.args.order c.args.base (length c.args.entries.now) c.args.shape.now c.requires.shaped c.requires.base c.requires.shape

pub returns : goal.returns
returns c = planned_is c.args.order c.args.base c.args.entries.now c.args.shape.now c.new-added.result c.plan_data.new.added c.plan_nodes.new.added c.requires.shape c.new-added.ensures c.in_ok-plan_data.ensures c.in_ok-plan_nodes.ensures
