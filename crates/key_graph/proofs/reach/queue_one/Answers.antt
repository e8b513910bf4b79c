use Rattle.key_graph.proofs.SearchLaws.{gains_old, set_has, was_there}
use Rattle.key_graph.proofs.reach.queue_one.Goals as goal

pub returns-then-not-branch-clause-queued : goal.returns-then-not-branch-clause-queued
returns-then-not-branch-clause-queued c =
    gains_old c.args.queue.now.items c.args.addr
    (set_has c.args.found.now c.args.queue.now.items c.args.addr c.requires (was_there _ _ c.in_ok-insert.ensures.added c.if-not-branch.true))
