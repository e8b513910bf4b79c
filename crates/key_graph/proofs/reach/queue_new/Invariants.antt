use Rattle.std.proofs.Common.{take}
use Rattle.key_graph.specs.Search.{IsSetOf, Gains}
use Rattle.key_graph.proofs.reach.queue_new.Given as goal

abbrev pub invariant-loop-i : goal.invariant-loop-i
invariant-loop-i l = IsSetOf l.found l.queue.items × Gains l.initial.queue.items l.queue.items (take l.i l.addrs)
