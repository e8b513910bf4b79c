use Rattle.std.proofs.Common.{◌-◌, ◌^◌}
use Rattle.key_graph.specs.Trace.{entry_in}
use Rattle.key_graph.specs.Search.{IsSetOf}
use Rattle.key_graph.proofs.SearchLaws.{IsSearched}
use Rattle.key_graph.proofs.reach.reached.Given as goal

abbrev pub invariant-loop-next : goal.invariant-loop-next
invariant-loop-next l = IsSetOf l.found l.queue.items × IsSearched (entry_in l.trace) l.root l.queue.items l.next

abbrev pub decreases-loop-next : goal.decreases-loop-next
decreases-loop-next l = 2 ^ 64 - l.next
