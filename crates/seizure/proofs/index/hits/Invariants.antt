use Rattle.seizure.proofs.IndexLaws.{HasHits}
use Rattle.seizure.proofs.index.hits.Given as goal

abbrev pub invariant-loop-mark : goal.invariant-loop-mark
invariant-loop-mark l = HasHits l.marks l.front l.mark-index l.addrs
