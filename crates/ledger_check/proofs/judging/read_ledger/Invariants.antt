use Rattle.std.proofs.Common.{◌≡◌, ◌<◌}
use Rattle.ledger_check.proofs.TakingLaws.{IsTaking}
use Rattle.ledger_check.proofs.judging.read_ledger.Given as goal

abbrev pub invariant-takes : goal.invariant-takes
invariant-takes g l = record {
  some : 0 < l.left;
  quiet : g.I.Source.faults l.input ≡ g.I.Source.faults l.fn.input;
  open_yet : g.I.Source.ends l.input ≡ g.I.Source.ends l.fn.input;
  taking : IsTaking (g.I.Source.left l.fn.input) (g.I.Source.left l.input) l.reader l.left;
}

abbrev pub decreases-takes : goal.decreases-takes
decreases-takes g l = l.left
