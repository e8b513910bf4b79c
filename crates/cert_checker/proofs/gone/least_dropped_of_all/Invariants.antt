use Rattle.cert_checker.specs.Looks.{LeastOf, IsUntakenBefore}
use Rattle.cert_checker.proofs.gone.least_dropped_of_all.Given as goal

abbrev pub invariant-loop-i : goal.invariant-loop-i
invariant-loop-i l = LeastOf (IsUntakenBefore l.live l.gone l.taken l.i) l.least
