use Rattle.std.proofs.Common.{take}
use Rattle.cert_checker.specs.Looks.{LeastOf, IsFoundOr, IsUntakenChild}
use Rattle.cert_checker.proofs.gone.least_dropped.Given as goal

abbrev pub invariant-loop-i : goal.invariant-loop-i
invariant-loop-i l = LeastOf (IsFoundOr l.fn.found (IsUntakenChild l.gone l.taken (take l.i l.children))) l.least
