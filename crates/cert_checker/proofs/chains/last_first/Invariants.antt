use Rattle.std.proofs.Common.{◌≡◌, ◌≤◌, drop, take}
use Rattle.cert_checker.specs.Chain.{from_last_first}
use Rattle.cert_checker.proofs.chains.last_first.Given as goal

abbrev pub invariant-loop-i : goal.invariant-loop-i
invariant-loop-i l = record {
  within : l.start ≤ l.i;
  from : from_last_first (take l.i l.certs) ≡ drop l.start (take l.i l.certs);
}
