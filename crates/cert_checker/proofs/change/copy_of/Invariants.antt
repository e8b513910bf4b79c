use Rattle.std.proofs.Common.{◌≡◌, take}
use Rattle.cert_checker.proofs.change.copy_of.Given as goal

abbrev pub invariant-loop-i : goal.invariant-loop-i
invariant-loop-i l = l.copy.items ≡ take l.i l.addrs
