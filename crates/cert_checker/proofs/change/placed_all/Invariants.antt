use Rattle.std.proofs.Common.{◌≡◌, take}
use Rattle.cert_checker.specs.Held.{traced_all}
use Rattle.cert_checker.proofs.change.placed_all.Given as goal

abbrev pub invariant-loop-i : goal.invariant-loop-i
invariant-loop-i l = traced_all l.items.items ≡ take l.i l.added
