use Rattle.std.proofs.Common.{◌≡◌, map, take}
use Rattle.sdbt_base.specs.Traces.{Traced}
use Rattle.cert_checker.proofs.change.addrs_of.Given as goal

abbrev pub invariant-loop-i : goal.invariant-loop-i
invariant-loop-i l = l.addrs.items ≡ take l.i (map (λ (t : Traced). t.addr) l.added)
