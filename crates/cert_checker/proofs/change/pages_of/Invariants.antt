use Rattle.std.proofs.Common.{◌≡◌, map, take}
use Rattle.sdbt_base.specs.declared.lists.Unkept.{Unkept}
use Rattle.cert_checker.proofs.change.pages_of.Given as goal

abbrev pub invariant-loop-i : goal.invariant-loop-i
invariant-loop-i l = l.addrs.items ≡ take l.i (map (λ (p : Unkept). p.addr) l.pages)
