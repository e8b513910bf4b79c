use Rattle.std.proofs.Common.{◌≡◌, ℕ, take}
use Rattle.std.specs.Ordering.{nat_cmp}
use Rattle.std.specs.BTreeMap.{get}
use Rattle.cert_checker.specs.Held.{traced_all}
use Rattle.cert_checker.specs.Kept.{parent_or, taker}
use Rattle.cert_checker.proofs.updates.adopt_all.Given as goal

abbrev pub invariant-loop-i : goal.invariant-loop-i
invariant-loop-i l = (q : ℕ) → get nat_cmp l.parents q ≡ parent_or (taker (traced_all (take l.i l.added)) q) (get nat_cmp l.fn.parents q)
