use Rattle.std.proofs.Common.{◌≡◌, ◌==◌, if◌then◌else◌, ℕ, Some, take}
use Rattle.std.specs.List.{list_any}
use Rattle.std.specs.Ordering.{nat_cmp}
use Rattle.std.specs.BTreeMap.{get}
use Rattle.cert_checker.proofs.updates.adopt.Given as goal

abbrev pub invariant-loop-child : goal.invariant-loop-child
invariant-loop-child l = (q : ℕ) → get nat_cmp l.parents q ≡ (if list_any (λ x. x == q) (take l.child-index l.children) then Some l.node else get nat_cmp l.fn.parents q)
