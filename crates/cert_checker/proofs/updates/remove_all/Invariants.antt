use Rattle.std.proofs.Common.{◌≡◌, if◌then◌else◌, ℕ, None, take}
use Rattle.std.specs.Ordering.{nat_cmp}
use Rattle.std.specs.BTreeMap.{get}
use Rattle.cert_checker.specs.Rules.{is_listed}
use Rattle.cert_checker.proofs.updates.remove_all.Given as goal

abbrev pub invariant-loop-addr : goal.invariant-loop-addr
invariant-loop-addr g l = (q : ℕ) → get nat_cmp l.map q ≡ (if is_listed (take l.addr-index l.gone) q then None else get nat_cmp l.fn.map q)
