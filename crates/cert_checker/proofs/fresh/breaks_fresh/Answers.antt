use Rattle.std.proofs.Common.{ℕ, List, sym, subst, ◌∙◌}
use Rattle.cert_checker.specs.Looks.{Ascends}
use Rattle.cert_checker.proofs.FreshLaws.{added_ascend, tells_added, tells_never}
use Rattle.cert_checker.proofs.fresh.breaks_fresh.Goals as goal

pub returns-then-is_some : goal.returns-then-is_some
returns-then-is_some c =
    tells_added c.args.cert.now c.deref.result.now c.base-base.result c.head-head.result c.first_misplaced-misplaced.result (c.deref.ensures.value ∙ c.requires.addrs) c.base-base.ensures c.head-head.ensures
    (sym c.is_some.ensures ∙ c.if-is_some.true) c.first_misplaced-misplaced.ensures

pub first_not_apart-requires : goal.first_not_apart-requires
first_not_apart-requires c =
    subst (λ (xs : List ℕ). Ascends xs) (c.deref.ensures.value ∙ sym c.deref-3.ensures.value)
    (added_ascend c.args.cert.now c.deref.result.now c.base-base.result c.head-head.result c.first_misplaced-misplaced.result c.base-base.ensures c.head-head.ensures
    (sym c.is_some.ensures ∙ c.if-is_some.false) c.first_misplaced-misplaced.ensures)

pub returns : goal.returns
returns c =
    tells_never c.args.cert.now c.deref.result.now c.deref-3.result.now c.deref-2.result.now c.base-base.result c.head-head.result c.first_misplaced-misplaced.result c.first_not_apart.result
    (c.deref.ensures.value ∙ c.requires.addrs) (c.deref-3.ensures.value ∙ sym c.deref.ensures.value) (c.deref-2.ensures.value ∙ c.requires.never) c.base-base.ensures c.head-head.ensures
    (sym c.is_some.ensures ∙ c.if-is_some.false) c.first_misplaced-misplaced.ensures c.first_not_apart.ensures
