use Rattle.std.proofs.Common.{◌≡◌, ℕ, ◌<◌, ◌≤◌, ◌-◌, ◌/◌, [], ◌∷◌, List, length, take, drop, get_or, sym, ap, subst, ◌∙◌, arith}
use Rattle.std.specs.List.{AllByRecursion}
use Rattle.btree_twigs.specs.declared.twigs.Child.{Child}
use Rattle.btree_twigs.specs.declared.twigs.Twig.{Twig}
use Rattle.btree_twigs.specs.declared.twigs.Spot.{Spot}
use Rattle.btree_twigs.specs.declared.twigs.Spot.TheVariants.{Found, Absent, Below}
use Rattle.btree_twigs.specs.Stubs.{datum, start_by, low_of, children_of, stubs, stubs_below}
use Rattle.btree_twigs.specs.Shape.{IsChild, IsTwig}
use Rattle.btree_twigs.specs.Search.{IsAt, IsSpot}
use Rattle.btree_twigs.proofs.ListLaws.{at_end}
use Rattle.btree_twigs.proofs.Finds.{none_before, found_below, at_one, at_none, grown_spot, below_spot, datum_spot, low_of_is}
use Rattle.btree_twigs.proofs.finding.+find.Goals as goal

pub returns-then-at-eq0 : goal.returns-then-at-eq0
returns-then-at-eq0 t c order level least most low h from to =
    let after = subst (λ ds. c.args.block < start_by low_of (drop c.place-at.result ds) c.args.high) c.deref.ensures.value (c.place-at.ensures.after c.args.high to) in
    none_before order level least most low c.args.high c.args.block (children_of c.args.twig.now) h.node
    (subst (λ n. c.args.block < start_by low_of (drop n (children_of c.args.twig.now)) c.args.high) c.if-at-eq0.true after)

-- what is below the child at the place is below the node
below : (order level least most low high block n : ℕ) (twig : Twig) (ds : List Child) (child : Child) (spot : Spot) → IsTwig order level least most low high twig → block < high → ds ≡ children_of twig →
    (n ≡ 0 → ⊥) → n ≤ length ds → AllByRecursion (λ d. low_of d ≤ block) (take n ds) → ((high : ℕ) → block < high → block < start_by low_of (drop n ds) high) →
    child ≡ get_or (children_of twig) (n - 1) child →
    (low_of child ≤ block → block < start_by low_of (drop n (children_of twig)) high → IsChild order level (start_by low_of (drop n (children_of twig)) high) child →
    IsSpot block (stubs level (start_by low_of (drop n (children_of twig)) high) child) spot) →
    IsSpot block (stubs_below level high twig) spot
below order level least most low high block n twig ds child spot h to same some within before after here spot_is =
    let before' = subst (λ cs. AllByRecursion (λ d. low_of d ≤ block) (take n cs)) same before in
    let within' = subst (λ cs. n ≤ length cs) same within in
    let after' = subst (λ cs. block < start_by low_of (drop n cs) high) same (after high to) in
    let from = at_end (λ d. low_of d ≤ block) (children_of twig) (n - 1) n child (omega (arith, some)) (omega (arith, some, within')) here before' in
    found_below order level least most low high block (children_of twig) h.node n child spot (omega (arith, some)) within' here from after' (spot_is from after')

pub returns-in-Grown : goal.returns-in-Grown
returns-in-Grown t c order level least most low h from to =
    let cs = children_of c.args.twig.now in
    let end_is : c.end_of-end.result ≡ start_by low_of (drop c.place-at.result cs) c.args.high
    = c.end_of-end.ensures ∙ ap (λ ds. start_by low_of (drop c.place-at.result ds) c.args.high) c.deref-2.ensures.value in
    below order level least most low c.args.high c.args.block c.place-at.result c.args.twig.now c.deref.result.now c.index.result.now (c.find.result) h to c.deref.ensures.value
    c.if-at-eq0.false c.place-at.ensures.within c.place-at.ensures.before c.place-at.ensures.after c.index.ensures
    (λ le lt child. grown_spot order level (start_by low_of (drop c.place-at.result cs) c.args.high) c.args.block c.in-Grown.low c.in-Grown.below c.index.result.now c.find.result c.in-Grown.is
    (λ level. subst (λ m. IsTwig order level (order / 2) order c.in-Grown.low m c.in-Grown.below → c.in-Grown.low ≤ c.args.block → c.args.block < m → IsSpot c.args.block (stubs_below level m c.in-Grown.below) c.find.result) end_is (c.find.ensures order level (order / 2) order c.in-Grown.low)) le lt child)

pub returns-then-twig-gt1 : goal.returns-then-twig-gt1
returns-then-twig-gt1 t c order level least most low h from to =
    let cs = children_of c.args.twig.now in
    let end_is : c.end_of-end.result ≡ start_by low_of (drop c.place-at.result cs) c.args.high
    = c.end_of-end.ensures ∙ ap (λ ds. start_by low_of (drop c.place-at.result ds) c.args.high) c.deref-2.ensures.value in
    below order level least most low c.args.high c.args.block c.place-at.result c.args.twig.now c.deref.result.now c.index.result.now (Below (c.args.twig.now.level - 1) c.in-Kept.low c.end_of-end.result c.in-Kept.addr c.in-Kept.key) h to c.deref.ensures.value
    c.if-at-eq0.false c.place-at.ensures.within c.place-at.ensures.before c.place-at.ensures.after c.index.ensures
    (λ le lt child. subst (λ m. IsSpot c.args.block (stubs level m c.index.result.now) (Below (c.args.twig.now.level - 1) c.in-Kept.low c.end_of-end.result c.in-Kept.addr c.in-Kept.key)) end_is
    (below_spot level c.args.twig.now.level c.end_of-end.result c.args.block c.in-Kept.low c.in-Kept.addr c.in-Kept.key c.index.result.now c.in-Kept.is h.level_is c.if-twig-gt1.true le (omega (arith, lt, end_is))))

pub returns-then-low-block : goal.returns-then-low-block
returns-then-low-block t c order level least most low h from to =
    let cs = children_of c.args.twig.now in
    let end_is : c.end_of-end.result ≡ start_by low_of (drop c.place-at.result cs) c.args.high
    = c.end_of-end.ensures ∙ ap (λ ds. start_by low_of (drop c.place-at.result ds) c.args.high) c.deref-2.ensures.value in
    below order level least most low c.args.high c.args.block c.place-at.result c.args.twig.now c.deref.result.now c.index.result.now (Found c.in-Kept.addr c.in-Kept.key) h to c.deref.ensures.value
    c.if-at-eq0.false c.place-at.ensures.within c.place-at.ensures.before c.place-at.ensures.after c.index.ensures
    (λ le lt child. subst (λ xs. IsAt c.args.block xs (datum c.args.block c.in-Kept.addr c.in-Kept.key ∷ []))
    (sym (datum_spot level c.args.twig.now.level _ c.args.block c.in-Kept.low c.in-Kept.addr c.in-Kept.key c.index.result.now c.in-Kept.is h.level_is (omega arith)))
    (subst (λ b. IsAt c.args.block (datum c.in-Kept.low c.in-Kept.addr c.in-Kept.key ∷ []) (datum b c.in-Kept.addr c.in-Kept.key ∷ [])) c.if-low-block.true (at_one c.args.block (datum c.in-Kept.low c.in-Kept.addr c.in-Kept.key))))

pub returns-else-low-block : goal.returns-else-low-block
returns-else-low-block t c order level least most low h from to =
    let cs = children_of c.args.twig.now in
    let end_is : c.end_of-end.result ≡ start_by low_of (drop c.place-at.result cs) c.args.high
    = c.end_of-end.ensures ∙ ap (λ ds. start_by low_of (drop c.place-at.result ds) c.args.high) c.deref-2.ensures.value in
    below order level least most low c.args.high c.args.block c.place-at.result c.args.twig.now c.deref.result.now c.index.result.now (Absent) h to c.deref.ensures.value
    c.if-at-eq0.false c.place-at.ensures.within c.place-at.ensures.before c.place-at.ensures.after c.index.ensures
    (λ le lt child. subst (λ xs. IsAt c.args.block xs [])
    (sym (datum_spot level c.args.twig.now.level _ c.args.block c.in-Kept.low c.in-Kept.addr c.in-Kept.key c.index.result.now c.in-Kept.is h.level_is (omega arith)))
    (at_none c.args.block (datum c.in-Kept.low c.in-Kept.addr c.in-Kept.key) (omega (arith, le, low_of_is c.in-Kept.low c.in-Kept.addr c.in-Kept.key c.index.result.now c.in-Kept.is, c.if-low-block.false))))
