use Rattle.std.proofs.Common.{◌≡◌, ℕ, suc, ◌<◌, ◌≤◌, ◌+◌, ◌-◌, ◌/◌, ◌++◌, ◌∷◌, List, length, take, drop, get_or, set, sym, ap, subst, ◌∙◌, rules, arith, length-append}
use Rattle.std.specs.List.{AllByRecursion}
use Rattle.std.proofs.lemmas.Bool.{false≢true}
use Rattle.std.proofs.lemmas.List.{length-take-le}
use Rattle.btree_twigs.specs.declared.twigs.Child.{Child}
use Rattle.btree_twigs.specs.declared.twigs.Child.TheVariants as made
use Rattle.btree_twigs.specs.declared.twigs.Child.{the_lemmas}
use Rattle.btree_twigs.specs.declared.twigs.Twig.{Twig, out-Twig}
use Rattle.btree_twigs.specs.Stubs.{start_by, low_of, children_of}
use Rattle.btree_twigs.specs.Updates.{IsNode, IsOpen, width_of}
use Rattle.btree_twigs.specs.Removal.{IsTaken, IsHelped, HelpsOne, Helps, below_in, MendsAt, AreMended, CanTake, CanTakeBelow, IsChildTaken, CanMendBeside}
use Rattle.btree_twigs.proofs.ListLaws.{split_here}
use Rattle.btree_twigs.proofs.Nodes.{stubs_of_grown, low_of_grown}
use Rattle.btree_twigs.proofs.Ways.{IsWay, way, child_is_twig, open_is_grown, set_on_way}
use Rattle.btree_twigs.proofs.Removals.{help_at, helped_if, still_wide, beside, after_mend, twig_taken, leaf_taken, child_taken}
use Rattle.std.proofs.Common.{refl}
use Rattle.std.specs.declared.vec.Vec.{Vec}
use Rattle.std.specs.declared.alloc.Global.{Global}
use Rattle.std.specs.Vec.{with_item}
use Rattle.btree_twigs.specs.declared.twigs.Child.{out-Child}
use Rattle.btree_twigs.specs.declared.twigs.Twig.{roll-Twig}
use Rattle.btree_twigs.specs.Levels.{IsMedium, IsRowTaken, IsRowTakenBy}
use Rattle.btree_twigs.proofs.SinkLaws.{RowsTaken, grown_as, leaf_sinks, node_sinks, kept_rows, mend_rows}
use Rattle.btree_twigs.proofs.taking.+take.Goals as goal

at_least : (a b : ℕ) → (a < b → ⊥) → b ≤ a
at_least a b h = omega (arith, h)

-- below a child in memory
abbrev below_grown : (order block low : ℕ) (twig : Twig) → 4 ≤ order → (at : CanTakeBelow order block (made.Grown low twig)) → CanTake order block twig
below_grown order block low twig four at = record {
  level = at.level;
  least = order / 2;
  low = low;
  high = at.high;
  shaped = child_is_twig order at.level at.high low twig at.shaped;
  two = λ _. omega (arith, four);
  from = omega (arith, at.from, low_of_grown low twig);
  to = at.to;
  is_open = subst (IsOpen block) (stubs_of_grown at.level at.high low twig) at.is_open;
  loses = at.loses;
  helps = subst (λ x. Helps order block at.level (below_in x) at.loses) (made.outs-Grown low twig) at.helps;
}

the_way : (order block n : ℕ) (twig : Twig) (ds : List Child) (child : Child) (at : CanTake order block twig) → ds ≡ children_of twig →
    ((out-Twig twig).level ≡ 1 → ⊥) → n ≤ length ds → AllByRecursion (λ d. low_of d ≤ block) (take n ds) →
    ((high : ℕ) → block < high → block < start_by low_of (drop n ds) high) → child ≡ get_or (children_of twig) (n - 1) child →
    IsWay order block at.level at.high (children_of twig) n child
the_way order block n twig ds child at same other within before after here =
    way order block at.level at.least order at.low at.high (out-Twig twig).level n (children_of twig) child at.shaped.level_is other at.shaped.node at.from at.is_open
    (subst (λ cs. n ≤ length cs) same within) (subst (λ cs. AllByRecursion (λ d. low_of d ≤ block) (take n cs)) same before)
    (subst (λ cs. block < start_by low_of (drop n cs) at.high) same (after at.high at.to)) here

module _ (order block n : ℕ) (twig : Twig) (child : Child) (at : CanTake order block twig) (w : IsWay order block at.level at.high (children_of twig) n child) where
  split : children_of twig ≡ take w.at (children_of twig) ++ child ∷ drop (suc w.at) (children_of twig)
  split = split_here (children_of twig) w.at child w.within w.here

  place_is : length (take w.at (children_of twig)) ≡ n - 1
  place_is = length-take-le w.at (children_of twig) (omega (arith, w.within)) ∙ omega (arith, w.at_is)

  bound_is : start_by low_of (drop n (children_of twig)) at.high ≡ start_by low_of (drop (suc w.at) (children_of twig)) at.high
  bound_is = ap (λ m. start_by low_of (drop m (children_of twig)) at.high) (sym w.at_is)

  near : HelpsOne (Helps order block w.below) order at.loses (take w.at (children_of twig)) (drop (suc w.at) (children_of twig)) child
  near = help_at order block at.level w.below at.loses (children_of twig) (take w.at (children_of twig)) (drop (suc w.at) (children_of twig)) child w.level_is at.helps split w.from at.high
      (subst (λ m. block < m) bound_is w.to)

  two : 2 ≤ at.least
  two = at.two (omega (arith, w.level_is))

  node : IsNode order (suc w.below) at.least order at.low at.high (take w.at (children_of twig) ++ child ∷ drop (suc w.at) (children_of twig))
  node = subst (λ l. IsNode order l at.least order at.low at.high (take w.at (children_of twig) ++ child ∷ drop (suc w.at) (children_of twig))) w.level_is
      (subst (IsNode order at.level at.least order at.low at.high) split at.shaped.node)

  abbrev below_way : CanTakeBelow order block child
  below_way = record {
    level = w.below;
    high = start_by low_of (drop n (children_of twig)) at.high;
    shaped = w.child;
    from = w.from;
    to = w.to;
    is_open = w.is_open;
    loses = near.fewer;
    helps = near.below;
  }

  -- the list with what is left of the child
  set_is : (d : Child) → set (children_of twig) (n - 1) d ≡ take w.at (children_of twig) ++ d ∷ drop (suc w.at) (children_of twig)
  set_is d = set_on_way n w.at (children_of twig) d w.at_is w.within

  taken_at : (d : Child) → IsChildTaken order w.below (start_by low_of (drop n (children_of twig)) at.high) block near.fewer child d →
      IsChildTaken order w.below (start_by low_of (drop (suc w.at) (children_of twig)) at.high) block near.fewer child d
  taken_at d t = subst (λ m. IsChildTaken order w.below m block near.fewer child d) bound_is t

  helped : (d : Child) → width_of d < order / 2 → IsChildTaken order w.below (start_by low_of (drop n (children_of twig)) at.high) block near.fewer child d → IsHelped order at.loses (take w.at (children_of twig)) (drop (suc w.at) (children_of twig))
  helped d short t = helped_if order block w.below at.loses (take w.at (children_of twig)) (drop (suc w.at) (children_of twig)) child d near t.wide short

  mends : (d : Child) → 4 ≤ order → width_of d < order / 2 → IsChildTaken order w.below (start_by low_of (drop n (children_of twig)) at.high) block near.fewer child d →
      CanMendBeside order (set (children_of twig) (n - 1) d) (n - 1)
  mends d four short t = subst (λ xs. CanMendBeside order xs (n - 1)) (sym (set_is d))
      (beside order w.below at.least at.low at.high block (n - 1) at.loses near.fewer four (take w.at (children_of twig)) child d place_is short (drop (suc w.at) (children_of twig)) node (taken_at d t) (helped d short t) two)

  mended : (d : Child) (new : List Child) → 4 ≤ order → width_of d < order / 2 → IsChildTaken order w.below (start_by low_of (drop n (children_of twig)) at.high) block near.fewer child d →
      (suc (n - 1) < length (set (children_of twig) (n - 1) d) → (m : MendsAt order (set (children_of twig) (n - 1) d) (n - 1)) → AreMended order (set (children_of twig) (n - 1) d) (n - 1) m new) →
      (suc (n - 1) ≡ length (set (children_of twig) (n - 1) d) → (m : MendsAt order (set (children_of twig) (n - 1) d) (n - 1 - 1)) → AreMended order (set (children_of twig) (n - 1) d) (n - 1 - 1) m new) →
      IsTaken order at.level at.least at.low at.high block (children_of twig) new × (length (children_of twig) ≤ length new + at.loses)
  mended d new four short t next last =
      subst (λ l. IsTaken order l at.least at.low at.high block (children_of twig) new × (length (children_of twig) ≤ length new + at.loses)) (sym w.level_is)
      (subst (λ xs. IsTaken order (suc w.below) at.least at.low at.high block xs new × (length xs ≤ length new + at.loses)) (sym split)
      (after_mend order w.below at.least at.low at.high block (n - 1) at.loses near.fewer four (take w.at (children_of twig)) child d place_is short (drop (suc w.at) (children_of twig)) new node (taken_at d t) (helped d short t) two
      (subst (λ xs. suc (n - 1) < length xs → (m : MendsAt order xs (n - 1)) → AreMended order xs (n - 1) m new) (set_is d) next)
      (subst (λ xs. suc (n - 1) ≡ length xs → (m : MendsAt order xs (n - 1 - 1)) → AreMended order xs (n - 1 - 1) m new) (set_is d) last)))

  kept_wide : (d : Child) → length (children_of twig) ≤ length (set (children_of twig) (n - 1) d) + at.loses
  kept_wide d = omega (arith, ap length (set_is d), ap length split, length-append (take w.at (children_of twig)) (child ∷ drop (suc w.at) (children_of twig)), length-append (take w.at (children_of twig)) (d ∷ drop (suc w.at) (children_of twig)))

  kept : (d : Child) → order / 2 ≤ width_of d → IsChildTaken order w.below (start_by low_of (drop n (children_of twig)) at.high) block near.fewer child d →
      IsTaken order at.level at.least at.low at.high block (children_of twig) (set (children_of twig) (n - 1) d)
  kept d le t =
      subst (λ l. IsTaken order l at.least at.low at.high block (children_of twig) (set (children_of twig) (n - 1) d)) (sym w.level_is)
      (subst (λ xs. IsTaken order (suc w.below) at.least at.low at.high block xs (set (children_of twig) (n - 1) d)) (sym split)
      (subst (IsTaken order (suc w.below) at.least at.low at.high block (take w.at (children_of twig) ++ child ∷ drop (suc w.at) (children_of twig))) (sym (set_is d))
      (still_wide order w.below at.least at.low at.high block (take w.at (children_of twig)) child (drop (suc w.at) (children_of twig)) d node near.fewer (taken_at d t) le)))

pub take-returns-then-twig-eq1-clause-taken : goal.take-returns-then-twig-eq1-clause-taken
take-returns-then-twig-eq1-clause-taken t c at =
    leaf_taken c.args.order c.args.block at.level at.least at.low at.high at.loses (out-Twig c.args.twig.now).level c.args.twig.now c.take_datum.new.children
    at.shaped at.shaped.level_is c.if-twig-eq1.true at.from at.to (omega (arith, c.take_datum.ensures.capacity, at.shaped.room)) at.helps c.take_datum.ensures.wide (c.take_datum.ensures.take c.args.order at.least at.low at.high)

pub take-take_below-requires : goal.take-take_below-requires
take-take_below-requires t c =
    let at = c.requires.can in
    let w = the_way c.args.order c.args.block c.place-at.result c.args.twig.now c.deref.result.now c.index_mut.result.now at c.deref.ensures.value c.if-twig-eq1.false
    c.place-at.ensures.within c.place-at.ensures.before c.place-at.ensures.after c.index_mut.ensures.value in
    (search (rules, the_lemmas), (c.requires.four, below_way c.args.order c.args.block c.place-at.result c.args.twig.now c.index_mut.result.now at w))

pub take-mend-requires-clause-can : goal.take-mend-requires-clause-can
take-mend-requires-clause-can t c =
    let at = c.requires.can in
    let w = the_way c.args.order c.args.block c.place-at.result c.args.twig.now c.deref.result.now c.index_mut.result.now at c.deref.ensures.value c.if-twig-eq1.false
    c.place-at.ensures.within c.place-at.ensures.before c.place-at.ensures.after c.index_mut.ensures.value in
    mends c.args.order c.args.block c.place-at.result c.args.twig.now c.index_mut.result.now at w c.take_below.new.child c.requires.four (c.take_below.ensures.short.0 c.if-take_below.true)
    (c.take_below.ensures.taken (below_way c.args.order c.args.block c.place-at.result c.args.twig.now c.index_mut.result.now at w))

pub take-returns-then-take_below-clause-taken : goal.take-returns-then-take_below-clause-taken
take-returns-then-take_below-clause-taken t c at =
    let w = the_way c.args.order c.args.block c.place-at.result c.args.twig.now c.deref.result.now c.index_mut.result.now at c.deref.ensures.value c.if-twig-eq1.false
    c.place-at.ensures.within c.place-at.ensures.before c.place-at.ensures.after c.index_mut.ensures.value in
    let r = mended c.args.order c.args.block c.place-at.result c.args.twig.now c.index_mut.result.now at w c.take_below.new.child c.mend.new.children.items c.requires.four (c.take_below.ensures.short.0 c.if-take_below.true)
    (c.take_below.ensures.taken (below_way c.args.order c.args.block c.place-at.result c.args.twig.now c.index_mut.result.now at w)) c.mend.ensures.next c.mend.ensures.last in
    twig_taken c.args.order at.level at.least at.low at.high c.args.block at.loses (out-Twig c.args.twig.now).level c.args.twig.now c.mend.new.children at.shaped.level_is
    (omega (arith, c.mend.ensures.capacity, at.shaped.room)) r.0 r.1

pub take-returns-else-take_below-clause-taken : goal.take-returns-else-take_below-clause-taken
take-returns-else-take_below-clause-taken t c at =
    let w = the_way c.args.order c.args.block c.place-at.result c.args.twig.now c.deref.result.now c.index_mut.result.now at c.deref.ensures.value c.if-twig-eq1.false
    c.place-at.ensures.within c.place-at.ensures.before c.place-at.ensures.after c.index_mut.ensures.value in
    let r = kept c.args.order c.args.block c.place-at.result c.args.twig.now c.index_mut.result.now at w c.take_below.new.child (at_least _ _ (λ lt. false≢true (sym c.if-take_below.false ∙ c.take_below.ensures.short.1 lt)))
    (c.take_below.ensures.taken (below_way c.args.order c.args.block c.place-at.result c.args.twig.now c.index_mut.result.now at w)) in
    twig_taken c.args.order at.level at.least at.low at.high c.args.block at.loses (out-Twig c.args.twig.now).level c.args.twig.now _ at.shaped.level_is at.shaped.room r
    (kept_wide c.args.order c.args.block c.place-at.result c.args.twig.now c.index_mut.result.now at w c.take_below.new.child)

pub take_below-unreachable-requires : goal.take_below-unreachable-requires
take_below-unreachable-requires t c =
    let at = subst (CanTakeBelow c.args.order c.args.block) c.in-Kept.is c.requires.can in
    open_is_grown c.args.order c.args.block at.level at.high c.in-Kept.low c.in-Kept.addr c.in-Kept.key at.from at.to at.is_open

pub take_below-take-requires : goal.take_below-take-requires
take_below-take-requires t c = rw (c.in-Grown.is, made.outs-Grown c.in-Grown.low c.in-Grown.twig) (
  let d = rw c.in-Grown.is at c.decreases in search (rules, the_lemmas, d),
  (
    c.requires.four,
    below_grown c.args.order c.args.block c.in-Grown.low c.in-Grown.twig c.requires.four (subst (CanTakeBelow c.args.order c.args.block) c.in-Grown.is c.requires.can),
  ),
)

pub take_below-returns-clause-taken : goal.take_below-returns-clause-taken
take_below-returns-clause-taken t c at =
    let grown = subst (CanTakeBelow c.args.order c.args.block) c.in-Grown.is at in
    let e = rw (c.in-Grown.is, made.outs-Grown c.in-Grown.low c.in-Grown.twig) at c.take.ensures in
    let q = child_taken c.args.order at.level c.in-Grown.low at.high c.args.block grown.loses c.in-Grown.twig c.take.new.twig
    (e.taken (below_grown c.args.order c.args.block c.in-Grown.low c.in-Grown.twig c.requires.four grown)) e.room in
    rw (c.in-Grown.is, made.outs-Grown c.in-Grown.low c.in-Grown.twig) q

pub take-returns-then-twig-eq1-clause-levels : goal.take-returns-then-twig-eq1-clause-levels
take-returns-then-twig-eq1-clause-levels t c medium m at =
    leaf_sinks medium c.args.order c.args.block at.level at.high (out-Twig c.args.twig.now).level c.args.twig.now c.take_datum.new.children at.shaped.level_is c.if-twig-eq1.true c.take_datum.ensures.lows

-- the levels of a node, from those of its list of children
module _ (medium : _) (m : IsMedium medium) (order block n : ℕ) (twig : Twig) (child d : Child) (at : CanTake order block twig) (w : IsWay order block at.level at.high (children_of twig) n child)
    (r : IsRowTakenBy medium order block w.below (start_by low_of (drop n (children_of twig)) at.high) (out-Child child) (out-Child d)) where
  rows_here : IsRowTakenBy medium order block w.below (start_by low_of (drop (suc w.at) (children_of twig)) at.high) (out-Child child) (out-Child d)
  rows_here = subst (λ e. IsRowTakenBy medium order block w.below e (out-Child child) (out-Child d)) (bound_is order block n twig child at w) r

  to_here : block < start_by low_of (drop (suc w.at) (children_of twig)) at.high
  to_here = subst (λ e. block < e) (bound_is order block n twig child at w) w.to

  kept_levels : (lev : ℕ) (new : Vec Child Global) → 4 ≤ order → new.items ≡ set (children_of twig) (n - 1) d → order / 2 ≤ width_of d → IsRowTaken medium order block at.level at.high twig (roll-Twig (record { level = lev; children = new }))
  kept_levels lev new four is le = node_sinks medium order block at.level w.below at.high lev twig new w.level_is (children_of twig) new.items refl refl
      (subst (λ xs. RowsTaken medium order block (suc w.below) at.high xs new.items) (sym (split order block n twig child at w))
      (subst (RowsTaken medium order block (suc w.below) at.high (take w.at (children_of twig) ++ child ∷ drop (suc w.at) (children_of twig))) (sym (is ∙ set_is order block n twig child at w d))
      (kept_rows medium m order w.below at.least at.low at.high block (n - 1) at.loses (near order block n twig child at w).fewer four (take w.at (children_of twig)) child d (place_is order block n twig child at w) w.from
      (drop (suc w.at) (children_of twig)) (node order block n twig child at w) to_here rows_here le)))

  mended_levels : (lev : ℕ) (new : Vec Child Global) → 4 ≤ order → width_of d < order / 2 → IsChildTaken order w.below (start_by low_of (drop n (children_of twig)) at.high) block (near order block n twig child at w).fewer child d →
      (suc (n - 1) < length (set (children_of twig) (n - 1) d) → (m : MendsAt order (set (children_of twig) (n - 1) d) (n - 1)) → AreMended order (set (children_of twig) (n - 1) d) (n - 1) m new.items) →
      (suc (n - 1) ≡ length (set (children_of twig) (n - 1) d) → (m : MendsAt order (set (children_of twig) (n - 1) d) (n - 1 - 1)) → AreMended order (set (children_of twig) (n - 1) d) (n - 1 - 1) m new.items) →
      IsRowTaken medium order block at.level at.high twig (roll-Twig (record { level = lev; children = new }))
  mended_levels lev new four short t next last = node_sinks medium order block at.level w.below at.high lev twig new w.level_is (children_of twig) new.items refl refl
      (subst (λ xs. RowsTaken medium order block (suc w.below) at.high xs new.items) (sym (split order block n twig child at w))
      (mend_rows medium m order w.below at.least at.low at.high block (n - 1) at.loses (near order block n twig child at w).fewer four (take w.at (children_of twig)) child d (place_is order block n twig child at w) w.from short
      (drop (suc w.at) (children_of twig)) new.items (node order block n twig child at w) (taken_at order block n twig child at w d t) (helped order block n twig child at w d short t) (two order block n twig child at w) to_here
      (subst (λ xs. suc (n - 1) < length xs → (m : MendsAt order xs (n - 1)) → AreMended order xs (n - 1) m new.items) (set_is order block n twig child at w d) next)
      (subst (λ xs. suc (n - 1) ≡ length xs → (m : MendsAt order xs (n - 1 - 1)) → AreMended order xs (n - 1 - 1) m new.items) (set_is order block n twig child at w d) last) rows_here))

pub take-returns-then-take_below-clause-levels : goal.take-returns-then-take_below-clause-levels
take-returns-then-take_below-clause-levels t c medium m at =
    let w = the_way c.args.order c.args.block c.place-at.result c.args.twig.now c.deref.result.now c.index_mut.result.now at c.deref.ensures.value c.if-twig-eq1.false
    c.place-at.ensures.within c.place-at.ensures.before c.place-at.ensures.after c.index_mut.ensures.value in
    let can = below_way c.args.order c.args.block c.place-at.result c.args.twig.now c.index_mut.result.now at w in
    let taken = c.take_below.ensures.taken can in
    let rows = c.take_below.ensures.levels medium m can in
    mended_levels medium m c.args.order c.args.block c.place-at.result c.args.twig.now c.index_mut.result.now c.take_below.new.child at w rows (out-Twig c.args.twig.now).level c.mend.new.children c.requires.four
    (c.take_below.ensures.short.0 c.if-take_below.true) taken c.mend.ensures.next c.mend.ensures.last

pub take-returns-else-take_below-clause-levels : goal.take-returns-else-take_below-clause-levels
take-returns-else-take_below-clause-levels t c medium m at =
    let w = the_way c.args.order c.args.block c.place-at.result c.args.twig.now c.deref.result.now c.index_mut.result.now at c.deref.ensures.value c.if-twig-eq1.false
    c.place-at.ensures.within c.place-at.ensures.before c.place-at.ensures.after c.index_mut.ensures.value in
    let can = below_way c.args.order c.args.block c.place-at.result c.args.twig.now c.index_mut.result.now at w in
    let taken = c.take_below.ensures.taken can in
    let rows = c.take_below.ensures.levels medium m can in
    kept_levels medium m c.args.order c.args.block c.place-at.result c.args.twig.now c.index_mut.result.now c.take_below.new.child at w rows (out-Twig c.args.twig.now).level
    (with_item (out-Twig c.args.twig.now).children (c.place-at.result - 1) c.take_below.new.child) c.requires.four refl (at_least _ _ (λ lt. false≢true (sym c.if-take_below.false ∙ c.take_below.ensures.short.1 lt)))

pub take_below-returns-clause-levels : goal.take_below-returns-clause-levels
take_below-returns-clause-levels t c medium m at =
    let grown = subst (CanTakeBelow c.args.order c.args.block) c.in-Grown.is at in
    let e = rw (c.in-Grown.is, made.outs-Grown c.in-Grown.low c.in-Grown.twig) at c.take.ensures in
    let q = e.levels medium m (below_grown c.args.order c.args.block c.in-Grown.low c.in-Grown.twig c.requires.four grown) in
    rw (c.in-Grown.is, made.outs-Grown c.in-Grown.low c.in-Grown.twig) (subst (λ y. IsRowTakenBy medium c.args.order c.args.block at.level at.high (grown_as c.in-Grown.low c.in-Grown.twig) y) (sym (made.outs-Grown c.in-Grown.low c.take.new.twig)) (refl, q))
