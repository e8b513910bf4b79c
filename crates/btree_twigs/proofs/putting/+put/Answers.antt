use Rattle.std.proofs.Common.{◌≡◌, ℕ, suc, ◌<◌, ◌≤◌, ◌+◌, ◌-◌, ◌/◌, List, refl, length, take, drop, get_or, sym, ap, subst, ◌∙◌, rules, arith}
use Rattle.std.specs.List.{AllByRecursion}
use Rattle.btree_twigs.specs.declared.twigs.Child.{Child}
use Rattle.btree_twigs.specs.declared.twigs.Child.TheVariants as made
use Rattle.btree_twigs.specs.declared.twigs.Child.{the_lemmas}
use Rattle.btree_twigs.specs.declared.twigs.Twig.{Twig, out-Twig}
use Rattle.btree_twigs.specs.Stubs.{datum, start_by, low_of, children_of, stubs, stubs_below}
use Rattle.btree_twigs.specs.Updates.{IsNode, IsPut, IsOpen, IsChildPut, CanPut, CanPutBelow, HasSpares}
use Rattle.btree_twigs.proofs.Nodes.{stubs_of_grown, low_of_grown, children_of_roll}
use Rattle.btree_twigs.proofs.Ways.{IsWay, way, fewer, child_is_twig, open_is_grown, put_alone, put_two, set_on_way, insert_on_way, twig_put, leaf_put, child_put, child_cut}
use Rattle.std.specs.Option.{option_to_list}
use Rattle.std.specs.Vec.{with_item}
use Rattle.btree_twigs.specs.Stubs.{nodes, sum_by}
use Rattle.btree_twigs.specs.Updates.{rooms, list_rooms}
use Rattle.btree_twigs.proofs.Counts.{nodes_grown, leaf_nodes, one_nodes, two_nodes, rooms_grown, leaf_rooms, one_rooms, two_rooms, split_rooms}
use Rattle.std.proofs.Common.{Option, None, Some}
use Rattle.btree_twigs.specs.Stubs.{Stub}
use Rattle.btree_twigs.specs.Levels.{IsRowPutBelow}
use Rattle.btree_twigs.proofs.LevelLaws.{leaf_rows, row_alone, row_two, fits_child, cut_child}
use Rattle.btree_twigs.specs.Search.{HasDatum}
use Rattle.btree_twigs.proofs.Stays.{datum_below}
use Rattle.btree_twigs.proofs.putting.+put.Goals as goal

-- below a child in memory
abbrev below_grown : (order block low : ℕ) (spares : _) (twig : Twig) (at : CanPutBelow order block spares (made.Grown low twig)) → CanPut order block spares twig
below_grown order block low spares twig at = record {
  level = at.level;
  least = order / 2;
  low = low;
  high = at.high;
  shaped = child_is_twig order at.level at.high low twig at.shaped;
  from = omega (arith, at.from, low_of_grown low twig);
  to = at.to;
  is_open = subst (IsOpen block) (stubs_of_grown at.level at.high low twig) at.is_open;
  enough = fewer order at.level (suc at.level) _ (omega arith) at.enough;
}

the_way : (order block n : ℕ) (twig : Twig) (spares : _) (ds : List Child) (child : Child) (at : CanPut order block spares twig) → ds ≡ children_of twig →
    ((out-Twig twig).level ≡ 1 → ⊥) → n ≤ length ds → AllByRecursion (λ d. low_of d ≤ block) (take n ds) →
    ((high : ℕ) → block < high → block < start_by low_of (drop n ds) high) → child ≡ get_or (children_of twig) (n - 1) child →
    IsWay order block at.level at.high (children_of twig) n child
the_way order block n twig spares ds child at same other within before after here =
    way order block at.level at.least order at.low at.high (out-Twig twig).level n (children_of twig) child at.shaped.level_is other at.shaped.node at.from at.is_open
    (subst (λ cs. n ≤ length cs) same within) (subst (λ cs. AllByRecursion (λ d. low_of d ≤ block) (take n cs)) same before)
    (subst (λ cs. block < start_by low_of (drop n cs) at.high) same (after at.high at.to)) here

abbrev below_way : (order block n : ℕ) (twig : Twig) (spares : _) (child : Child) (at : CanPut order block spares twig) → IsWay order block at.level at.high (children_of twig) n child →
    CanPutBelow order block spares child
below_way order block n twig spares child at w = record {
  level = w.below;
  high = start_by low_of (drop n (children_of twig)) at.high;
  shaped = w.child;
  from = w.from;
  to = w.to;
  is_open = w.is_open;
  enough = subst (λ l. HasSpares order l spares) w.level_is at.enough;
}

pub put-returns-then-twig-eq1-clause-put : goal.put-returns-then-twig-eq1-clause-put
put-returns-then-twig-eq1-clause-put t c at =
    leaf_put c.args.order c.args.block at.level at.least at.low at.high (out-Twig c.args.twig.now).level c.args.addr c.args.key c.args.twig.now c.put_datum.new.children
    at.shaped at.shaped.level_is c.if-twig-eq1.true at.from at.to (omega (arith, c.put_datum.ensures.capacity, at.shaped.room)) (c.put_datum.ensures.put c.args.order at.least c.args.order at.low at.high)

pub put-put_below-requires : goal.put-put_below-requires
put-put_below-requires t c =
    let at = c.requires.can in
    let n = c.place-at.result in
    let w = the_way c.args.order c.args.block n c.args.twig.now _ c.deref.result.now c.index_mut-child.result.now at c.deref.ensures.value c.if-twig-eq1.false
    c.place-at.ensures.within c.place-at.ensures.before c.place-at.ensures.after c.index_mut-child.ensures.value in
    (search (rules, the_lemmas), (c.requires.four, below_way c.args.order c.args.block n c.args.twig.now _ c.index_mut-child.result.now at w))

pub put-returns-in-Some-clause-put : goal.put-returns-in-Some-clause-put
put-returns-in-Some-clause-put t c at =
    let n = c.place-at.result in
    let w = the_way c.args.order c.args.block n c.args.twig.now _ c.deref.result.now c.index_mut-child.result.now at c.deref.ensures.value c.if-twig-eq1.false
    c.place-at.ensures.within c.place-at.ensures.before c.place-at.ensures.after c.index_mut-child.ensures.value in
    let p = c.put_below.ensures.put (below_way c.args.order c.args.block n c.args.twig.now _ c.index_mut-child.result.now at w) in
    let q = subst (λ l. IsChildPut c.args.order l (start_by low_of (drop n (children_of c.args.twig.now)) at.high) (datum c.args.block c.args.addr c.args.key) c.index_mut-child.result.now c.put_below.new.child c.put_below.result) (sym w.level_is) p in
    let some = subst (IsChildPut c.args.order at.level (start_by low_of (drop n (children_of c.args.twig.now)) at.high) (datum c.args.block c.args.addr c.args.key) c.index_mut-child.result.now c.put_below.new.child) c.in-Some.is q in
    let r = put_two c.args.order c.args.block at.level at.least at.low at.high n (datum c.args.block c.args.addr c.args.key) (children_of c.args.twig.now) c.index_mut-child.result.now c.put_below.new.child at.shaped.node w c.in-Some.part some in
    twig_put c.args.order at.level at.least at.low at.high (out-Twig c.args.twig.now).level (datum c.args.block c.args.addr c.args.key) c.args.twig.now c.insert.new.children at.shaped.level_is (omega (arith, c.insert.ensures.capacity, at.shaped.room))
    (subst (IsPut c.args.order at.level at.least (c.args.order + 1) at.low at.high (datum c.args.block c.args.addr c.args.key) (children_of c.args.twig.now))
    (sym (c.insert.ensures.items ∙ insert_on_way n w.at (children_of c.args.twig.now) c.put_below.new.child c.in-Some.part w.at_is w.within)) r)

pub put-returns-in-Some-clause-spares : goal.put-returns-in-Some-clause-spares
put-returns-in-Some-clause-spares t c at count h =
    let n = c.place-at.result in
    let w = the_way c.args.order c.args.block n c.args.twig.now _ c.deref.result.now c.index_mut-child.result.now at c.deref.ensures.value c.if-twig-eq1.false
    c.place-at.ensures.within c.place-at.ensures.before c.place-at.ensures.after c.index_mut-child.ensures.value in
    c.put_below.ensures.spares (below_way c.args.order c.args.block n c.args.twig.now _ c.index_mut-child.result.now at w) count (subst (λ l. HasSpares c.args.order (count + l) c.args.spares.now.items) w.level_is h)

pub put-returns-in-None-clause-put : goal.put-returns-in-None-clause-put
put-returns-in-None-clause-put t c at =
    let n = c.place-at.result in
    let w = the_way c.args.order c.args.block n c.args.twig.now _ c.deref.result.now c.index_mut-child.result.now at c.deref.ensures.value c.if-twig-eq1.false
    c.place-at.ensures.within c.place-at.ensures.before c.place-at.ensures.after c.index_mut-child.ensures.value in
    let p = c.put_below.ensures.put (below_way c.args.order c.args.block n c.args.twig.now _ c.index_mut-child.result.now at w) in
    let q = subst (λ l. IsChildPut c.args.order l (start_by low_of (drop n (children_of c.args.twig.now)) at.high) (datum c.args.block c.args.addr c.args.key) c.index_mut-child.result.now c.put_below.new.child c.put_below.result) (sym w.level_is) p in
    let none = subst (IsChildPut c.args.order at.level (start_by low_of (drop n (children_of c.args.twig.now)) at.high) (datum c.args.block c.args.addr c.args.key) c.index_mut-child.result.now c.put_below.new.child) c.in-None.is q in
    let r = put_alone c.args.order c.args.block at.level at.least at.low at.high n (datum c.args.block c.args.addr c.args.key) (children_of c.args.twig.now) c.index_mut-child.result.now c.put_below.new.child at.shaped.node w none in
    twig_put c.args.order at.level at.least at.low at.high (out-Twig c.args.twig.now).level (datum c.args.block c.args.addr c.args.key) c.args.twig.now _ at.shaped.level_is at.shaped.room
    (subst (IsPut c.args.order at.level at.least (c.args.order + 1) at.low at.high (datum c.args.block c.args.addr c.args.key) (children_of c.args.twig.now)) (sym (set_on_way n w.at (children_of c.args.twig.now) c.put_below.new.child w.at_is w.within)) r)

pub put-returns-in-None-clause-spares : goal.put-returns-in-None-clause-spares
put-returns-in-None-clause-spares t c at count h =
    let n = c.place-at.result in
    let w = the_way c.args.order c.args.block n c.args.twig.now _ c.deref.result.now c.index_mut-child.result.now at c.deref.ensures.value c.if-twig-eq1.false
    c.place-at.ensures.within c.place-at.ensures.before c.place-at.ensures.after c.index_mut-child.ensures.value in
    c.put_below.ensures.spares (below_way c.args.order c.args.block n c.args.twig.now _ c.index_mut-child.result.now at w) count (subst (λ l. HasSpares c.args.order (count + l) c.args.spares.now.items) w.level_is h)

pub put_below-unreachable-requires : goal.put_below-unreachable-requires
put_below-unreachable-requires t c =
    let at = subst (CanPutBelow c.args.order c.args.block c.args.spares.now.items) c.in-Kept.is c.requires.can in
    open_is_grown c.args.order c.args.block at.level at.high c.in-Kept.low c.in-Kept.addr c.in-Kept.key at.from at.to at.is_open

pub put_below-put-requires : goal.put_below-put-requires
put_below-put-requires t c = rw (c.in-Grown.is, made.outs-Grown c.in-Grown.low c.in-Grown.twig) (
  let d = rw c.in-Grown.is at c.decreases in search (rules, the_lemmas, d),
  (
    c.requires.four,
    below_grown c.args.order c.args.block c.in-Grown.low _ c.in-Grown.twig (subst (CanPutBelow c.args.order c.args.block c.args.spares.now.items) c.in-Grown.is c.requires.can),
  ),
)

pub put_below-returns-then-len-order-clause-put : goal.put_below-returns-then-len-order-clause-put
put_below-returns-then-len-order-clause-put t c at =
    let grown = subst (CanPutBelow c.args.order c.args.block c.args.spares.now.items) c.in-Grown.is at in
    let open_at = below_grown c.args.order c.args.block c.in-Grown.low _ c.in-Grown.twig grown in
    let e = rw (c.in-Grown.is, made.outs-Grown c.in-Grown.low c.in-Grown.twig) at c.put.ensures in
    let q = child_put c.args.order at.level c.in-Grown.low at.high (datum c.args.block c.args.addr c.args.key) c.in-Grown.twig c.put.new.twig (e.put open_at) (omega arith) in
    rw (c.in-Grown.is, made.outs-Grown c.in-Grown.low c.in-Grown.twig) (rw (made.outs-Grown c.in-Grown.low c.in-Grown.twig) at q)

pub put_below-returns-then-len-order-clause-spares : goal.put_below-returns-then-len-order-clause-spares
put_below-returns-then-len-order-clause-spares t c at count h =
    let grown = subst (CanPutBelow c.args.order c.args.block c.args.spares.now.items) c.in-Grown.is at in
    let open_at = below_grown c.args.order c.args.block c.in-Grown.low _ c.in-Grown.twig grown in
    let e = rw (c.in-Grown.is, made.outs-Grown c.in-Grown.low c.in-Grown.twig) at c.put.ensures in
    e.spares open_at count (fewer c.args.order (count + at.level) (count + suc at.level) _ (omega arith) h)

pub put_below-split-requires-clause-long : goal.put_below-split-requires-clause-long
put_below-split-requires-clause-long t c =
    let at = c.requires.can in
    let grown = subst (CanPutBelow c.args.order c.args.block c.args.spares.now.items) c.in-Grown.is at in
    let open_at = below_grown c.args.order c.args.block c.in-Grown.low _ c.in-Grown.twig grown in
    let e = rw (c.in-Grown.is, made.outs-Grown c.in-Grown.low c.in-Grown.twig) at c.put.ensures in
    let p = e.put open_at in
    omega (arith, p.shaped.node.within)

pub put_below-split-requires-clause-spare : goal.put_below-split-requires-clause-spare
put_below-split-requires-clause-spare t c =
    let at = c.requires.can in
    let grown = subst (CanPutBelow c.args.order c.args.block c.args.spares.now.items) c.in-Grown.is at in
    let open_at = below_grown c.args.order c.args.block c.in-Grown.low _ c.in-Grown.twig grown in
    let e = rw (c.in-Grown.is, made.outs-Grown c.in-Grown.low c.in-Grown.twig) at c.put.ensures in
    e.spares open_at 1 (fewer c.args.order (1 + at.level) (suc at.level) _ (omega arith) at.enough)

pub put_below-returns-clause-put : goal.put_below-returns-clause-put
put_below-returns-clause-put t c at =
    let grown = subst (CanPutBelow c.args.order c.args.block c.args.spares.now.items) c.in-Grown.is at in
    let open_at = below_grown c.args.order c.args.block c.in-Grown.low _ c.in-Grown.twig grown in
    let e = rw (c.in-Grown.is, made.outs-Grown c.in-Grown.low c.in-Grown.twig) at c.put.ensures in
    let p = e.put open_at in
    let q = child_cut c.args.order at.level c.in-Grown.low at.high (datum c.args.block c.args.addr c.args.key) c.in-Grown.twig c.put.new.twig c.split.new.twig c.split.result
    p (c.split.ensures.split at.level c.in-Grown.low at.high p.shaped) in
    rw (c.in-Grown.is, made.outs-Grown c.in-Grown.low c.in-Grown.twig) (rw (made.outs-Grown c.in-Grown.low c.in-Grown.twig) at q)

pub put_below-returns-clause-spares : goal.put_below-returns-clause-spares
put_below-returns-clause-spares t c at count h =
    let grown = subst (CanPutBelow c.args.order c.args.block c.args.spares.now.items) c.in-Grown.is at in
    let open_at = below_grown c.args.order c.args.block c.in-Grown.low _ c.in-Grown.twig grown in
    let e = rw (c.in-Grown.is, made.outs-Grown c.in-Grown.low c.in-Grown.twig) at c.put.ensures in
    c.split.ensures.spares count (e.spares open_at (count + 1) (fewer c.args.order (count + 1 + at.level) (count + suc at.level) _ (omega arith) h))

pub put-returns-then-twig-eq1-clause-nodes : goal.put-returns-then-twig-eq1-clause-nodes
put-returns-then-twig-eq1-clause-nodes t c at = leaf_nodes at.level (out-Twig c.args.twig.now).level c.args.twig.now c.put_datum.new.children at.shaped.level_is c.if-twig-eq1.true

pub put-returns-in-None-clause-nodes : goal.put-returns-in-None-clause-nodes
put-returns-in-None-clause-nodes t c at =
    let n = c.place-at.result in
    let w = the_way c.args.order c.args.block n c.args.twig.now _ c.deref.result.now c.index_mut-child.result.now at c.deref.ensures.value c.if-twig-eq1.false
    c.place-at.ensures.within c.place-at.ensures.before c.place-at.ensures.after c.index_mut-child.ensures.value in
    let k = subst (λ l. nodes l c.put_below.new.child + sum_by (nodes l) (option_to_list c.put_below.result) ≤ nodes l c.index_mut-child.result.now + l) (sym w.level_is)
    (c.put_below.ensures.nodes (below_way c.args.order c.args.block n c.args.twig.now _ c.index_mut-child.result.now at w)) in
    one_nodes at.level (out-Twig c.args.twig.now).level n w.at c.args.twig.now c.index_mut-child.result.now c.put_below.new.child
    (with_item (out-Twig c.args.twig.now).children (n - 1) c.put_below.new.child) w.at_is w.within w.here refl
    (subst (λ o. nodes at.level c.put_below.new.child + sum_by (nodes at.level) (option_to_list o) ≤ nodes at.level c.index_mut-child.result.now + at.level) c.in-None.is k)

pub put-returns-in-Some-clause-nodes : goal.put-returns-in-Some-clause-nodes
put-returns-in-Some-clause-nodes t c at =
    let n = c.place-at.result in
    let w = the_way c.args.order c.args.block n c.args.twig.now _ c.deref.result.now c.index_mut-child.result.now at c.deref.ensures.value c.if-twig-eq1.false
    c.place-at.ensures.within c.place-at.ensures.before c.place-at.ensures.after c.index_mut-child.ensures.value in
    let k = subst (λ l. nodes l c.put_below.new.child + sum_by (nodes l) (option_to_list c.put_below.result) ≤ nodes l c.index_mut-child.result.now + l) (sym w.level_is)
    (c.put_below.ensures.nodes (below_way c.args.order c.args.block n c.args.twig.now _ c.index_mut-child.result.now at w)) in
    two_nodes at.level (out-Twig c.args.twig.now).level n w.at c.args.twig.now c.index_mut-child.result.now c.put_below.new.child c.insert.new.children w.at_is w.within w.here c.in-Some.part c.insert.ensures.items
    (subst (λ o. nodes at.level c.put_below.new.child + sum_by (nodes at.level) (option_to_list o) ≤ nodes at.level c.index_mut-child.result.now + at.level) c.in-Some.is k)

pub put_below-returns-then-len-order-clause-nodes : goal.put_below-returns-then-len-order-clause-nodes
put_below-returns-then-len-order-clause-nodes t c at =
    let grown = subst (CanPutBelow c.args.order c.args.block c.args.spares.now.items) c.in-Grown.is at in
    let open_at = below_grown c.args.order c.args.block c.in-Grown.low _ c.in-Grown.twig grown in
    let e = rw (c.in-Grown.is, made.outs-Grown c.in-Grown.low c.in-Grown.twig) at c.put.ensures in
    let a = nodes_grown at.level c.in-Grown.low c.in-Grown.twig in
    let b = nodes_grown at.level c.in-Grown.low c.put.new.twig in
    let m = e.nodes open_at in
    rw (c.in-Grown.is, made.outs-Grown c.in-Grown.low c.in-Grown.twig) (omega (arith, a, b, m))

pub put_below-returns-clause-nodes : goal.put_below-returns-clause-nodes
put_below-returns-clause-nodes t c at =
    let grown = subst (CanPutBelow c.args.order c.args.block c.args.spares.now.items) c.in-Grown.is at in
    let open_at = below_grown c.args.order c.args.block c.in-Grown.low _ c.in-Grown.twig grown in
    let e = rw (c.in-Grown.is, made.outs-Grown c.in-Grown.low c.in-Grown.twig) at c.put.ensures in
    let a = nodes_grown at.level c.in-Grown.low c.in-Grown.twig in
    let b = nodes_grown at.level c.in-Grown.low c.split.new.twig in
    let m = e.nodes open_at in
    let p = c.split.ensures.nodes at.level in
    rw (c.in-Grown.is, made.outs-Grown c.in-Grown.low c.in-Grown.twig) (omega (arith, a, b, m, p))

pub put-returns-then-twig-eq1-clause-levels : goal.put-returns-then-twig-eq1-clause-levels
put-returns-then-twig-eq1-clause-levels t c medium m at =
    leaf_rows medium c.args.order c.args.block at.level at.high (out-Twig c.args.twig.now).level c.args.twig.now c.put_datum.new.children at.shaped.level_is c.if-twig-eq1.true c.put_datum.ensures.lows

-- a child begins where it did
begins_alike : (order level high : ℕ) (stub : Stub) (old new : Child) (part : Option Child) → IsChildPut order level high stub old new part → low_of new ≡ low_of old
begins_alike order level high stub old new None p = p.0
begins_alike order level high stub old new (Some part) p = p.0

pub put-returns-in-None-clause-levels : goal.put-returns-in-None-clause-levels
put-returns-in-None-clause-levels t c medium m at =
    let n = c.place-at.result in
    let w = the_way c.args.order c.args.block n c.args.twig.now _ c.deref.result.now c.index_mut-child.result.now at c.deref.ensures.value c.if-twig-eq1.false
    c.place-at.ensures.within c.place-at.ensures.before c.place-at.ensures.after c.index_mut-child.ensures.value in
    let can = below_way c.args.order c.args.block n c.args.twig.now _ c.index_mut-child.result.now at w in
    let put = c.put_below.ensures.put can in
    let rows = c.put_below.ensures.levels medium m can in
    row_alone medium m c.args.order c.args.block at.level at.least at.low at.high n (out-Twig c.args.twig.now).level c.args.twig.now c.index_mut-child.result.now c.put_below.new.child at.shaped.node w
    (begins_alike c.args.order _ _ _ c.index_mut-child.result.now c.put_below.new.child c.put_below.result put)
    (with_item (out-Twig c.args.twig.now).children (n - 1) c.put_below.new.child) (set_on_way n w.at (children_of c.args.twig.now) c.put_below.new.child w.at_is w.within)
    (subst (IsRowPutBelow medium c.args.order c.args.block (suc w.below) (start_by low_of (drop n (children_of c.args.twig.now)) at.high) c.index_mut-child.result.now c.put_below.new.child) c.in-None.is rows)

pub put-returns-in-Some-clause-levels : goal.put-returns-in-Some-clause-levels
put-returns-in-Some-clause-levels t c medium m at =
    let n = c.place-at.result in
    let w = the_way c.args.order c.args.block n c.args.twig.now _ c.deref.result.now c.index_mut-child.result.now at c.deref.ensures.value c.if-twig-eq1.false
    c.place-at.ensures.within c.place-at.ensures.before c.place-at.ensures.after c.index_mut-child.ensures.value in
    let can = below_way c.args.order c.args.block n c.args.twig.now _ c.index_mut-child.result.now at w in
    let put = c.put_below.ensures.put can in
    let rows = c.put_below.ensures.levels medium m can in
    row_two medium m c.args.order c.args.block at.level at.least at.low at.high n (out-Twig c.args.twig.now).level c.args.twig.now c.index_mut-child.result.now c.put_below.new.child at.shaped.node w
    (begins_alike c.args.order _ _ _ c.index_mut-child.result.now c.put_below.new.child c.put_below.result put)
    c.insert.new.children c.in-Some.part (c.insert.ensures.items ∙ insert_on_way n w.at (children_of c.args.twig.now) c.put_below.new.child c.in-Some.part w.at_is w.within)
    (subst (IsRowPutBelow medium c.args.order c.args.block (suc w.below) (start_by low_of (drop n (children_of c.args.twig.now)) at.high) c.index_mut-child.result.now c.put_below.new.child) c.in-Some.is rows)

pub put_below-returns-then-len-order-clause-levels : goal.put_below-returns-then-len-order-clause-levels
put_below-returns-then-len-order-clause-levels t c medium m at =
    let grown = subst (CanPutBelow c.args.order c.args.block c.args.spares.now.items) c.in-Grown.is at in
    let open_at = below_grown c.args.order c.args.block c.in-Grown.low _ c.in-Grown.twig grown in
    let e = rw (c.in-Grown.is, made.outs-Grown c.in-Grown.low c.in-Grown.twig) at c.put.ensures in
    let q = fits_child medium c.args.order c.args.block at.level at.high c.in-Grown.low c.in-Grown.twig c.put.new.twig open_at.from (omega arith) (e.levels medium m open_at) in
    rw (c.in-Grown.is, made.outs-Grown c.in-Grown.low c.in-Grown.twig) q

pub put_below-returns-clause-levels : goal.put_below-returns-clause-levels
put_below-returns-clause-levels t c medium m at =
    let grown = subst (CanPutBelow c.args.order c.args.block c.args.spares.now.items) c.in-Grown.is at in
    let open_at = below_grown c.args.order c.args.block c.in-Grown.low _ c.in-Grown.twig grown in
    let e = rw (c.in-Grown.is, made.outs-Grown c.in-Grown.low c.in-Grown.twig) at c.put.ensures in
    let p = e.put open_at in
    let q = cut_child medium c.args.order c.args.block at.level at.high c.in-Grown.low c.in-Grown.twig c.put.new.twig c.split.new.twig c.split.result open_at.from open_at.shaped.node.within (omega (arith, p.shaped.node.within))
    (e.levels medium m open_at) c.split.ensures.cut in
    rw (c.in-Grown.is, made.outs-Grown c.in-Grown.low c.in-Grown.twig) q

pub put-returns-then-twig-eq1-clause-stays : goal.put-returns-then-twig-eq1-clause-stays
put-returns-then-twig-eq1-clause-stays t c at has =
    let zero_is : at.level ≡ 0 = omega (arith, at.shaped.level_is, c.if-twig-eq1.true) in
    ap length (children_of_roll (record { level = (out-Twig c.args.twig.now).level; children = c.put_datum.new.children }))
    ∙ c.put_datum.ensures.stays c.args.order at.least c.args.order at.low at.high
    (subst (λ l. IsNode c.args.order l at.least c.args.order at.low at.high (children_of c.args.twig.now)) zero_is at.shaped.node) at.to
    (subst (λ l. HasDatum c.args.block (stubs_below l at.high c.args.twig.now)) zero_is has)

-- no child is cut
never_both : (o : Option Child) (part : Child) → o ≡ None → o ≡ Some part → ⊥
never_both o part none some = cc

pub put-returns-in-Some-clause-stays : goal.put-returns-in-Some-clause-stays
put-returns-in-Some-clause-stays t c at has =
    let n = c.place-at.result in
    let cs = children_of c.args.twig.now in
    let child = c.index_mut-child.result.now in
    let w = the_way c.args.order c.args.block n c.args.twig.now _ c.deref.result.now child at c.deref.ensures.value c.if-twig-eq1.false
    c.place-at.ensures.within c.place-at.ensures.before c.place-at.ensures.after c.index_mut-child.ensures.value in
    let there = datum_below c.args.order at.level at.least c.args.order at.low at.high c.args.block cs at.shaped.node w.at n child w.at_is w.within w.here w.from w.to has in
    absurd (never_both c.put_below.result c.in-Some.part
    (c.put_below.ensures.stays (below_way c.args.order c.args.block n c.args.twig.now _ child at w)
    (subst (λ l. HasDatum c.args.block (stubs l (start_by low_of (drop n cs) at.high) child)) w.level_is there))
    c.in-Some.is)

pub put_below-returns-clause-stays : goal.put_below-returns-clause-stays
put_below-returns-clause-stays t c at has =
    let grown = subst (CanPutBelow c.args.order c.args.block c.args.spares.now.items) c.in-Grown.is at in
    let open_at = below_grown c.args.order c.args.block c.in-Grown.low _ c.in-Grown.twig grown in
    let e = rw (c.in-Grown.is, made.outs-Grown c.in-Grown.low c.in-Grown.twig) at c.put.ensures in
    let there = subst (λ x. HasDatum c.args.block (stubs (suc at.level) at.high x)) c.in-Grown.is has in
    let same = e.stays open_at (subst (HasDatum c.args.block) (stubs_of_grown at.level at.high c.in-Grown.low c.in-Grown.twig) there) in
    absurd (omega (arith, same, open_at.shaped.node.within))

pub put-returns-then-twig-eq1-clause-rooms : goal.put-returns-then-twig-eq1-clause-rooms
put-returns-then-twig-eq1-clause-rooms t c at =
    ap (λ n. n + list_rooms c.args.spares.now.items) (leaf_rooms at.level (out-Twig c.args.twig.now).level c.args.twig.now c.put_datum.new.children at.shaped.level_is c.if-twig-eq1.true)

pub put-returns-in-None-clause-rooms : goal.put-returns-in-None-clause-rooms
put-returns-in-None-clause-rooms t c at =
    let n = c.place-at.result in
    let w = the_way c.args.order c.args.block n c.args.twig.now _ c.deref.result.now c.index_mut-child.result.now at c.deref.ensures.value c.if-twig-eq1.false
    c.place-at.ensures.within c.place-at.ensures.before c.place-at.ensures.after c.index_mut-child.ensures.value in
    let k = subst (λ l. rooms l c.put_below.new.child + (sum_by (rooms l) (option_to_list c.put_below.result) + list_rooms c.put_below.new.spares.items) ≡ rooms l c.index_mut-child.result.now + list_rooms c.args.spares.now.items) (sym w.level_is)
    (c.put_below.ensures.rooms (below_way c.args.order c.args.block n c.args.twig.now _ c.index_mut-child.result.now at w)) in
    one_rooms at.level (out-Twig c.args.twig.now).level n w.at _ _ c.args.twig.now c.index_mut-child.result.now c.put_below.new.child
    (with_item (out-Twig c.args.twig.now).children (n - 1) c.put_below.new.child) w.at_is w.within w.here refl
    (subst (λ o. rooms at.level c.put_below.new.child + (sum_by (rooms at.level) (option_to_list o) + list_rooms c.put_below.new.spares.items) ≡ rooms at.level c.index_mut-child.result.now + list_rooms c.args.spares.now.items) c.in-None.is k)

pub put-returns-in-Some-clause-rooms : goal.put-returns-in-Some-clause-rooms
put-returns-in-Some-clause-rooms t c at =
    let n = c.place-at.result in
    let w = the_way c.args.order c.args.block n c.args.twig.now _ c.deref.result.now c.index_mut-child.result.now at c.deref.ensures.value c.if-twig-eq1.false
    c.place-at.ensures.within c.place-at.ensures.before c.place-at.ensures.after c.index_mut-child.ensures.value in
    let k = subst (λ l. rooms l c.put_below.new.child + (sum_by (rooms l) (option_to_list c.put_below.result) + list_rooms c.put_below.new.spares.items) ≡ rooms l c.index_mut-child.result.now + list_rooms c.args.spares.now.items) (sym w.level_is)
    (c.put_below.ensures.rooms (below_way c.args.order c.args.block n c.args.twig.now _ c.index_mut-child.result.now at w)) in
    two_rooms at.level (out-Twig c.args.twig.now).level n w.at _ _ c.args.twig.now c.index_mut-child.result.now c.put_below.new.child c.insert.new.children w.at_is w.within w.here c.in-Some.part c.insert.ensures.items
    (subst (λ o. rooms at.level c.put_below.new.child + (sum_by (rooms at.level) (option_to_list o) + list_rooms c.put_below.new.spares.items) ≡ rooms at.level c.index_mut-child.result.now + list_rooms c.args.spares.now.items) c.in-Some.is k)

pub put_below-returns-then-len-order-clause-rooms : goal.put_below-returns-then-len-order-clause-rooms
put_below-returns-then-len-order-clause-rooms t c at =
    let grown = subst (CanPutBelow c.args.order c.args.block c.args.spares.now.items) c.in-Grown.is at in
    let open_at = below_grown c.args.order c.args.block c.in-Grown.low _ c.in-Grown.twig grown in
    let e = rw (c.in-Grown.is, made.outs-Grown c.in-Grown.low c.in-Grown.twig) at c.put.ensures in
    let a = rooms_grown at.level c.in-Grown.low c.in-Grown.twig in
    let m = e.rooms open_at in
    let same = e.room in
    let b = rooms_grown at.level c.in-Grown.low c.put.new.twig in
    rw (c.in-Grown.is, made.outs-Grown c.in-Grown.low c.in-Grown.twig) (omega (arith, a, b, m, same))

pub put_below-returns-clause-rooms : goal.put_below-returns-clause-rooms
put_below-returns-clause-rooms t c at =
    let grown = subst (CanPutBelow c.args.order c.args.block c.args.spares.now.items) c.in-Grown.is at in
    let open_at = below_grown c.args.order c.args.block c.in-Grown.low _ c.in-Grown.twig grown in
    let e = rw (c.in-Grown.is, made.outs-Grown c.in-Grown.low c.in-Grown.twig) at c.put.ensures in
    let a = rooms_grown at.level c.in-Grown.low c.in-Grown.twig in
    let m = e.rooms open_at in
    let same = e.room in
    let b = rooms_grown at.level c.in-Grown.low c.split.new.twig in
    let p = split_rooms c.args.order at.level c.put.new.twig c.split.new.twig c.split.result c.put.new.spares c.split.new.spares c.split.ensures.cut c.split.ensures.part in
    rw (c.in-Grown.is, made.outs-Grown c.in-Grown.low c.in-Grown.twig) (omega (arith, a, b, m, same, p, c.split.ensures.room))
