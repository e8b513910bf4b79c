use Rattle.std.proofs.Common.{◌≡◌, ℕ, suc, ◌+◌, ◌/◌, ◌<◌, ◌≤◌, List, length, sym, ap, subst, ◌∙◌, arith}
use Rattle.std.specs.declared.vec.Vec.{Vec}
use Rattle.std.specs.declared.alloc.Global.{Global}
use Rattle.btree_twigs.specs.declared.twigs.Child.{Child}
use Rattle.btree_twigs.specs.declared.twigs.Child.TheVariants as made
use Rattle.btree_twigs.specs.declared.twigs.Twig.{Twig}
use Rattle.btree_twigs.specs.Stubs.{Stub, children_of, datum, level_of, stubs, stubs_below}
use Rattle.btree_twigs.specs.Shape.{IsTwig}
use Rattle.btree_twigs.specs.Updates.{IsOpen, CanPut, HasSpares, IsTwigPut}
use Rattle.btree_twigs.specs.Top.{child_level, CanRaise, IsRaised, IsTopBy, top_least, level_in, CanPutTop}
use Rattle.btree_twigs.proofs.Ways.{fewer}
use Rattle.btree_twigs.proofs.Nodes.{stubs_of_grown}
use Rattle.btree_twigs.proofs.Tops.{top_kept, top_raised, cut_rooms}
use Rattle.btree_twigs.specs.Updates.{rooms}
use Rattle.btree_twigs.proofs.Counts.{rooms_grown}
use Rattle.btree_twigs.proofs.LevelLaws.{kept_rows, raised_rows}
use Rattle.btree_twigs.specs.Search.{HasDatum}
use Rattle.btree_twigs.proofs.putting.put_top.Goals as goal

-- below the root
abbrev open_top : (order block low : ℕ) (spares : _) (twig : Twig) (at : CanPutTop order block spares (made.Grown low twig)) → CanPut order block spares twig
open_top order block low spares twig at =
    let h = subst (IsTopBy order at.level at.high) (made.outs-Grown low twig) at.shaped in
    record {
      level = at.level;
      least = top_least at.level;
      low = 0;
      high = at.high;
      shaped = h.1;
      from = omega arith;
      to = at.to;
      is_open = subst (IsOpen block) (stubs_of_grown at.level at.high low twig) at.is_open;
      enough = fewer order at.level (at.level + 2) _ (omega arith) at.enough;
    }

-- a root with one child more than may be has enough of them to be cut in two
too_long : (order level high : ℕ) (stub : Stub) (old new : Twig) → 4 ≤ order → IsTwigPut order level (top_least level) 0 high stub old new
    → order < length (children_of new) → IsTwig order level (order / 2) (order + 1) 0 high new
too_long order level high stub old new four p more = record {
  level_is = p.shaped.level_is;
  room = p.shaped.room;
  node = record { enough = omega (arith, four, more); within = p.shaped.node.within; begins = p.shaped.node.begins; each = p.shaped.node.each };
}

-- a new root can be put above the parts of one that was cut in two
abbrev can_raise : (order level low : ℕ) (left : Twig) (part : Child) (spares : List (Vec Child Global)) → level_of left ≡ suc level → level < 254 → 4 ≤ order
    → HasSpares order 1 spares → CanRaise (made.Grown low left) part spares
can_raise order level low left part spares is small four spare = record {
  level = level;
  level_is = ap level_in (made.outs-Grown low left) ∙ is;
  small = small;
  order = order;
  four = four;
  spare = spare;
}

pub put-requires-clause-can : goal.put-requires-clause-can
put-requires-clause-can c = rw (c.in-Grown.is, made.outs-Grown c.in-Grown.low c.in-Grown.twig)
    (open_top c.args.order c.args.block c.in-Grown.low _ c.in-Grown.twig (subst (CanPutTop c.args.order c.args.block c.args.spares.now.items) c.in-Grown.is c.requires.can))

pub split-part-requires-clause-long : goal.split-part-requires-clause-long
split-part-requires-clause-long c =
    let e = rw (c.in-Grown.is, made.outs-Grown c.in-Grown.low c.in-Grown.twig) at c.put.ensures in
    let p = e.put (open_top c.args.order c.args.block c.in-Grown.low _ c.in-Grown.twig (subst (CanPutTop c.args.order c.args.block c.args.spares.now.items) c.in-Grown.is c.requires.can)) in
    omega (arith, p.shaped.node.within)

pub split-part-requires-clause-spare : goal.split-part-requires-clause-spare
split-part-requires-clause-spare c =
    let at = c.requires.can in
    let e = rw (c.in-Grown.is, made.outs-Grown c.in-Grown.low c.in-Grown.twig) at c.put.ensures in
    e.spares (open_top c.args.order c.args.block c.in-Grown.low _ c.in-Grown.twig (subst (CanPutTop c.args.order c.args.block c.args.spares.now.items) c.in-Grown.is at)) 1
    (fewer c.args.order (1 + at.level) (at.level + 2) _ (omega arith) at.enough)

pub raise-requires : goal.raise-requires
raise-requires c =
    let at = c.requires.can in
    let e = rw (c.in-Grown.is, made.outs-Grown c.in-Grown.low c.in-Grown.twig) at c.put.ensures in
    let open_at = open_top c.args.order c.args.block c.in-Grown.low _ c.in-Grown.twig (subst (CanPutTop c.args.order c.args.block c.args.spares.now.items) c.in-Grown.is at) in
    let full = too_long c.args.order at.level at.high _ c.in-Grown.twig c.put.new.twig c.requires.four (e.put open_at) (omega arith) in
    let s = c.split-part.ensures.split at.level 0 at.high full in
    let spare = e.spares open_at 2 (fewer c.args.order (2 + at.level) (at.level + 2) _ (omega arith) at.enough) in
    rw (c.in-Grown.is, made.outs-Grown c.in-Grown.low c.in-Grown.twig) (record {
      can = can_raise c.args.order at.level c.in-Grown.low c.split-part.new.twig _ _ s.left.level_is at.small c.requires.four (c.split-part.ensures.spares 1 spare);
    })

pub returns-then-len-order-clause-put : goal.returns-then-len-order-clause-put
returns-then-len-order-clause-put c at =
    let e = rw (c.in-Grown.is, made.outs-Grown c.in-Grown.low c.in-Grown.twig) at c.put.ensures in
    let grown = subst (CanPutTop c.args.order c.args.block c.args.spares.now.items) c.in-Grown.is at in
    let zero_is = (subst (IsTopBy c.args.order at.level at.high) (made.outs-Grown c.in-Grown.low c.in-Grown.twig) grown.shaped).0 in
    let open_at = open_top c.args.order c.args.block c.in-Grown.low _ c.in-Grown.twig grown in
    let p = e.put open_at in
    let s = c.split-part.ensures.split at.level 0 at.high (too_long c.args.order at.level at.high _ c.in-Grown.twig c.put.new.twig c.requires.four p (omega arith)) in
    let left = c.split-part.ensures.spares 1 (e.spares open_at 2 (fewer c.args.order (2 + at.level) (at.level + 2) _ (omega arith) at.enough)) in
    let r = rw (c.in-Grown.is, made.outs-Grown c.in-Grown.low c.in-Grown.twig) at c.raise.ensures.raised in
    let raised = r (can_raise c.args.order at.level c.in-Grown.low c.split-part.new.twig _ _ s.left.level_is at.small c.requires.four left) c.args.order left in
    rw c.in-Grown.is (top_raised c.args.order at.level at.high (datum c.args.block c.args.addr c.args.key) c.in-Grown.twig c.put.new.twig c.split-part.new.twig c.in-Grown.low c.split-part.result c.raise.new.top
    c.requires.four zero_is p (e.nodes open_at) (c.split-part.ensures.nodes at.level) s raised)

pub returns-else-len-order-clause-put : goal.returns-else-len-order-clause-put
returns-else-len-order-clause-put c at =
    let e = rw (c.in-Grown.is, made.outs-Grown c.in-Grown.low c.in-Grown.twig) at c.put.ensures in
    let grown = subst (CanPutTop c.args.order c.args.block c.args.spares.now.items) c.in-Grown.is at in
    let open_at = open_top c.args.order c.args.block c.in-Grown.low _ c.in-Grown.twig grown in
    let p = e.put open_at in
    let zero_is = (subst (IsTopBy c.args.order at.level at.high) (made.outs-Grown c.in-Grown.low c.in-Grown.twig) grown.shaped).0 in
    rw (c.in-Grown.is, made.outs-Grown c.in-Grown.low c.in-Grown.twig)
    (top_kept c.args.order at.level at.high (datum c.args.block c.args.addr c.args.key) c.in-Grown.twig c.put.new.twig c.in-Grown.low zero_is p (e.nodes open_at) (omega arith))

pub returns-then-len-order-clause-spares : goal.returns-then-len-order-clause-spares
returns-then-len-order-clause-spares c =
    let at = c.requires.can in
    let e = rw (c.in-Grown.is, made.outs-Grown c.in-Grown.low c.in-Grown.twig) at c.put.ensures in
    let grown = subst (CanPutTop c.args.order c.args.block c.args.spares.now.items) c.in-Grown.is at in
    let open_at = open_top c.args.order c.args.block c.in-Grown.low _ c.in-Grown.twig grown in
    let spare = e.spares open_at 2 (fewer c.args.order (2 + at.level) (at.level + 2) _ (omega arith) at.enough) in
    c.raise.ensures.spares c.args.order 0 (c.split-part.ensures.spares 1 spare)

pub returns-else-len-order-clause-spares : goal.returns-else-len-order-clause-spares
returns-else-len-order-clause-spares c =
    let at = c.requires.can in
    let e = rw (c.in-Grown.is, made.outs-Grown c.in-Grown.low c.in-Grown.twig) at c.put.ensures in
    let grown = subst (CanPutTop c.args.order c.args.block c.args.spares.now.items) c.in-Grown.is at in
    let open_at = open_top c.args.order c.args.block c.in-Grown.low _ c.in-Grown.twig grown in
    e.spares open_at 0 (fewer c.args.order (0 + at.level) (at.level + 2) _ (omega arith) at.enough)

pub returns-else-len-order-clause-levels : goal.returns-else-len-order-clause-levels
returns-else-len-order-clause-levels c medium m at =
    let e = rw (c.in-Grown.is, made.outs-Grown c.in-Grown.low c.in-Grown.twig) at c.put.ensures in
    let grown = subst (CanPutTop c.args.order c.args.block c.args.spares.now.items) c.in-Grown.is at in
    let open_at = open_top c.args.order c.args.block c.in-Grown.low _ c.in-Grown.twig grown in
    let zero_is = (subst (IsTopBy c.args.order at.level at.high) (made.outs-Grown c.in-Grown.low c.in-Grown.twig) grown.shaped).0 in
    let p = e.put open_at in
    rw (c.in-Grown.is, made.outs-Grown c.in-Grown.low c.in-Grown.twig)
    (kept_rows medium c.args.order c.args.block at.level at.high c.in-Grown.low c.in-Grown.twig c.put.new.twig zero_is p.shaped.level_is (omega arith) (e.levels medium m open_at))

pub returns-then-len-order-clause-levels : goal.returns-then-len-order-clause-levels
returns-then-len-order-clause-levels c medium m at =
    let e = rw (c.in-Grown.is, made.outs-Grown c.in-Grown.low c.in-Grown.twig) at c.put.ensures in
    let grown = subst (CanPutTop c.args.order c.args.block c.args.spares.now.items) c.in-Grown.is at in
    let open_at = open_top c.args.order c.args.block c.in-Grown.low _ c.in-Grown.twig grown in
    let p = e.put open_at in
    let long : length (children_of c.put.new.twig) ≡ c.args.order + 1 = omega (arith, p.shaped.node.within) in
    let zero_is = (subst (IsTopBy c.args.order at.level at.high) (made.outs-Grown c.in-Grown.low c.in-Grown.twig) grown.shaped).0 in
    let full : IsTwig c.args.order at.level (c.args.order / 2) (c.args.order + 1) 0 at.high c.put.new.twig = record {
      level_is = p.shaped.level_is;
      room = p.shaped.room;
      node = record { enough = omega (arith, c.requires.four); within = p.shaped.node.within; begins = p.shaped.node.begins; each = p.shaped.node.each };
    } in
    let s = c.split-part.ensures.split at.level 0 at.high full in
    let spare = e.spares open_at 2 (fewer c.args.order (2 + at.level) (at.level + 2) _ (omega arith) at.enough) in
    let left = c.split-part.ensures.spares 1 spare in
    let r = rw (c.in-Grown.is, made.outs-Grown c.in-Grown.low c.in-Grown.twig) at c.raise.ensures.raised in
    let raised = r (record { level = at.level; level_is = ap level_in (made.outs-Grown c.in-Grown.low c.split-part.new.twig) ∙ s.left.level_is; small = at.small; order = c.args.order; four = c.requires.four; spare = left }) c.args.order left in
    rw c.in-Grown.is (raised_rows medium c.args.order c.args.block at.level at.high c.in-Grown.low c.in-Grown.twig c.put.new.twig c.split-part.new.twig c.split-part.result c.raise.new.top
    zero_is open_at.shaped.node.within long (e.levels medium m open_at) c.split-part.ensures.cut raised)

-- the record below a root in memory is below its node
datum_in_top : (block level high low : ℕ) (twig : Twig) → HasDatum block (stubs (suc level) high (made.Grown low twig)) → HasDatum block (stubs_below level high twig)
datum_in_top block level high low twig has = subst (HasDatum block) (stubs_of_grown level high low twig) has

pub returns-then-len-order-clause-stays : goal.returns-then-len-order-clause-stays
returns-then-len-order-clause-stays c at has =
    let e = rw (c.in-Grown.is, made.outs-Grown c.in-Grown.low c.in-Grown.twig) at c.put.ensures in
    let grown = subst (CanPutTop c.args.order c.args.block c.args.spares.now.items) c.in-Grown.is at in
    let open_at = open_top c.args.order c.args.block c.in-Grown.low _ c.in-Grown.twig grown in
    let there = subst (λ x. HasDatum c.args.block (stubs (suc at.level) at.high x)) c.in-Grown.is has in
    let same = e.stays open_at (datum_in_top c.args.block at.level at.high c.in-Grown.low c.in-Grown.twig there) in
    absurd (omega (arith, same, open_at.shaped.node.within))

pub returns-else-len-order-clause-stays : goal.returns-else-len-order-clause-stays
returns-else-len-order-clause-stays c at has =
    let e = rw (c.in-Grown.is, made.outs-Grown c.in-Grown.low c.in-Grown.twig) at c.put.ensures in
    let grown = subst (CanPutTop c.args.order c.args.block c.args.spares.now.items) c.in-Grown.is at in
    let open_at = open_top c.args.order c.args.block c.in-Grown.low _ c.in-Grown.twig grown in
    let p = e.put open_at in
    rw (c.in-Grown.is, made.outs-Grown c.in-Grown.low c.in-Grown.twig)
    (ap level_in (made.outs-Grown c.in-Grown.low c.put.new.twig) ∙ p.shaped.level_is ∙ sym open_at.shaped.level_is)

-- a root one level up is at another level
one_up : (order level : ℕ) (old top part new : Child) → child_level old ≡ suc level → IsRaised order level top part new → child_level new ≡ child_level old → ⊥
one_up order level old top part new was raised same = omega (arith, was, same, ap level_in raised.is, raised.level_is)

pub returns-then-len-order-clause-room : goal.returns-then-len-order-clause-room
returns-then-len-order-clause-room c same =
    let at = c.requires.can in
    let e = rw (c.in-Grown.is, made.outs-Grown c.in-Grown.low c.in-Grown.twig) at c.put.ensures in
    let grown = subst (CanPutTop c.args.order c.args.block c.args.spares.now.items) c.in-Grown.is at in
    let open_at = open_top c.args.order c.args.block c.in-Grown.low _ c.in-Grown.twig grown in
    let p = e.put open_at in
    let spare = e.spares open_at 2 (fewer c.args.order (2 + at.level) (at.level + 2) _ (omega arith) at.enough) in
    let left = c.split-part.ensures.spares 1 spare in
    let was : child_level c.args.top.now ≡ suc at.level = ap child_level c.in-Grown.is ∙ ap level_in (made.outs-Grown c.in-Grown.low c.in-Grown.twig) ∙ open_at.shaped.level_is in
    let r = rw (c.in-Grown.is, made.outs-Grown c.in-Grown.low c.in-Grown.twig) at c.raise.ensures.raised in
    let long : length (children_of c.put.new.twig) ≡ c.args.order + 1 = omega (arith, p.shaped.node.within) in
    let zero_is = (subst (IsTopBy c.args.order at.level at.high) (made.outs-Grown c.in-Grown.low c.in-Grown.twig) grown.shaped).0 in
    let full : IsTwig c.args.order at.level (c.args.order / 2) (c.args.order + 1) 0 at.high c.put.new.twig = record {
      level_is = p.shaped.level_is;
      room = p.shaped.room;
      node = record { enough = omega (arith, c.requires.four); within = p.shaped.node.within; begins = p.shaped.node.begins; each = p.shaped.node.each };
    } in
    let s = c.split-part.ensures.split at.level 0 at.high full in
    let raised = r (record { level = at.level; level_is = ap level_in (made.outs-Grown c.in-Grown.low c.split-part.new.twig) ∙ s.left.level_is; small = at.small; order = c.args.order; four = c.requires.four; spare = left }) c.args.order left in
    absurd (one_up c.args.order at.level c.args.top.now _ _ c.raise.new.top was raised same)

pub returns-else-len-order-clause-rooms : goal.returns-else-len-order-clause-rooms
returns-else-len-order-clause-rooms c at =
    let e = rw (c.in-Grown.is, made.outs-Grown c.in-Grown.low c.in-Grown.twig) at c.put.ensures in
    let grown = subst (CanPutTop c.args.order c.args.block c.args.spares.now.items) c.in-Grown.is at in
    let open_at = open_top c.args.order c.args.block c.in-Grown.low _ c.in-Grown.twig grown in
    let p = e.put open_at in
    let level : child_level (made.Grown c.in-Grown.low c.put.new.twig) ≡ suc at.level = ap level_in (made.outs-Grown c.in-Grown.low c.put.new.twig) ∙ p.shaped.level_is in
    let now = ap (λ l. rooms l (made.Grown c.in-Grown.low c.put.new.twig)) level in
    let a = rooms_grown at.level c.in-Grown.low c.in-Grown.twig in
    let b = rooms_grown at.level c.in-Grown.low c.put.new.twig in
    let m = e.rooms open_at in
    let same = e.room in
    rw (c.in-Grown.is, made.outs-Grown c.in-Grown.low c.in-Grown.twig) (omega (arith, now, a, b, m, same))

pub returns-then-len-order-clause-rooms : goal.returns-then-len-order-clause-rooms
returns-then-len-order-clause-rooms c at =
    let e = rw (c.in-Grown.is, made.outs-Grown c.in-Grown.low c.in-Grown.twig) at c.put.ensures in
    let grown = subst (CanPutTop c.args.order c.args.block c.args.spares.now.items) c.in-Grown.is at in
    let open_at = open_top c.args.order c.args.block c.in-Grown.low _ c.in-Grown.twig grown in
    let p = e.put open_at in
    let s = c.split-part.ensures.split at.level 0 at.high (too_long c.args.order at.level at.high _ c.in-Grown.twig c.put.new.twig c.requires.four p (omega arith)) in
    let left = c.split-part.ensures.spares 1 (e.spares open_at 2 (fewer c.args.order (2 + at.level) (at.level + 2) _ (omega arith) at.enough)) in
    let r = rw (c.in-Grown.is, made.outs-Grown c.in-Grown.low c.in-Grown.twig) at c.raise.ensures in
    let raised = r.raised (can_raise c.args.order at.level c.in-Grown.low c.split-part.new.twig _ _ s.left.level_is at.small c.requires.four left) c.args.order left in
    rw c.in-Grown.is (cut_rooms c.args.order at.level c.in-Grown.low c.in-Grown.twig c.put.new.twig c.split-part.new.twig c.split-part.result c.raise.new.top c.args.spares.now c.put.new.spares c.split-part.new.spares c.raise.new.spares
    e.room c.split-part.ensures.room (e.rooms open_at) c.split-part.ensures.cut c.split-part.ensures.part raised r.room)
