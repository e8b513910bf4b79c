use Rattle.std.proofs.Common.{◌≡◌, ℕ, zero, suc, ◌<◌, ◌≤◌, [], ◌∷◌, length, refl, ◌-◌, sym, ap, subst, ◌∙◌, arith}
use Rattle.btree_twigs.specs.declared.twigs.Child.{Child}
use Rattle.btree_twigs.specs.declared.twigs.Child.TheVariants as made
use Rattle.btree_twigs.specs.declared.twigs.Twig.{Twig, out-Twig}
use Rattle.btree_twigs.specs.Stubs.{children_of, stubs_below}
use Rattle.btree_twigs.specs.Updates.{IsOpen}
use Rattle.btree_twigs.specs.Removal.{below_in, Helps, CanTake, IsTwigTaken}
use Rattle.btree_twigs.specs.Top.{child_level, level_in, IsTopBy, top_least, CanTakeTop, IsTopTaken, HasOnlyBy}
use Rattle.btree_twigs.proofs.Nodes.{stubs_of_grown}
use Rattle.btree_twigs.proofs.Tops.{top_taken, top_gone, top_level, only_of}
use Rattle.btree_twigs.proofs.SinkLaws.{sunk_rows, gone_rows}
use Rattle.btree_twigs.proofs.taking.take_top.Goals as goal

least_two : (level : ℕ) → 1 ≤ level → 2 ≤ top_least level
least_two zero h = absurd (omega (arith, h))
least_two (suc level) h = omega arith

-- below the root
abbrev open_top : (order block low : ℕ) (twig : Twig) (at : CanTakeTop order block (made.Grown low twig)) → CanTake order block twig
open_top order block low twig at =
    let h = subst (IsTopBy order at.level at.high) (made.outs-Grown low twig) at.shaped in
    record {
      level = at.level;
      least = top_least at.level;
      low = 0;
      high = at.high;
      shaped = h.1;
      two = least_two at.level;
      from = omega arith;
      to = at.to;
      is_open = subst (IsOpen block) (stubs_of_grown at.level at.high low twig) at.is_open;
      loses = at.loses;
      helps = subst (λ x. Helps order block at.level (below_in x) at.loses) (made.outs-Grown low twig) at.helps;
    }

-- an inner root with one child
gone_at : (order level high block loses : ℕ) (old new : Twig) (low : ℕ) (x : Child) → 4 ≤ order → low ≡ 0 → block < high → IsOpen block (stubs_below level high old) →
    IsTwigTaken order level (top_least level) 0 high block loses old new → 1 ≤ level → children_of new ≡ x ∷ [] → IsTopTaken order level high block (made.Grown low old) x
gone_at order zero high block loses old new low x four zero_is lt is_open p one e = absurd (omega (arith, one))
gone_at order (suc level) high block loses old new low x four zero_is lt is_open p one e = top_gone order level high block loses old new low x four zero_is lt is_open p e

pub take-requires-clause-can : goal.take-requires-clause-can
take-requires-clause-can c = rw (c.in-Grown.is, made.outs-Grown c.in-Grown.low c.in-Grown.twig)
    (open_top c.args.order c.args.block c.in-Grown.low c.in-Grown.twig (subst (CanTakeTop c.args.order c.args.block) c.in-Grown.is c.requires.can))

-- what is taken below the root
abbrev taken_of : (order block low : ℕ) (top : Child) (twig new : Twig) (is : top ≡ made.Grown low twig) (at : CanTakeTop order block top) →
    ((can : CanTake order block twig) → IsTwigTaken order can.level can.least can.low can.high block can.loses twig new) →
    (low ≡ 0) × IsTwigTaken order at.level (top_least at.level) 0 at.high block at.loses twig new × IsOpen block (stubs_below at.level at.high twig)
taken_of order block low top twig new is at e =
    let grown = subst (CanTakeTop order block) is at in
    let can = open_top order block low twig grown in
    ((subst (IsTopBy order at.level at.high) (made.outs-Grown low twig) grown.shaped).0, e can, can.is_open)

above_leaf : (level lev : ℕ) → lev ≡ suc level → (lev ≡ 1 → ⊥) → 1 ≤ level
above_leaf level lev is other = omega (arith, is, other)

one_left : (n least level : ℕ) → least ≡ top_least level → 1 ≤ level → least - 1 ≤ n → n < 2 → n ≡ 1
one_left n least level is one le lt = omega (arith, is, least_two level one, le, lt)

pub give_way-requires : goal.give_way-requires
give_way-requires c =
    let at = c.requires.can in
    let e = rw (c.in-Grown.is, made.outs-Grown c.in-Grown.low c.in-Grown.twig) at c.take.ensures.taken in
    let t = taken_of c.args.order c.args.block c.in-Grown.low c.args.top.now c.in-Grown.twig c.take.new.twig c.in-Grown.is at e in
    let one = above_leaf at.level (out-Twig c.take.new.twig).level t.1.shaped.level_is c.if-twig-eq1.false in
    let only : length (children_of c.take.new.twig) ≡ 1 = one_left (length (children_of c.take.new.twig)) (top_least at.level) at.level refl one t.1.shaped.node.enough (omega (arith, c.len-is_single.ensures, c.if-is_single.true)) in
    rw (c.in-Grown.is, made.outs-Grown c.in-Grown.low c.in-Grown.twig) (subst HasOnlyBy (sym (made.outs-Grown c.in-Grown.low c.take.new.twig)) only)

pub returns-then-twig-eq1-clause-taken : goal.returns-then-twig-eq1-clause-taken
returns-then-twig-eq1-clause-taken c at =
    let e = rw (c.in-Grown.is, made.outs-Grown c.in-Grown.low c.in-Grown.twig) at c.take.ensures.taken in
    let t = taken_of c.args.order c.args.block c.in-Grown.low c.args.top.now c.in-Grown.twig c.take.new.twig c.in-Grown.is at e in
    rw (c.in-Grown.is, made.outs-Grown c.in-Grown.low c.in-Grown.twig)
    (top_taken c.args.order at.level at.high c.args.block at.loses c.in-Grown.twig c.take.new.twig c.in-Grown.low t.0 t.1 (λ one. absurd (omega (arith, one, t.1.shaped.level_is, c.if-twig-eq1.true))) (rw (c.in-Grown.is, made.outs-Grown c.in-Grown.low c.in-Grown.twig) at c.take.ensures.room))

pub returns-then-is_single-clause-taken : goal.returns-then-is_single-clause-taken
returns-then-is_single-clause-taken c at =
    let e = rw (c.in-Grown.is, made.outs-Grown c.in-Grown.low c.in-Grown.twig) at c.take.ensures.taken in
    let t = taken_of c.args.order c.args.block c.in-Grown.low c.args.top.now c.in-Grown.twig c.take.new.twig c.in-Grown.is at e in
    let one = above_leaf at.level (out-Twig c.take.new.twig).level t.1.shaped.level_is c.if-twig-eq1.false in
    let g = rw (c.in-Grown.is, made.outs-Grown c.in-Grown.low c.in-Grown.twig) at c.give_way.ensures in
    let only : children_of c.take.new.twig ≡ c.give_way.new.top ∷ [] = sym (ap below_in (made.outs-Grown c.in-Grown.low c.take.new.twig)) ∙ g in
    rw c.in-Grown.is (gone_at c.args.order at.level at.high c.args.block at.loses c.in-Grown.twig c.take.new.twig c.in-Grown.low c.give_way.new.top c.requires.four t.0 at.to t.2 t.1 one only)

pub returns-else-is_single-clause-taken : goal.returns-else-is_single-clause-taken
returns-else-is_single-clause-taken c at =
    let e = rw (c.in-Grown.is, made.outs-Grown c.in-Grown.low c.in-Grown.twig) at c.take.ensures.taken in
    let t = taken_of c.args.order c.args.block c.in-Grown.low c.args.top.now c.in-Grown.twig c.take.new.twig c.in-Grown.is at e in
    rw (c.in-Grown.is, made.outs-Grown c.in-Grown.low c.in-Grown.twig)
    (top_taken c.args.order at.level at.high c.args.block at.loses c.in-Grown.twig c.take.new.twig c.in-Grown.low t.0 t.1 (λ one. omega (arith, c.len-is_single.ensures, c.if-is_single.false)) (rw (c.in-Grown.is, made.outs-Grown c.in-Grown.low c.in-Grown.twig) at c.take.ensures.room))

-- an only child stands one level down
only_level : (order level high block loses : ℕ) (old new : Twig) (x : Child) → 4 ≤ order → block < high → IsOpen block (stubs_below level high old) → IsTwigTaken order level (top_least level) 0 high block loses old new → 1 ≤ level →
    children_of new ≡ x ∷ [] → child_level x ≡ level
only_level order zero high block loses old new x four lt is_open p one e = absurd (omega (arith, one))
only_level order (suc level) high block loses old new x four lt is_open p one e = top_level order level high x (only_of order level high block loses old new x four lt is_open p e).shaped

pub returns-then-twig-eq1-clause-levels : goal.returns-then-twig-eq1-clause-levels
returns-then-twig-eq1-clause-levels c medium m at =
    let e = rw (c.in-Grown.is, made.outs-Grown c.in-Grown.low c.in-Grown.twig) at c.take.ensures in
    let can = open_top c.args.order c.args.block c.in-Grown.low c.in-Grown.twig (subst (CanTakeTop c.args.order c.args.block) c.in-Grown.is at) in
    let t = taken_of c.args.order c.args.block c.in-Grown.low c.args.top.now c.in-Grown.twig c.take.new.twig c.in-Grown.is at e.taken in
    rw (c.in-Grown.is, made.outs-Grown c.in-Grown.low c.in-Grown.twig)
    (sunk_rows medium c.args.order c.args.block at.level at.high c.in-Grown.low c.in-Grown.twig c.take.new.twig t.0 t.1.shaped.level_is (λ one. absurd (omega (arith, one, t.1.shaped.level_is, c.if-twig-eq1.true))) (e.levels medium m can))

pub returns-then-is_single-clause-levels : goal.returns-then-is_single-clause-levels
returns-then-is_single-clause-levels c medium m at =
    let e = rw (c.in-Grown.is, made.outs-Grown c.in-Grown.low c.in-Grown.twig) at c.take.ensures in
    let can = open_top c.args.order c.args.block c.in-Grown.low c.in-Grown.twig (subst (CanTakeTop c.args.order c.args.block) c.in-Grown.is at) in
    let t = taken_of c.args.order c.args.block c.in-Grown.low c.args.top.now c.in-Grown.twig c.take.new.twig c.in-Grown.is at e.taken in
    let one = above_leaf at.level (out-Twig c.take.new.twig).level t.1.shaped.level_is c.if-twig-eq1.false in
    let g = rw (c.in-Grown.is, made.outs-Grown c.in-Grown.low c.in-Grown.twig) at c.give_way.ensures in
    let only : children_of c.take.new.twig ≡ c.give_way.new.top ∷ [] = sym (ap below_in (made.outs-Grown c.in-Grown.low c.take.new.twig)) ∙ g in
    rw c.in-Grown.is
    (gone_rows medium c.args.order c.args.block at.level at.high c.in-Grown.low c.in-Grown.twig c.take.new.twig c.give_way.new.top t.0
    (only_level c.args.order at.level at.high c.args.block at.loses c.in-Grown.twig c.take.new.twig c.give_way.new.top c.requires.four at.to t.2 t.1 one only) one only (e.levels medium m can))

pub returns-else-is_single-clause-levels : goal.returns-else-is_single-clause-levels
returns-else-is_single-clause-levels c medium m at =
    let e = rw (c.in-Grown.is, made.outs-Grown c.in-Grown.low c.in-Grown.twig) at c.take.ensures in
    let can = open_top c.args.order c.args.block c.in-Grown.low c.in-Grown.twig (subst (CanTakeTop c.args.order c.args.block) c.in-Grown.is at) in
    let t = taken_of c.args.order c.args.block c.in-Grown.low c.args.top.now c.in-Grown.twig c.take.new.twig c.in-Grown.is at e.taken in
    rw (c.in-Grown.is, made.outs-Grown c.in-Grown.low c.in-Grown.twig)
    (sunk_rows medium c.args.order c.args.block at.level at.high c.in-Grown.low c.in-Grown.twig c.take.new.twig t.0 t.1.shaped.level_is (λ one. omega (arith, c.len-is_single.ensures, c.if-is_single.false)) (e.levels medium m can))

pub returns-then-is_single-clause-room : goal.returns-then-is_single-clause-room
returns-then-is_single-clause-room c same =
    let at = c.requires.can in
    let e = rw (c.in-Grown.is, made.outs-Grown c.in-Grown.low c.in-Grown.twig) at c.take.ensures.taken in
    let t = taken_of c.args.order c.args.block c.in-Grown.low c.args.top.now c.in-Grown.twig c.take.new.twig c.in-Grown.is at e in
    let can = open_top c.args.order c.args.block c.in-Grown.low c.in-Grown.twig (subst (CanTakeTop c.args.order c.args.block) c.in-Grown.is at) in
    let one = above_leaf at.level (out-Twig c.take.new.twig).level t.1.shaped.level_is c.if-twig-eq1.false in
    let g = rw (c.in-Grown.is, made.outs-Grown c.in-Grown.low c.in-Grown.twig) at c.give_way.ensures in
    let only : children_of c.take.new.twig ≡ c.give_way.new.top ∷ [] = sym (ap below_in (made.outs-Grown c.in-Grown.low c.take.new.twig)) ∙ g in
    let was : child_level c.args.top.now ≡ suc at.level = ap child_level c.in-Grown.is ∙ ap level_in (made.outs-Grown c.in-Grown.low c.in-Grown.twig) ∙ can.shaped.level_is in
    let now = only_level c.args.order at.level at.high c.args.block at.loses c.in-Grown.twig c.take.new.twig c.give_way.new.top c.requires.four at.to t.2 t.1 one only in
    absurd (omega (arith, same, was, now))
