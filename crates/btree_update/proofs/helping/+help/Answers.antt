use Rattle.std.proofs.Common.{◌≡◌, ℕ, suc, ◌<◌, ◌≤◌, ◌+◌, ◌-◌, ◌/◌, ◌++◌, ◌∷◌, List, Option, length, take, drop, set, sym, ap, subst, ◌∙◌, rules, arith}
use Rattle.std.specs.Vec.{with_item}
use Rattle.std.proofs.lemmas.List.{length-take-le}
use Rattle.btree_twigs.specs.declared.twigs.Child.{Child}
use Rattle.btree_twigs.specs.declared.twigs.Child.TheVariants as made
use Rattle.btree_twigs.specs.declared.twigs.Twig.{Twig, Twig-F, out-Twig, roll-Twig}
use Rattle.btree_twigs.specs.Stubs.{start_by, low_of, children_of, stubs, stubs_below}
use Rattle.btree_twigs.specs.Shape.{IsChild, IsTwig}
use Rattle.btree_twigs.specs.Updates.{IsNode, IsOpen, stubs_under}
use Rattle.btree_twigs.proofs.Nodes.{children_of_roll}
use Rattle.btree_twigs.proofs.Ways.{open_is_grown}
use Rattle.btree_update.specs.Held.{AnyRead}
use Rattle.btree_update.specs.Beside.{HelpsFrom}
use Rattle.btree_update.specs.Helping.{CanHelpWay, HelpedOut}
use Rattle.btree_update.proofs.OpenLaws.{on_way, twig_opened}
use Rattle.btree_update.proofs.HelpingLaws.{nth, set_at, way_asks, taken_level, q, way_can, out_node, helped_out, way_out, leaf_out, grown_can}
use Rattle.btree_update.proofs.helping.+help.Goals as goal

pub help_below-returns-then-level-eq0-clause-helped : goal.help_below-returns-then-level-eq0-clause-helped
help_below-returns-then-level-eq0-clause-helped t c at =
    leaf_out at.order c.args.level at.least at.low at.high c.args.block at.loses c.args.twig.now at.held c.args.beside.now.items c.args.gone.now.items c.if-level-eq0.true at.shaped at.is_open at.helps

above : (n : ℕ) → (n ≡ 0 → ⊥) → n ≡ suc (n - 1)
above n h = omega (arith, h)

-- before the first child of an inner node there is nothing
no_first : (order l least low high block : ℕ) (cs : List Child) → IsNode order (suc l) least order low high cs → low ≤ block → block < start_by low_of cs high → ⊥
no_first order l least low high block cs h from lt = omega (arith, h.begins, from, lt)

pub help_below-returns-then-at-eq0-clause-helped : goal.help_below-returns-then-at-eq0-clause-helped
help_below-returns-then-at-eq0-clause-helped t c at =
    let after = subst (λ ds. c.args.block < start_by low_of (drop c.place-at.result ds) at.high) c.deref.ensures.value (c.place-at.ensures.after at.high at.to) in
    let shaped = subst (λ k. IsTwig at.order k at.least at.order at.low at.high c.args.twig.now) (above c.args.level c.if-level-eq0.false) at.shaped in
    absurd (no_first at.order (c.args.level - 1) at.least at.low at.high c.args.block (children_of c.args.twig.now) shaped.node at.from
    (subst (λ n. c.args.block < start_by low_of (drop n (children_of c.args.twig.now)) at.high) c.if-at-eq0.true after))

before_is : (i n : ℕ) (cs : List Child) → i < length cs → suc i ≡ n → length (take i cs) + 1 ≡ n
before_is i n cs lt is = omega (arith, length-take-le i cs (omega (arith, lt)), is)

place_lt : (n : ℕ) (ds cs : List Child) → ds ≡ cs → (n ≡ 0 → ⊥) → n ≤ length ds → n - 1 < length cs
place_lt n ds cs same some le = omega (arith, some, le, ap length same)

pub help_below-help_way-requires : goal.help_below-help_way-requires
help_below-help_way-requires t c =
    let at = c.requires.can in
    let level_is = above c.args.level c.if-level-eq0.false in
    let l = c.args.level - 1 in
    let twig = c.args.twig.now in
    let cs = children_of twig in
    let shaped = subst (λ k. IsTwig at.order k at.least at.order at.low at.high twig) level_is at.shaped in
    let opens = subst (λ k. IsOpen c.args.block (stubs_below k at.high twig)) level_is at.is_open in
    let x = nth cs (c.place-at.result - 1) (place_lt c.place-at.result c.deref.result.now cs c.deref.ensures.value c.if-at-eq0.false c.place-at.ensures.within) in
    let w = on_way at.order c.args.block (suc l) at.high c.place-at.result cs c.deref.result.now x.0 c.deref.ensures.value c.if-at-eq0.false c.place-at.ensures.within c.place-at.ensures.before c.place-at.ensures.after at.to x.1 in
    let o = way_asks AnyRead at.order c.args.block c.args.level l at.high at.loses twig at.held c.args.beside.now.items (take w.at cs) x.0 (drop (suc w.at) cs) level_is at.helps w.split w.from w.to in
    let tk = c.take_help.ensures.taken o.helps.rest o.helps.one o.helps.is in (
      search rules,
      (
        way_can at.order l at.least at.low at.high c.args.block c.place-at.result at.loses twig c.take_help.new.twig c.args.beside.now.items c.args.gone.now.items c.take_help.new.gone.items at.held (take w.at cs) x.0 (drop (suc w.at) cs)
            shaped opens w.split (before_is w.at c.place-at.result cs w.within w.at_is) w.from w.to o tk.1 c.index_mut.result.now c.index_mut.ensures.value c.args.level c.take_help.new.beside.items level_is at.four tk.0,
        c.take_help.ensures.room,
      ),
    )

pub help_below-returns-clause-helped : goal.help_below-returns-clause-helped
help_below-returns-clause-helped t c at =
    let level_is = above c.args.level c.if-level-eq0.false in
    let l = c.args.level - 1 in
    let twig = c.args.twig.now in
    let mid = c.take_help.new.twig in
    let cs = children_of twig in
    let shaped = subst (λ k. IsTwig at.order k at.least at.order at.low at.high twig) level_is at.shaped in
    let opens = subst (λ k. IsOpen c.args.block (stubs_below k at.high twig)) level_is at.is_open in
    let x = nth cs (c.place-at.result - 1) (place_lt c.place-at.result c.deref.result.now cs c.deref.ensures.value c.if-at-eq0.false c.place-at.ensures.within) in
    let w = on_way at.order c.args.block (suc l) at.high c.place-at.result cs c.deref.result.now x.0 c.deref.ensures.value c.if-at-eq0.false c.place-at.ensures.within c.place-at.ensures.before c.place-at.ensures.after at.to x.1 in
    let o = way_asks AnyRead at.order c.args.block c.args.level l at.high at.loses twig at.held c.args.beside.now.items (take w.at cs) x.0 (drop (suc w.at) cs) level_is at.helps w.split w.from w.to in
    let tk = c.take_help.ensures.taken o.helps.rest o.helps.one o.helps.is in
    let n_is = before_is w.at c.place-at.result cs w.within w.at_is in
    let can = way_can at.order l at.least at.low at.high c.args.block c.place-at.result at.loses twig mid c.args.beside.now.items c.args.gone.now.items c.take_help.new.gone.items at.held (take w.at cs) x.0 (drop (suc w.at) cs)
    shaped opens w.split n_is w.from w.to o tk.1 c.index_mut.result.now c.index_mut.ensures.value c.args.level c.take_help.new.beside.items level_is at.four tk.0 in
    let h = c.help_way.ensures.helped can in
    let p = q at.order l at.least at.low at.high c.args.block c.place-at.result at.loses twig mid c.args.beside.now.items c.args.gone.now.items c.take_help.new.gone.items at.held (take w.at cs) x.0 (drop (suc w.at) cs)
    shaped opens w.split n_is w.from w.to o tk.1 c.index_mut.result.now c.index_mut.ensures.value in
    let both = out_node at.order l at.least at.low at.high c.args.block c.place-at.result at.loses twig mid c.args.beside.now.items c.args.gone.now.items c.take_help.new.gone.items at.held (take w.at cs) x.0 (drop (suc w.at) cs)
    shaped opens w.split n_is w.from w.to o tk.1 c.index_mut.result.now c.index_mut.ensures.value c.help_way.new.child c.take_help.new.beside.items tk.0 c.help_way.new.gone.items h in
    let new : Twig-F Child Twig = record { level = (out-Twig mid).level; children = with_item (out-Twig mid).children (c.place-at.result - 1) c.help_way.new.child } in
    let set_is : set (children_of mid) (c.place-at.result - 1) c.help_way.new.child ≡ p.comes.front ++ c.help_way.new.child ∷ p.comes.back
    = ap (λ xs. set xs (c.place-at.result - 1) c.help_way.new.child) p.comes.now ∙ set_at p.comes.front c.index_mut.result.now p.comes.back c.help_way.new.child (c.place-at.result - 1) (omega (arith, p.comes.count)) in
    let now = children_of_roll new ∙ set_is in
    let keeps = taken_level c.place-at.result o.helps.one twig mid c.args.gone.now.items c.take_help.new.gone.items tk.1 in
    let fits = twig_opened at.order (suc l) at.least at.low at.high c.args.block (out-Twig mid).level twig (with_item (out-Twig mid).children (c.place-at.result - 1) c.help_way.new.child) (keeps.0 ∙ shaped.level_is) (subst (λ n. at.order < n) (sym keeps.1) shaped.room)
    (subst (IsNode at.order (suc l) at.least at.order at.low at.high) (sym set_is) both.0) (subst (λ xs. IsOpen c.args.block (stubs_under (suc l) at.high xs)) (sym set_is) both.1) in
    subst (λ k. HelpedOut at.order k at.least at.low at.high c.args.block at.loses twig (roll-Twig new) c.args.beside.now.items c.args.gone.now.items c.help_way.new.gone.items) (sym level_is)
    (helped_out at.order l at.least at.low at.high c.args.block c.place-at.result at.loses twig mid c.args.beside.now.items c.args.gone.now.items c.take_help.new.gone.items at.held (take w.at cs) x.0 (drop (suc w.at) cs)
    shaped opens w.split n_is w.from w.to o tk.1 c.index_mut.result.now c.index_mut.ensures.value c.help_way.new.child c.take_help.new.beside.items tk.0 c.help_way.new.gone.items h (roll-Twig new) now fits.shaped)

pub help_way-help_below-requires : goal.help_way-help_below-requires
help_way-help_below-requires t c =
    (search rules, rw (c.in-Grown.is, made.outs-Grown c.in-Grown.low c.in-Grown.twig) (grown_can c.args.level c.args.block c.in-Grown.low c.in-Grown.twig c.args.beside.now.items (subst (CanHelpWay c.args.level c.args.block c.args.beside.now.items) c.in-Grown.is c.requires.can), c.requires.room))

pub help_way-returns-in-Kept-clause-helped : goal.help_way-returns-in-Kept-clause-helped
help_way-returns-in-Kept-clause-helped t c at =
    let from = subst (λ x. low_of x ≤ c.args.block) c.in-Kept.is at.from in
    let opens = subst (λ x. IsOpen c.args.block (stubs (suc at.below) at.high x)) c.in-Kept.is at.is_open in
    absurd (open_is_grown at.order c.args.block at.below at.high c.in-Kept.low c.in-Kept.addr c.in-Kept.key from at.to opens)

-- what is asked of a child in memory
abbrev grown_at : (level block low : ℕ) (child : Child) (twig : Twig) (beside : List (Option Twig)) → child ≡ made.Grown low twig → CanHelpWay level block beside child → CanHelpWay level block beside (made.Grown low twig)
grown_at level block low child twig beside is at = record {
  order = at.order;
  below = at.below;
  level_is = at.level_is;
  high = at.high;
  four = at.four;
  shaped = subst (λ x. IsChild at.order (suc at.below) at.high x) is at.shaped;
  from = subst (λ x. low_of x ≤ block) is at.from;
  to = at.to;
  is_open = subst (λ x. IsOpen block (stubs (suc at.below) at.high x)) is at.is_open;
  held = at.held;
  loses = at.loses;
  helps = subst (λ x. HelpsFrom AnyRead at.order block at.below at.high x at.held beside at.loses) is at.helps;
}

pub help_way-returns-in-Grown-clause-helped : goal.help_way-returns-in-Grown-clause-helped
help_way-returns-in-Grown-clause-helped t c at =
    let e = rw (c.in-Grown.is, made.outs-Grown c.in-Grown.low c.in-Grown.twig) at c.help_below.ensures in
    let at' = grown_at c.args.level c.args.block c.in-Grown.low c.args.child.now c.in-Grown.twig c.args.beside.now.items c.in-Grown.is at in
    let l : c.args.level - 1 ≡ at.below = omega (arith, at.level_is) in
    let h = subst (λ k. HelpedOut at.order k (at.order / 2) c.in-Grown.low at.high c.args.block at.loses c.in-Grown.twig c.help_below.new.twig c.args.beside.now.items c.args.gone.now.items c.help_below.new.gone.items) l
    (e.helped (grown_can c.args.level c.args.block c.in-Grown.low c.in-Grown.twig c.args.beside.now.items at')) in
    rw (c.in-Grown.is, made.outs-Grown c.in-Grown.low c.in-Grown.twig)
    (way_out at.order at.below at.high c.args.block at.loses c.in-Grown.low c.in-Grown.twig c.help_below.new.twig c.args.beside.now.items c.args.gone.now.items c.help_below.new.gone.items h)
