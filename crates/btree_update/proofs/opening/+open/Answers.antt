use Rattle.std.proofs.Common.{◌≡◌, ℕ, suc, ◌<◌, ◌≤◌, ◌+◌, ◌-◌, ◌/◌, ◌++◌, ◌∷◌, List, length, take, drop, set, refl, sym, ap, subst, ◌∙◌, rules, arith}
use Rattle.std.specs.Vec.{with_item}
use Rattle.std.proofs.lemmas.List.{set_split}
use Rattle.btree_twigs.specs.declared.twigs.Child.{Child, out-Child}
use Rattle.btree_twigs.specs.declared.twigs.Child.TheVariants as made
use Rattle.btree_twigs.specs.declared.twigs.Twig.{Twig, Twig-F, out-Twig, roll-Twig}
use Rattle.btree_twigs.specs.Stubs.{start_by, low_of, children_of, stubs, nodes}
use Rattle.btree_twigs.specs.Shape.{IsChild, IsTwig}
use Rattle.btree_twigs.specs.Updates.{IsNode, IsOpen, stubs_under}
use Rattle.btree_twigs.proofs.Nodes.{children_of_roll, low_of_grown, stubs_of_grown, grown_is_child}
use Rattle.btree_update.specs.GroveTree.{want_of}
use Rattle.btree_update.specs.Opens.{HasWay, Fitting, GivesChild}
use Rattle.btree_twigs.proofs.Counts.{one_nodes, nodes_grown}
use Rattle.btree_update.specs.Held.{AreBelow, IsReadAs, OnWay, HeldFor, AnyRead, CanOpen, IsOpened, CanOpenBelow}
use Rattle.btree_update.proofs.OpenLaws.{open_first, child_is, opened, still_below, up_below, IsOnWay, on_way, at_hand, IsUp, up, nodes_is, data_open, twig_opened}
use Rattle.btree_update.proofs.GivesLaws.{child_none, below_none, takes_up, grown_gives, node_gives}
use Rattle.btree_update.specs.Beside.{ReadOver}
use Rattle.btree_update.proofs.HelpLaws.{helps_up, wide_grown, opened_helps}
use Rattle.btree_update.proofs.opening.+open.Goals as goal

pub open_below-returns-then-at-eq0-clause-opened : goal.open_below-returns-then-at-eq0-clause-opened
open_below-returns-then-at-eq0-clause-opened t c at =
    let cs = children_of c.args.twig.now in
    let after = subst (λ ds. c.args.block < start_by low_of (drop c.place-at.result ds) at.high) c.deref.ensures.value (c.place-at.ensures.after at.high at.to) in
    record {
      shaped = at.shaped;
      is_open = open_first at.order c.args.level at.least at.low at.high c.args.block cs at.shaped.node
          (subst (λ n. c.args.block < start_by low_of (drop n cs) at.high) c.if-at-eq0.true after);
    }

above : (n : ℕ) → (n ≡ 0 → ⊥) → n ≡ suc (n - 1)
above n h = omega (arith, h)

abbrev below_at : (order level block n least low high : ℕ) (held : List Twig) (twig : Twig) (c : Child) → IsTwig order level least order low high twig →
    OnWay block (λ high c. HeldFor AnyRead order block level high c held) high twig → IsOnWay order block level high (children_of twig) n c → CanOpen level block held c
below_at order level block n least low high held twig c h at_hand w = record {
  order = order;
  high = start_by low_of (drop (suc w.at) (children_of twig)) high;
  shaped = child_is order level least low high block (take w.at (children_of twig)) c (drop (suc w.at) (children_of twig)) (subst (IsNode order level least order low high) w.split h.node);
  from = w.from;
  to = w.to;
  at_hand = at_hand (take w.at (children_of twig)) (drop (suc w.at) (children_of twig)) c w.split w.from w.to;
}

abbrev below_up : (order block l high : ℕ) (child : Child) (low : ℕ) (twig : Twig) (held : List Twig) → low_of child ≤ block → block < high →
    IsUp AnyRead order (order / 2) block l high (HeldFor AnyRead order block l) (out-Child child) low twig held → CanOpenBelow l block held twig
below_up order block l high child low twig held from to u = record {
  order = order;
  least = order / 2;
  low = low;
  high = high;
  shaped = u.shaped;
  from = omega (arith, from, u.low_is);
  to = to;
  at_hand = u.on_way;
}

set_is : (n i : ℕ) (cs : List Child) (d : Child) → suc i ≡ n → i < length cs → set cs (n - 1) d ≡ take i cs ++ d ∷ drop (suc i) cs
set_is n i cs d is lt = let e : n - 1 ≡ i = omega arith in ap (λ m. set cs m d) e ∙ set_split cs i d lt

pub open_below-open_way-requires : goal.open_below-open_way-requires
open_below-open_way-requires t c =
    let at = c.requires.can in
    let w = on_way at.order c.args.block c.args.level at.high c.place-at.result (children_of c.args.twig.now) c.deref.result.now c.index_mut.result.now c.deref.ensures.value c.if-at-eq0.false
    c.place-at.ensures.within c.place-at.ensures.before c.place-at.ensures.after at.to c.index_mut.ensures.value in
    (search rules, (below_at at.order c.args.level c.args.block c.place-at.result at.least at.low at.high c.args.held.now.items c.args.twig.now c.index_mut.result.now at.shaped at.at_hand w, c.requires.room))

pub open_below-returns-clause-opened : goal.open_below-returns-clause-opened
open_below-returns-clause-opened t c at =
    let w = on_way at.order c.args.block c.args.level at.high c.place-at.result (children_of c.args.twig.now) c.deref.result.now c.index_mut.result.now c.deref.ensures.value c.if-at-eq0.false
    c.place-at.ensures.within c.place-at.ensures.before c.place-at.ensures.after at.to c.index_mut.ensures.value in
    let cs = children_of c.args.twig.now in
    let can = below_at at.order c.args.level c.args.block c.place-at.result at.least at.low at.high c.args.held.now.items c.args.twig.now c.index_mut.result.now at.shaped at.at_hand w in
    let o = opened at.order c.args.level at.least at.low at.high c.args.block (take w.at cs) c.index_mut.result.now (drop (suc w.at) cs) (subst (IsNode at.order c.args.level at.least at.order at.low at.high) w.split at.shaped.node)
    c.open_way.new.child w.from w.to (c.open_way.ensures.opened can) in
    let same = set_is c.place-at.result w.at cs c.open_way.new.child w.at_is w.within in
    let node = subst (IsNode at.order c.args.level at.least at.order at.low at.high) (sym same) o.0 in
    twig_opened at.order c.args.level at.least at.low at.high c.args.block (out-Twig c.args.twig.now).level c.args.twig.now _ at.shaped.level_is at.shaped.room node
    (subst (λ xs. IsOpen c.args.block (stubs_under c.args.level at.high xs)) (sym same) o.1)

pub open_below-returns-then-at-eq0-clause-gives : goal.open_below-returns-then-at-eq0-clause-gives
open_below-returns-then-at-eq0-clause-gives t c pages at held = below_none pages at.order (Fitting pages (want_of at.order) (HasWay c.args.block)) _ _ _ _

pub open_below-returns-clause-gives : goal.open_below-returns-clause-gives
open_below-returns-clause-gives t c pages at held =
    let w = on_way at.order c.args.block c.args.level at.high c.place-at.result (children_of c.args.twig.now) c.deref.result.now c.index_mut.result.now c.deref.ensures.value c.if-at-eq0.false
    c.place-at.ensures.within c.place-at.ensures.before c.place-at.ensures.after at.to c.index_mut.ensures.value in
    let cs = children_of c.args.twig.now in
    let can = below_at at.order c.args.level c.args.block c.place-at.result at.least at.low at.high c.args.held.now.items c.args.twig.now c.index_mut.result.now at.shaped at.at_hand w in
    let same = set_is c.place-at.result w.at cs c.open_way.new.child w.at_is w.within in
    let g = c.open_way.ensures.gives pages can (held (take w.at cs) (drop (suc w.at) cs) c.index_mut.result.now w.split w.from w.to) in
    let new : Twig-F Child Twig = record { level = (out-Twig c.args.twig.now).level; children = with_item (out-Twig c.args.twig.now).children (c.place-at.result - 1) c.open_way.new.child } in
    node_gives pages at.order (Fitting pages (want_of at.order) (HasWay c.args.block)) c.args.level at.least at.low at.high c.args.twig.now (roll-Twig new) (take w.at cs) c.index_mut.result.now c.open_way.new.child (drop (suc w.at) cs) _ _
    (subst (IsNode at.order c.args.level at.least at.order at.low at.high) w.split at.shaped.node) w.split (children_of_roll new ∙ same) (c.open_way.ensures.opened can).low_is g

pub open_below-returns-clause-below : goal.open_below-returns-clause-below
open_below-returns-clause-below t c most at below =
    let w = on_way at.order c.args.block c.args.level at.high c.place-at.result (children_of c.args.twig.now) c.deref.result.now c.index_mut.result.now c.deref.ensures.value c.if-at-eq0.false
    c.place-at.ensures.within c.place-at.ensures.before c.place-at.ensures.after at.to c.index_mut.ensures.value in
    let cs = children_of c.args.twig.now in
    let can = below_at at.order c.args.level c.args.block c.place-at.result at.least at.low at.high c.args.held.now.items c.args.twig.now c.index_mut.result.now at.shaped at.at_hand w in
    let same = set_is c.place-at.result w.at cs c.open_way.new.child w.at_is w.within in
    let r = still_below at.order c.args.level at.least at.low at.high c.args.block (take w.at cs) c.index_mut.result.now (drop (suc w.at) cs) (subst (IsNode at.order c.args.level at.least at.order at.low at.high) w.split at.shaped.node)
    most c.open_way.new.child (c.open_way.ensures.opened can).low_is (c.open_way.ensures.below most can)
    (subst (λ xs. AreBelow most (stubs_under c.args.level at.high xs)) w.split below) in
    subst (λ xs. AreBelow most (stubs_under c.args.level at.high xs)) (sym (children_of_roll (record { level = (out-Twig c.args.twig.now).level; children = with_item (out-Twig c.args.twig.now).children (c.place-at.result - 1) c.open_way.new.child })))
    (subst (λ xs. AreBelow most (stubs_under c.args.level at.high xs)) (sym same) r)

pub open_below-returns-clause-nodes : goal.open_below-returns-clause-nodes
open_below-returns-clause-nodes t c at =
    let w = on_way at.order c.args.block c.args.level at.high c.place-at.result (children_of c.args.twig.now) c.deref.result.now c.index_mut.result.now c.deref.ensures.value c.if-at-eq0.false
    c.place-at.ensures.within c.place-at.ensures.before c.place-at.ensures.after at.to c.index_mut.ensures.value in
    let cs = children_of c.args.twig.now in
    let can = below_at at.order c.args.level c.args.block c.place-at.result at.least at.low at.high c.args.held.now.items c.args.twig.now c.index_mut.result.now at.shaped at.at_hand w in
    let le = c.open_way.ensures.nodes can in
    one_nodes c.args.level (out-Twig c.args.twig.now).level c.place-at.result w.at c.args.twig.now c.index_mut.result.now c.open_way.new.child
    (with_item (out-Twig c.args.twig.now).children (c.place-at.result - 1) c.open_way.new.child) w.at_is w.within w.here refl (omega (arith, le))

pub open_way-returns-then-level-eq0-clause-opened : goal.open_way-returns-then-level-eq0-clause-opened
open_way-returns-then-level-eq0-clause-opened t c at = record {
  low_is = refl;
  shaped = at.shaped;
  is_open = data_open at.order c.args.level at.high c.args.block c.args.child.now c.if-level-eq0.true at.shaped;
}

pub open_way-take_held-requires : goal.open_way-take_held-requires
open_way-take_held-requires t c =
    let at = c.requires.can in
    record {
      at_hand = at_hand at.order c.args.block (c.args.level - 1) at.high c.args.child.now c.args.held.now.items
          (subst (λ m. HeldFor AnyRead at.order c.args.block m at.high c.args.child.now c.args.held.now.items) (above c.args.level c.if-level-eq0.false) at.at_hand);
      room = c.requires.room;
    }

pub open_way-open_below-requires : goal.open_way-open_below-requires
open_way-open_below-requires t c =
    let at = c.requires.can in
    let is = ap out-Child c.in-Grown.is ∙ made.outs-Grown c.in-Grown.low c.in-Grown.twig in
    let l = c.args.level - 1 in
    let level_is : c.args.level ≡ suc l = above c.args.level c.if-level-eq0.false in
    let shaped = subst (λ m. IsChild at.order m at.high c.args.child.now) level_is at.shaped in
    let at_hand_is = subst (λ m. HeldFor AnyRead at.order c.args.block m at.high c.args.child.now c.args.held.now.items) level_is at.at_hand in
    let u = up AnyRead at.order c.args.block l at.high c.args.child.now c.take_held.new.child c.args.held.now.items c.take_held.new.held.items c.in-Grown.low c.in-Grown.twig shaped at_hand_is c.take_held.ensures.taken is in
    (search rules, rw (c.in-Grown.is, made.outs-Grown c.in-Grown.low c.in-Grown.twig) (below_up at.order c.args.block l at.high c.args.child.now c.in-Grown.low c.in-Grown.twig c.take_held.new.held.items at.from at.to u, c.take_held.ensures.room))

pub open_way-returns-clause-opened : goal.open_way-returns-clause-opened
open_way-returns-clause-opened t c at =
    let is = ap out-Child c.in-Grown.is ∙ made.outs-Grown c.in-Grown.low c.in-Grown.twig in
    let l = c.args.level - 1 in
    let level_is : c.args.level ≡ suc l = above c.args.level c.if-level-eq0.false in
    let shaped = subst (λ m. IsChild at.order m at.high c.args.child.now) level_is at.shaped in
    let at_hand_is = subst (λ m. HeldFor AnyRead at.order c.args.block m at.high c.args.child.now c.args.held.now.items) level_is at.at_hand in
    let u = up AnyRead at.order c.args.block l at.high c.args.child.now c.take_held.new.child c.args.held.now.items c.take_held.new.held.items c.in-Grown.low c.in-Grown.twig shaped at_hand_is c.take_held.ensures.taken is in
    let e = rw (c.in-Grown.is, made.outs-Grown c.in-Grown.low c.in-Grown.twig) at c.open_below.ensures in
    let open_at = below_up at.order c.args.block l at.high c.args.child.now c.in-Grown.low c.in-Grown.twig c.take_held.new.held.items at.from at.to u in
    let o = e.opened open_at in
    let new = made.Grown c.in-Grown.low c.open_below.new.twig in
    let r : IsOpened at.order (suc l) c.args.block at.high c.args.child.now new = record {
      low_is = low_of_grown c.in-Grown.low c.open_below.new.twig ∙ u.low_is;
      shaped = grown_is_child at.order l c.in-Grown.low at.high c.open_below.new.twig o.shaped;
      is_open = subst (IsOpen c.args.block) (sym (stubs_of_grown l at.high c.in-Grown.low c.open_below.new.twig)) o.is_open;
    } in
    rw (c.in-Grown.is, made.outs-Grown c.in-Grown.low c.in-Grown.twig) (subst (λ m. IsOpened at.order m c.args.block at.high c.args.child.now new) (sym level_is) r)

pub open_way-returns-then-level-eq0-clause-gives : goal.open_way-returns-then-level-eq0-clause-gives
open_way-returns-then-level-eq0-clause-gives t c pages at held = child_none pages at.order (Fitting pages (want_of at.order) (HasWay c.args.block)) _ _ _ _

pub open_way-returns-clause-gives : goal.open_way-returns-clause-gives
open_way-returns-clause-gives t c pages at held =
    let is = ap out-Child c.in-Grown.is ∙ made.outs-Grown c.in-Grown.low c.in-Grown.twig in
    let l = c.args.level - 1 in
    let level_is : c.args.level ≡ suc l = above c.args.level c.if-level-eq0.false in
    let shaped = subst (λ m. IsChild at.order m at.high c.args.child.now) level_is at.shaped in
    let at_hand_is = subst (λ m. HeldFor AnyRead at.order c.args.block m at.high c.args.child.now c.args.held.now.items) level_is at.at_hand in
    let u = up AnyRead at.order c.args.block l at.high c.args.child.now c.take_held.new.child c.args.held.now.items c.take_held.new.held.items c.in-Grown.low c.in-Grown.twig shaped at_hand_is c.take_held.ensures.taken is in
    let e = rw (c.in-Grown.is, made.outs-Grown c.in-Grown.low c.in-Grown.twig) at c.open_below.ensures in
    let open_at = below_up at.order c.args.block l at.high c.args.child.now c.in-Grown.low c.in-Grown.twig c.take_held.new.held.items at.from at.to u in
    let held_is = subst (λ m. HeldFor (IsReadAs pages at.order) at.order c.args.block m at.high c.args.child.now c.args.held.now.items) level_is held in
    let v = up (IsReadAs pages at.order) at.order c.args.block l at.high c.args.child.now c.take_held.new.child c.args.held.now.items c.take_held.new.held.items c.in-Grown.low c.in-Grown.twig shaped held_is c.take_held.ensures.taken is in
    let first = takes_up pages at.order c.args.block l at.high c.args.child.now c.take_held.new.child c.args.held.now.items c.take_held.new.held.items c.in-Grown.low c.in-Grown.twig c.args.gone.now.items c.take_held.new.gone.items at.from at.to held_is c.take_held.ensures.taken c.take_held.ensures.noted is in
    let second = e.gives pages open_at v.on_way in
    let new = made.Grown c.in-Grown.low c.open_below.new.twig in
    let both = grown_gives pages at.order (Fitting pages (want_of at.order) (HasWay c.args.block)) l at.high c.args.child.now c.in-Grown.low c.in-Grown.twig c.open_below.new.twig c.args.gone.now.items c.take_held.new.gone.items c.open_below.new.gone.items first second in
    rw (c.in-Grown.is, made.outs-Grown c.in-Grown.low c.in-Grown.twig)
    (subst (λ k. GivesChild pages at.order (Fitting pages (want_of at.order) (HasWay c.args.block)) k at.high c.args.child.now new c.args.gone.now.items c.open_below.new.gone.items) (sym level_is) both)

pub open_way-returns-clause-nodes : goal.open_way-returns-clause-nodes
open_way-returns-clause-nodes t c at =
    let is = ap out-Child c.in-Grown.is ∙ made.outs-Grown c.in-Grown.low c.in-Grown.twig in
    let l = c.args.level - 1 in
    let level_is : c.args.level ≡ suc l = above c.args.level c.if-level-eq0.false in
    let shaped = subst (λ m. IsChild at.order m at.high c.args.child.now) level_is at.shaped in
    let at_hand_is = subst (λ m. HeldFor AnyRead at.order c.args.block m at.high c.args.child.now c.args.held.now.items) level_is at.at_hand in
    let u = up AnyRead at.order c.args.block l at.high c.args.child.now c.take_held.new.child c.args.held.now.items c.take_held.new.held.items c.in-Grown.low c.in-Grown.twig shaped at_hand_is c.take_held.ensures.taken is in
    let e = rw (c.in-Grown.is, made.outs-Grown c.in-Grown.low c.in-Grown.twig) at c.open_below.ensures in
    let le = e.nodes (below_up at.order c.args.block l at.high c.args.child.now c.in-Grown.low c.in-Grown.twig c.take_held.new.held.items at.from at.to u) in
    let new = made.Grown c.in-Grown.low c.open_below.new.twig in
    let r : nodes (suc l) new ≤ nodes (suc l) c.args.child.now + suc l = omega (arith, le, u.few, nodes_is l c.args.child.now, nodes_grown l c.in-Grown.low c.open_below.new.twig) in
    rw (c.in-Grown.is, made.outs-Grown c.in-Grown.low c.in-Grown.twig) (subst (λ k. nodes k new ≤ nodes k c.args.child.now + k) (sym level_is) r)

pub open_way-returns-clause-below : goal.open_way-returns-clause-below
open_way-returns-clause-below t c most at below =
    let is = ap out-Child c.in-Grown.is ∙ made.outs-Grown c.in-Grown.low c.in-Grown.twig in
    let l = c.args.level - 1 in
    let level_is : c.args.level ≡ suc l = above c.args.level c.if-level-eq0.false in
    let shaped = subst (λ m. IsChild at.order m at.high c.args.child.now) level_is at.shaped in
    let at_hand_is = subst (λ m. HeldFor AnyRead at.order c.args.block m at.high c.args.child.now c.args.held.now.items) level_is at.at_hand in
    let u = up AnyRead at.order c.args.block l at.high c.args.child.now c.take_held.new.child c.args.held.now.items c.take_held.new.held.items c.in-Grown.low c.in-Grown.twig shaped at_hand_is c.take_held.ensures.taken is in
    let e = rw (c.in-Grown.is, made.outs-Grown c.in-Grown.low c.in-Grown.twig) at c.open_below.ensures in
    let first = up_below at.order c.args.block l at.high most c.args.child.now c.take_held.new.child c.args.held.now.items c.take_held.new.held.items c.in-Grown.low c.in-Grown.twig at_hand_is c.take_held.ensures.taken is
    (subst (λ k. AreBelow most (stubs k at.high c.args.child.now)) level_is below) in
    let second = e.below most (below_up at.order c.args.block l at.high c.args.child.now c.in-Grown.low c.in-Grown.twig c.take_held.new.held.items at.from at.to u) first in
    let new = made.Grown c.in-Grown.low c.open_below.new.twig in
    rw (c.in-Grown.is, made.outs-Grown c.in-Grown.low c.in-Grown.twig)
    (subst (λ k. AreBelow most (stubs k at.high new)) (sym level_is) (subst (AreBelow most) (sym (stubs_of_grown l at.high c.in-Grown.low c.open_below.new.twig)) second))

pub open_below-returns-clause-helps : goal.open_below-returns-clause-helps
open_below-returns-clause-helps t c at source beside loses h =
    let w = on_way at.order c.args.block c.args.level at.high c.place-at.result (children_of c.args.twig.now) c.deref.result.now c.index_mut.result.now c.deref.ensures.value c.if-at-eq0.false
    c.place-at.ensures.within c.place-at.ensures.before c.place-at.ensures.after at.to c.index_mut.ensures.value in
    let cs = children_of c.args.twig.now in
    let can = below_at at.order c.args.level c.args.block c.place-at.result at.least at.low at.high c.args.held.now.items c.args.twig.now c.index_mut.result.now at.shaped at.at_hand w in
    let o = opened at.order c.args.level at.least at.low at.high c.args.block (take w.at cs) c.index_mut.result.now (drop (suc w.at) cs) (subst (IsNode at.order c.args.level at.least at.order at.low at.high) w.split at.shaped.node)
    c.open_way.new.child w.from w.to (c.open_way.ensures.opened can) in
    let same = set_is c.place-at.result w.at cs c.open_way.new.child w.at_is w.within in
    let new : Twig-F Child Twig = record { level = (out-Twig c.args.twig.now).level; children = with_item (out-Twig c.args.twig.now).children (c.place-at.result - 1) c.open_way.new.child } in
    opened_helps (ReadOver source at.order) at.order c.args.block c.args.level at.least at.low at.high c.place-at.result c.args.twig.now (roll-Twig new) c.index_mut.result.now c.open_way.new.child at.shaped w o.0.each (c.open_way.ensures.opened can).low_is
    (children_of_roll new ∙ same) c.args.held.now.items c.open_way.new.held.items beside loses (c.open_way.ensures.helps can source) h

pub open_way-returns-clause-helps : goal.open_way-returns-clause-helps
open_way-returns-clause-helps t c at source width beside loses h =
    let is = ap out-Child c.in-Grown.is ∙ made.outs-Grown c.in-Grown.low c.in-Grown.twig in
    let l = c.args.level - 1 in
    let level_is : c.args.level ≡ suc l = above c.args.level c.if-level-eq0.false in
    let shaped = subst (λ m. IsChild at.order m at.high c.args.child.now) level_is at.shaped in
    let at_hand_is = subst (λ m. HeldFor AnyRead at.order c.args.block m at.high c.args.child.now c.args.held.now.items) level_is at.at_hand in
    let u = up AnyRead at.order c.args.block l at.high c.args.child.now c.take_held.new.child c.args.held.now.items c.take_held.new.held.items c.in-Grown.low c.in-Grown.twig shaped at_hand_is c.take_held.ensures.taken is in
    let e = rw (c.in-Grown.is, made.outs-Grown c.in-Grown.low c.in-Grown.twig) at c.open_below.ensures in
    let open_at = below_up at.order c.args.block l at.high c.args.child.now c.in-Grown.low c.in-Grown.twig c.take_held.new.held.items at.from at.to u in
    let up_is = helps_up (ReadOver source at.order) at.order c.args.block l at.high c.args.child.now c.take_held.new.child c.args.held.now.items c.take_held.new.held.items c.in-Grown.low c.in-Grown.twig beside loses h.from c.take_held.ensures.taken is in
    let k = e.helps open_at source beside loses up_is.0 in
    let wide : length (children_of c.open_below.new.twig) ≡ width = e.wide ∙ ap (λ w. length (children_of w)) (sym up_is.1) ∙ h.wide in
    rw (c.in-Grown.is, made.outs-Grown c.in-Grown.low c.in-Grown.twig)
    (wide_grown (ReadOver source at.order) at.order c.args.block l at.high width c.in-Grown.low c.open_below.new.twig c.open_below.new.held.items beside loses k wide)
