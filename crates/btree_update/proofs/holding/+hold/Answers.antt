use Rattle.std.proofs.Common.{length, ◌+◌, ◌≡◌, ℕ, suc, ◌<◌, ◌-◌, ◌/◌, ◌^◌, List, take, drop, sym, ap, subst, ◌∙◌, rules, arith}
use Rattle.btree_walk.proofs.OnLaws.{IfOk_map}
use Rattle.btree_update.proofs.BesideLaws.{IfOk_all, IfOk_both, has_record, leaf_left, left_at, left_grown, left_kept}
use Rattle.btree_update.specs.Beside.{LeftOf, IsLeft, HelpsBelow, HoldsBeside}
use Rattle.std.proofs.lemmas.List.{length-take-le}
use Rattle.btree_twigs.specs.declared.twigs.Child.{Child}
use Rattle.btree_twigs.specs.declared.twigs.Child.TheVariants as made
use Rattle.btree_twigs.specs.declared.twigs.Twig.{Twig}
use Rattle.btree_twigs.specs.Stubs.{start_by, low_of, children_of, stubs, stubs_below}
use Rattle.btree_twigs.specs.Shape.{IsChild}
use Rattle.btree_twigs.specs.Updates.{IsNode}
use Rattle.btree_update.specs.Held.{AnyRead, IsReadAs, OnWay, HeldFor, HeldFrom}
use Rattle.btree_walk.specs.Sights.{StandsOver}
use Rattle.btree_update.specs.Holding.{CanHold, CanHoldBelow, IsNodeFor, IsNodeOf}
use Rattle.btree_update.specs.Held.{bound, AreBelow}
use Rattle.btree_update.proofs.OpenLaws.{IsOnWay, on_way, child_is, has_least}
use Rattle.btree_update.proofs.GroveLaws.{above_it}
use Rattle.btree_update.proofs.FewLaws.{few_none, few_more, few_read, few_beside, unmapped_below}
use Rattle.btree_update.specs.declared.siblings.Left.TheVariants.{Unmapped}
use Rattle.btree_update.proofs.HoldLaws.{no_way, leaf_way, one_way, below_child, read_as, way_grown, held_grown, way_lt, way_read, way_held, held_for}
use Rattle.btree_update.specs.Wrong.{ComesToWrong, Here, WrongOnWay, WrongUnder, WrongFrom}
use Rattle.btree_update.specs.declared.refusals.ReadyRefusal.TheVariants.{BadRecord}
use Rattle.btree_update.proofs.WrongLaws.{wrong_child, wrong_near, wrong_below, wrong_kept, wrong_on_way}
use Rattle.std.proofs.Common.{Err}
use Rattle.std.proofs.lemmas.Result.{err_from_is_err_and}
use Rattle.std.proofs.Common.{◌==◌}
use Rattle.std.proofs.lemmas.Bool.{eqb-true, eq-eqb}
use Rattle.page_store.specs.Tree.{Mapped}
use Rattle.btree_update.specs.GroveTree.{Maps, MapsFrom, want_at}
use Rattle.btree_update.specs.Beside.{IsMappedBy}
use Rattle.btree_update.proofs.MappedLaws.{first_lacks, leaf_mapped, leaf_not, beside_mapped, way_mapped, kept_mapped, grown_mapped, maps_from}
use Rattle.page_store.specs.Places.{FitsAt}
use Rattle.btree_update.specs.Finding.{FindsAmong, ChildFinds, IsFoundBy}
use Rattle.btree_update.proofs.WayFinds.{found_as, beside_found, first_finds, way_finds, leaf_finds, child_finds, kept_finds}
use Rattle.std.proofs.Common.{refl}
use Rattle.page_store.specs.Tree.{Place}
use Rattle.btree_update.specs.Among.{HaveNodes}
use Rattle.btree_update.proofs.AmongLaws.{child_among, grown_among}
use Rattle.btree_update.proofs.CacheLaws.{caches_fewer, caches_then, caches_read, nodes_below_read}
use Rattle.node_cache.specs.declared.slots.CachedNode.{CachedNode}
use Rattle.node_cache.specs.Cached.{IsCached}
use Rattle.node_codec.specs.declared.body.NodeBody.{NodeBody}
use Rattle.btree_update.specs.Warm.{KeepsFromChild, KeepsBelow}
use Rattle.btree_update.proofs.WarmLaws.{below_grown, first_cached, below_kept}
use Rattle.std.proofs.Common.{None, Ok, Result, ◌≤◌, ◌*◌}
use Rattle.std.proofs.lemmas.List.Elements.{All-contains}
use Rattle.node_cache.specs.Cached.{cached_node}
use Rattle.btree_walk.specs.Sights.{IsOfPage}
use Rattle.btree_walk.proofs.RecentLaws.{early_kept, first_made}
use Rattle.btree_update.specs.declared.refusals.ReadyRefusal.{ReadyRefusal}
use Rattle.btree_update.specs.declared.siblings.Left.{Left}
use Rattle.btree_update.specs.Finding.{ChildFindsBy}
use Rattle.btree_update.specs.Warm.{FitsAmong, FillsFromChild, FillsBelow, StayEarly}
use Rattle.btree_update.proofs.AmongLaws.{kept_among}
use Rattle.btree_update.proofs.WayFinds.{read_finds, any_found}
use Rattle.btree_update.proofs.EarlyLaws.{later, stay_read, stay_same, stay_then, among_each, child_each, names_below, fits_stays, fits_later, read_cached, once_on}
use Rattle.btree_update.proofs.KeptWay.{OnOk_from, OnOk_map}
use Rattle.btree_walk.proofs.ForgetLaws.{forgets_same}
use Rattle.btree_update.proofs.holding.+hold.Goals as goal

nothing_before : (block high n : ℕ) (ds cs : List Child) → ds ≡ cs → n ≡ 0 → ((high : ℕ) → block < high → block < start_by low_of (drop n ds) high) → block < high → block < start_by low_of cs high
nothing_before block high n ds cs same zero_is after lt =
    subst (λ xs. block < start_by low_of xs high) same (subst (λ m. block < start_by low_of (drop m ds) high) zero_is (after high lt))

pub hold_below-returns-then-at-eq0-clause-at_hand : goal.hold_below-returns-then-at-eq0-clause-at_hand
hold_below-returns-then-at-eq0-clause-at_hand g t c =
    let at = c.requires.can in (
      no_way (λ end d. HeldFor AnyRead c.args.order c.args.block c.args.level end d c.args.held.now.items) c.args.order c.args.level at.least at.low c.args.high c.args.block c.args.twig.now at.shaped
          (nothing_before c.args.block c.args.high c.place-at.result _ (children_of c.args.twig.now) c.deref.ensures.value c.if-at-eq0.true c.place-at.ensures.after at.to),
      few_none g.P.Platform c.args.level c.args.level c.args.platform.now c.args.held.now.items c.args.beside.now.items _,
    )

pub hold_below-returns-then-at-eq0-clause-reads : goal.hold_below-returns-then-at-eq0-clause-reads
hold_below-returns-then-at-eq0-clause-reads g t c = λ tells stands.
    (let at = c.requires.can in
    no_way (λ end d. HeldFor (IsReadAs (g.P.Platform.history c.args.platform.now).present.readable c.args.order) c.args.order c.args.block c.args.level end d c.args.held.now.items) c.args.order c.args.level at.least at.low c.args.high c.args.block c.args.twig.now at.shaped
    (nothing_before c.args.block c.args.high c.place-at.result _ (children_of c.args.twig.now) c.deref.ensures.value c.if-at-eq0.true c.place-at.ensures.after at.to))

pub hold_below-returns-then-level-eq0-clause-at_hand : goal.hold_below-returns-then-level-eq0-clause-at_hand
hold_below-returns-then-level-eq0-clause-at_hand g t c = (
  leaf_way AnyRead c.args.order c.args.block c.args.level c.args.high c.args.twig.now c.args.held.now.items c.if-level-eq0.true,
  few_none g.P.Platform c.args.level c.args.level c.args.platform.now c.args.held.now.items c.args.beside.now.items _,
)

pub hold_below-returns-then-level-eq0-clause-reads : goal.hold_below-returns-then-level-eq0-clause-reads
hold_below-returns-then-level-eq0-clause-reads g t c = λ tells stands.
    leaf_way (IsReadAs (g.P.Platform.history c.args.platform.now).present.readable c.args.order) c.args.order c.args.block c.args.level c.args.high c.args.twig.now c.args.held.now.items c.if-level-eq0.true

above : (n : ℕ) → (n ≡ 0 → ⊥) → n ≡ suc (n - 1)
above n h = omega (arith, h)

-- the child on the way can be held
abbrev held_child : (order level block high head n end : ℕ) (twig : Twig) (c : Child) (at : CanHoldBelow order level block high head twig) → (w : IsOnWay order block level high (children_of twig) n c) → (level ≡ 0 → ⊥) →
    end ≡ start_by low_of (drop (suc w.at) (children_of twig)) high → CanHold order (order / 2) level block end head c
held_child order level block high head n end twig c at w some is = record {
  one = omega (arith, some);
  two = λ two. omega (arith, at.four);
  four = at.four;
  most = at.most;
  shaped = has_least order (level - 1) end c (subst (λ k. IsChild order k end c) (above level some) (subst (λ m. IsChild order level m c) (sym is) (child_is order level at.least at.low high block (take w.at (children_of twig)) c (drop (suc w.at) (children_of twig)) (subst (IsNode order level at.least order at.low high) w.split at.shaped.node))));
  from = w.from;
  to = subst (λ m. block < m) (sym is) w.to;
  size = at.size;
  within = subst (λ m. AreBelow (bound head at.size) (stubs level m c)) (sym is) (below_child order level high block n (bound head at.size) twig c w at.within);
}

end_is : (high n i end : ℕ) (ds cs : List Child) → ds ≡ cs → suc i ≡ n → end ≡ start_by low_of (drop n ds) high → end ≡ start_by low_of (drop (suc i) cs) high
end_is high n i end ds cs same is e = e ∙ ap (λ xs. start_by low_of (drop n xs) high) same ∙ ap (λ m. start_by low_of (drop m cs) high) (sym is)

pub hold_below-hold_way-requires : goal.hold_below-hold_way-requires
hold_below-hold_way-requires g t c κs within =
    let at = c.requires.can in
    let w = on_way c.args.order c.args.block c.args.level c.args.high c.place-at.result (children_of c.args.twig.now) c.deref.result.now c.index-child.result.now c.deref.ensures.value c.if-at-eq0.false
    c.place-at.ensures.within c.place-at.ensures.before c.place-at.ensures.after at.to c.index-child.ensures in (
      search rules,
      (
        within,
        held_child c.args.order c.args.level c.args.block c.args.high (g.P.Platform.head c.args.platform.now) c.place-at.result c.end_of-end.result c.args.twig.now c.index-child.result.now at w c.if-level-eq0.false
            (end_is c.args.high c.place-at.result w.at c.end_of-end.result c.deref-2.result.now (children_of c.args.twig.now) c.deref-2.ensures.value w.at_is c.end_of-end.ensures),
      ),
    )

before_is : (i n : ℕ) (cs : List Child) → i < length cs → suc i ≡ n → length (take i cs) + 1 ≡ n
before_is i n cs lt is = omega (arith, length-take-le i cs (omega (arith, lt)), is)

pub hold_below-returns-clause-at_hand : goal.hold_below-returns-clause-at_hand
hold_below-returns-clause-at_hand g t c =
    let at = c.requires.can in
    let w = on_way c.args.order c.args.block c.args.level c.args.high c.place-at.result (children_of c.args.twig.now) c.deref.result.now c.index-child.result.now c.deref.ensures.value c.if-at-eq0.false
    c.place-at.ensures.within c.place-at.ensures.before c.place-at.ensures.after at.to c.index-child.ensures in
    let e = end_is c.args.high c.place-at.result w.at c.end_of-end.result c.deref-2.result.now (children_of c.args.twig.now) c.deref-2.ensures.value w.at_is c.end_of-end.ensures in
    let held = c.in_ok-left.ensures.at_hand in
    let deep : c.args.level ≡ suc (c.args.level - 1) = above c.args.level c.if-level-eq0.false in
    let cs = children_of c.args.twig.now in
    IfOk_both _ _ _ c.hold_beside.result
    (λ b few helps. (
      one_way (λ end d. HeldFor AnyRead c.args.order c.args.block c.args.level end d c.hold_way.new.held.items) c.args.order c.args.level at.least at.low c.args.high c.args.block c.place-at.result 0 c.args.twig.now c.index-child.result.now at.shaped w
          (subst (λ m. HeldFor AnyRead c.args.order c.args.block c.args.level m c.index-child.result.now c.hold_way.new.held.items) e
          (held_for AnyRead c.args.order c.args.block c.args.level (c.args.level - 1) c.end_of-end.result c.index-child.result.now c.hold_way.new.held.items deep held.0)),
      few_beside g.P.Platform c.args.level (c.args.level - 1) c.args.level c.args.platform.now c.hold_way.new.platform c.hold_beside.new.platform c.args.held.now.items c.hold_way.new.held.items c.args.beside.now.items c.hold_way.new.beside.items
          c.hold_beside.new.beside.items (c.in_ok-left.left ≡ Unmapped) (b ≡ Unmapped)
          (unmapped_below AnyRead c.args.order (c.args.level - 1) (length cs) c.args.high (take w.at cs) c.index-child.result.now (drop (suc w.at) cs) c.hold_way.new.beside.items c.hold_beside.new.beside.items c.in_ok-left.left b helps)
          held.1 few (omega (arith, deep)),
    ))
    c.hold_beside.ensures.few (c.hold_beside.ensures.helps (take w.at cs) c.index-child.result.now (drop (suc w.at) cs) w.split (before_is w.at c.place-at.result cs w.within w.at_is))

pub hold_below-returns-clause-reads : goal.hold_below-returns-clause-reads
hold_below-returns-clause-reads g t c = λ tells stands.
    (let at = c.requires.can in
    let w = on_way c.args.order c.args.block c.args.level c.args.high c.place-at.result (children_of c.args.twig.now) c.deref.result.now c.index-child.result.now c.deref.ensures.value c.if-at-eq0.false
    c.place-at.ensures.within c.place-at.ensures.before c.place-at.ensures.after at.to c.index-child.ensures in
    let e = end_is c.args.high c.place-at.result w.at c.end_of-end.result c.deref-2.result.now (children_of c.args.twig.now) c.deref-2.ensures.value w.at_is c.end_of-end.ensures in
    let pages = (g.P.Platform.history c.args.platform.now).present.readable in
    IfOk_all _ c.hold_beside.result
    (λ b. one_way (λ end d. HeldFor (IsReadAs pages c.args.order) c.args.order c.args.block c.args.level end d c.hold_way.new.held.items) c.args.order c.args.level at.least at.low c.args.high c.args.block c.place-at.result 0 c.args.twig.now c.index-child.result.now at.shaped w
    (subst (λ m. HeldFor (IsReadAs pages c.args.order) c.args.order c.args.block c.args.level m c.index-child.result.now c.hold_way.new.held.items) e
    (held_for (IsReadAs pages c.args.order) c.args.order c.args.block c.args.level (c.args.level - 1) c.end_of-end.result c.index-child.result.now c.hold_way.new.held.items (above c.args.level c.if-level-eq0.false) (c.in_ok-left.ensures.reads tells stands)))))

pub hold_below-returns-in_err-left-clause-bad : goal.hold_below-returns-in_err-left-clause-bad
hold_below-returns-in_err-left-clause-bad g t c =
    let p = err_from_is_err_and c.from_residual.result c.from_residual.ensures.1 in
    rw (p.1, p.2) (λ tells stands addr is.
    let err : c.in_err-left.field-0.0 ≡ BadRecord addr = cc in
    let at = c.requires.can in
    let w = on_way c.args.order c.args.block c.args.level c.args.high c.place-at.result (children_of c.args.twig.now) c.deref.result.now c.index-child.result.now c.deref.ensures.value c.if-at-eq0.false
    c.place-at.ensures.within c.place-at.ensures.before c.place-at.ensures.after at.to c.index-child.ensures in
    let e = end_is c.args.high c.place-at.result w.at c.end_of-end.result c.deref-2.result.now (children_of c.args.twig.now) c.deref-2.ensures.value w.at_is c.end_of-end.ensures in
    let pages = (g.P.Platform.history c.args.platform.now).present.readable in
    wrong_child pages c.args.order c.args.level c.args.high c.args.block addr c.place-at.result c.args.twig.now c.index-child.result.now w
    (subst (λ m. WrongOnWay pages c.args.order c.args.block addr c.args.level m c.index-child.result.now) e
    (wrong_on_way pages c.args.order c.args.block addr c.args.level (c.args.level - 1) c.end_of-end.result c.index-child.result.now (above c.args.level c.if-level-eq0.false) (c.in_err-left.ensures.bad tells stands addr (ap Err err)))))

pub hold_below-returns-clause-bad : goal.hold_below-returns-clause-bad
hold_below-returns-clause-bad g t c = λ tells stands addr is.
    (let at = c.requires.can in
    let cs = children_of c.args.twig.now in
    let w = on_way c.args.order c.args.block c.args.level c.args.high c.place-at.result cs c.deref.result.now c.index-child.result.now c.deref.ensures.value c.if-at-eq0.false
    c.place-at.ensures.within c.place-at.ensures.before c.place-at.ensures.after at.to c.index-child.ensures in
    let pages = (g.P.Platform.history c.args.platform.now).present.readable in
    let same : (g.P.Platform.history c.hold_way.new.platform).present.readable ≡ pages = ap (λ i. i.readable) (c.in_ok-left.ensures.looks.image tells) in
    let stands' = subst (λ p. StandsOver p c.hold_way.new.reader.cache) (sym same) (c.in_ok-left.ensures.caches.stands tells stands) in
    let near = c.hold_beside.ensures.bad tells stands' (take w.at cs) c.index-child.result.now (drop (suc w.at) cs) w.split (before_is w.at c.place-at.result cs w.within w.at_is) addr is in
    subst (λ p. WrongUnder p c.args.order c.args.block addr c.args.level c.args.high c.args.twig.now) same
    (wrong_near (g.P.Platform.history c.hold_way.new.platform).present.readable c.args.order c.args.level c.args.high c.args.block addr c.place-at.result c.args.twig.now c.index-child.result.now w near))

pub hold_below-returns-then-level-eq0-clause-helps : goal.hold_below-returns-then-level-eq0-clause-helps
hold_below-returns-then-level-eq0-clause-helps g t c =
    let cs = children_of c.args.twig.now in
    let w = on_way c.args.order c.args.block c.args.level c.args.high c.place-at.result cs c.deref.result.now c.index-child.result.now c.deref.ensures.value c.if-at-eq0.false
    c.place-at.ensures.within c.place-at.ensures.before c.place-at.ensures.after c.requires.can.to c.index-child.ensures in
    let has = has_record c.args.block c.args.twig.now (take w.at cs) c.index-child.result.now (drop (suc w.at) cs) (c.low_of.result == c.args.block) w.split (λ e. sym c.low_of.ensures ∙ eqb-true c.low_of.result c.args.block e) in
    leaf_left AnyRead c.args.order c.args.block c.args.level c.args.high c.args.twig.now c.args.held.now.items c.args.beside.now.items _ c.left_of_leaf.result c.if-level-eq0.true has c.left_of_leaf.ensures.mapped c.left_of_leaf.ensures.unmapped

pub hold_below-returns-then-level-eq0-clause-beside : goal.hold_below-returns-then-level-eq0-clause-beside
hold_below-returns-then-level-eq0-clause-beside g t c = λ tells stands.
    (let cs = children_of c.args.twig.now in
    let w = on_way c.args.order c.args.block c.args.level c.args.high c.place-at.result cs c.deref.result.now c.index-child.result.now c.deref.ensures.value c.if-at-eq0.false
    c.place-at.ensures.within c.place-at.ensures.before c.place-at.ensures.after c.requires.can.to c.index-child.ensures in
    let has = has_record c.args.block c.args.twig.now (take w.at cs) c.index-child.result.now (drop (suc w.at) cs) (c.low_of.result == c.args.block) w.split (λ e. sym c.low_of.ensures ∙ eqb-true c.low_of.result c.args.block e) in
    leaf_left (IsReadAs (g.P.Platform.history c.args.platform.now).present.readable c.args.order) c.args.order c.args.block c.args.level c.args.high c.args.twig.now c.args.held.now.items c.args.beside.now.items _ c.left_of_leaf.result c.if-level-eq0.true has c.left_of_leaf.ensures.mapped c.left_of_leaf.ensures.unmapped)

pub hold_below-returns-clause-helps : goal.hold_below-returns-clause-helps
hold_below-returns-clause-helps g t c =
    let at = c.requires.can in
    let w = on_way c.args.order c.args.block c.args.level c.args.high c.place-at.result (children_of c.args.twig.now) c.deref.result.now c.index-child.result.now c.deref.ensures.value c.if-at-eq0.false
    c.place-at.ensures.within c.place-at.ensures.before c.place-at.ensures.after at.to c.index-child.ensures in
    let e = end_is c.args.high c.place-at.result w.at c.end_of-end.result c.deref-2.result.now (children_of c.args.twig.now) c.deref-2.ensures.value w.at_is c.end_of-end.ensures in
    let cs = children_of c.args.twig.now in
    let f = subst (λ m. LeftOf AnyRead c.args.order c.args.block (c.args.level - 1) m c.index-child.result.now c.hold_way.new.held.items c.hold_way.new.beside.items c.in_ok-left.left) e c.in_ok-left.ensures.helps in
    IfOk_map _ _ c.hold_beside.result
    (λ after h. left_at AnyRead c.args.order c.args.block c.args.level at.least at.low c.args.high c.place-at.result c.args.twig.now c.index-child.result.now (above c.args.level c.if-level-eq0.false) at.shaped w
    c.hold_way.new.held.items c.hold_way.new.beside.items c.hold_beside.new.beside.items c.in_ok-left.left after f h)
    (c.hold_beside.ensures.helps (take w.at cs) c.index-child.result.now (drop (suc w.at) cs) w.split (before_is w.at c.place-at.result cs w.within w.at_is))

pub hold_below-returns-clause-beside : goal.hold_below-returns-clause-beside
hold_below-returns-clause-beside g t c = λ tells stands.
    (let at = c.requires.can in
    let w = on_way c.args.order c.args.block c.args.level c.args.high c.place-at.result (children_of c.args.twig.now) c.deref.result.now c.index-child.result.now c.deref.ensures.value c.if-at-eq0.false
    c.place-at.ensures.within c.place-at.ensures.before c.place-at.ensures.after at.to c.index-child.ensures in
    let e = end_is c.args.high c.place-at.result w.at c.end_of-end.result c.deref-2.result.now (children_of c.args.twig.now) c.deref-2.ensures.value w.at_is c.end_of-end.ensures in
    let cs = children_of c.args.twig.now in
    let pages = (g.P.Platform.history c.args.platform.now).present.readable in
    let Reads = IsReadAs pages c.args.order in
    let same : (g.P.Platform.history c.hold_way.new.platform).present.readable ≡ pages = ap (λ i. i.readable) (c.in_ok-left.ensures.looks.image tells) in
    let stands' = subst (λ p. StandsOver p c.hold_way.new.reader.cache) (sym same) (c.in_ok-left.ensures.caches.stands tells stands) in
    let f = subst (λ m. LeftOf Reads c.args.order c.args.block (c.args.level - 1) m c.index-child.result.now c.hold_way.new.held.items c.hold_way.new.beside.items c.in_ok-left.left) e (c.in_ok-left.ensures.beside tells stands) in
    IfOk_map _ _ c.hold_beside.result
    (λ after h. left_at Reads c.args.order c.args.block c.args.level at.least at.low c.args.high c.place-at.result c.args.twig.now c.index-child.result.now (above c.args.level c.if-level-eq0.false) at.shaped w
    c.hold_way.new.held.items c.hold_way.new.beside.items c.hold_beside.new.beside.items c.in_ok-left.left after f
    (subst (λ p. HoldsBeside (IsReadAs p c.args.order) c.args.order (c.args.level - 1) (length cs) c.args.high (take w.at cs) c.index-child.result.now (drop (suc w.at) cs) c.hold_way.new.beside.items c.hold_beside.new.beside.items c.in_ok-left.left after) same h))
    (c.hold_beside.ensures.reads tells stands' (take w.at cs) c.index-child.result.now (drop (suc w.at) cs) w.split (before_is w.at c.place-at.result cs w.within w.at_is)))

pub hold_below-returns-then-at-eq0-clause-mapped : goal.hold_below-returns-then-at-eq0-clause-mapped
hold_below-returns-then-at-eq0-clause-mapped g t c = λ tells stands mapped m.
    (let at = c.requires.can in
    first_lacks (g.P.Platform.history c.args.platform.now).present.readable c.args.order c.args.level at.least at.low c.args.high c.args.block c.args.twig.now at.shaped
    (nothing_before c.args.block c.args.high c.place-at.result _ (children_of c.args.twig.now) c.deref.ensures.value c.if-at-eq0.true c.place-at.ensures.after at.to) mapped m)

pub hold_below-returns-then-level-eq0-clause-mapped : goal.hold_below-returns-then-level-eq0-clause-mapped
hold_below-returns-then-level-eq0-clause-mapped g t c = λ tells stands mapped m.
    (let at = c.requires.can in
    let w = on_way c.args.order c.args.block c.args.level c.args.high c.place-at.result (children_of c.args.twig.now) c.deref.result.now c.index-child.result.now c.deref.ensures.value c.if-at-eq0.false
    c.place-at.ensures.within c.place-at.ensures.before c.place-at.ensures.after at.to c.index-child.ensures in
    leaf_mapped (g.P.Platform.history c.args.platform.now).present.readable c.args.order c.args.level at.least at.low c.args.high c.args.block c.place-at.result c.args.twig.now c.index-child.result.now c.if-level-eq0.true at.shaped w c.left_of_leaf.result
    (c.low_of.result == c.args.block) (λ e. sym c.low_of.ensures ∙ eqb-true c.low_of.result c.args.block e) (λ e. eq-eqb c.low_of.result c.args.block (c.low_of.ensures ∙ e))
    (leaf_not c.args.order (length (children_of c.args.twig.now)) (c.low_of.result == c.args.block) c.left_of_leaf.result c.left_of_leaf.ensures.mapped) c.left_of_leaf.ensures.unmapped mapped m)

pub hold_below-returns-clause-mapped : goal.hold_below-returns-clause-mapped
hold_below-returns-clause-mapped g t c = λ tells stands.
    (let at = c.requires.can in
    let w = on_way c.args.order c.args.block c.args.level c.args.high c.place-at.result (children_of c.args.twig.now) c.deref.result.now c.index-child.result.now c.deref.ensures.value c.if-at-eq0.false
    c.place-at.ensures.within c.place-at.ensures.before c.place-at.ensures.after at.to c.index-child.ensures in
    let e = end_is c.args.high c.place-at.result w.at c.end_of-end.result c.deref-2.result.now (children_of c.args.twig.now) c.deref-2.ensures.value w.at_is c.end_of-end.ensures in
    let cs = children_of c.args.twig.now in
    let pages = (g.P.Platform.history c.args.platform.now).present.readable in
    let one = subst (λ m. (mapped : List Mapped) → Maps pages c.args.order (stubs c.args.level m c.index-child.result.now) mapped → IsMappedBy c.args.block mapped c.in_ok-left.left) e
    (λ mapped m. c.in_ok-left.ensures.mapped tells stands mapped (maps_from pages c.args.order c.args.level (c.args.level - 1) c.end_of-end.result c.index-child.result.now mapped (above c.args.level c.if-level-eq0.false) m)) in
    IfOk_map _ _ c.hold_beside.result
    (λ after h mapped m. beside_mapped AnyRead c.args.order (c.args.level - 1) (length cs) c.args.high c.args.block (take w.at cs) c.index-child.result.now (drop (suc w.at) cs) c.hold_way.new.beside.items c.hold_beside.new.beside.items c.in_ok-left.left after mapped h
    (way_mapped pages c.args.order c.args.level at.least at.low c.args.high c.args.block c.place-at.result c.args.twig.now c.index-child.result.now at.shaped w c.in_ok-left.left one mapped m))
    (c.hold_beside.ensures.helps (take w.at cs) c.index-child.result.now (drop (suc w.at) cs) w.split (before_is w.at c.place-at.result cs w.within w.at_is)))

pub hold_way-hold_below-requires : goal.hold_way-hold_below-requires
hold_way-hold_below-requires g t c κs within = (
  search rules,
  (
    within,
    way_grown c.args.order c.args.least c.args.level c.args.block c.args.high (g.P.Platform.head c.args.platform.now) c.in-Grown.low c.in-Grown.twig
        (subst (CanHold c.args.order c.args.least c.args.level c.args.block c.args.high (g.P.Platform.head c.args.platform.now)) c.in-Grown.is c.requires.can),
  ),
)

pub hold_way-read_node-requires-clause-within : goal.hold_way-read_node-requires-clause-within
hold_way-read_node-requires-clause-within g t c =
    way_lt c.args.order c.args.least c.args.level c.args.block c.args.high (g.P.Platform.head c.args.platform.now) c.in-Kept.low c.in-Kept.addr c.in-Kept.key
    (subst (CanHold c.args.order c.args.least c.args.level c.args.block c.args.high (g.P.Platform.head c.args.platform.now)) c.in-Kept.is c.requires.can)

pub hold_way-hold_below-requires-in-Kept : goal.hold_way-hold_below-requires-in-Kept
hold_way-hold_below-requires-in-Kept g t c κs within =
    let at = subst (CanHold c.args.order c.args.least c.args.level c.args.block c.args.high (g.P.Platform.head c.args.platform.now)) c.in-Kept.is c.requires.can in (
      search rules,
      (
        within,
        subst (λ m. CanHoldBelow c.args.order (c.args.level - 1) c.args.block c.args.high m c.in_ok-twig-in-Kept.twig) (sym c.in_ok-twig-in-Kept.ensures.looks.head)
            (way_read c.args.order c.args.least c.args.level c.args.block c.args.high (g.P.Platform.head c.args.platform.now) c.in-Kept.low c.in-Kept.addr c.in-Kept.key c.in_ok-twig-in-Kept.twig at c.in_ok-twig-in-Kept.ensures.fits),
      ),
    )

pub hold_way-returns-in-Grown-clause-at_hand : goal.hold_way-returns-in-Grown-clause-at_hand
hold_way-returns-in-Grown-clause-at_hand g t c =
    IfOk_map _ _ c.hold_below.result
    (λ b h. (
      subst (λ x. HeldFrom AnyRead c.args.order c.args.least c.args.block (c.args.level - 1) c.args.high x c.hold_below.new.held.items) (sym c.in-Grown.is)
          (held_grown AnyRead c.args.order c.args.least c.args.block (c.args.level - 1) c.args.high c.in-Grown.low c.in-Grown.twig c.hold_below.new.held.items h.0),
      few_more g.P.Platform (c.args.level - 1) c.args.level (c.args.level - 1) c.args.platform.now c.hold_below.new.platform c.args.held.now.items c.hold_below.new.held.items c.args.beside.now.items c.hold_below.new.beside.items _ (omega arith) h.1,
    ))
    c.hold_below.ensures.at_hand

pub hold_way-returns-in-Grown-clause-reads : goal.hold_way-returns-in-Grown-clause-reads
hold_way-returns-in-Grown-clause-reads g t c = λ tells stands.
    (let Reads = IsReadAs (g.P.Platform.history c.args.platform.now).present.readable c.args.order in
    IfOk_map _ _ c.hold_below.result
    (λ b h. subst (λ x. HeldFrom Reads c.args.order c.args.least c.args.block (c.args.level - 1) c.args.high x c.hold_below.new.held.items) (sym c.in-Grown.is)
    (held_grown Reads c.args.order c.args.least c.args.block (c.args.level - 1) c.args.high c.in-Grown.low c.in-Grown.twig c.hold_below.new.held.items h))
    (c.hold_below.ensures.reads tells stands))

pub hold_way-returns-in_ok-hold-in-Kept-clause-at_hand : goal.hold_way-returns-in_ok-hold-in-Kept-clause-at_hand
hold_way-returns-in_ok-hold-in-Kept-clause-at_hand g t c =
    let at = subst (CanHold c.args.order c.args.least c.args.level c.args.block c.args.high (g.P.Platform.head c.args.platform.now)) c.in-Kept.is c.requires.can in
    let h = way_held c.args.order c.args.least c.args.level c.args.block c.args.high (g.P.Platform.head c.args.platform.now) c.in-Kept.low c.in-Kept.addr c.in-Kept.key c.in_ok-twig-in-Kept.twig at c.in_ok-twig-in-Kept.ensures.fits
    AnyRead c.hold_below-in-Kept.new.held.items c.hold.new.held.items c.in_ok-hold-in-Kept.ensures.held tt c.in_ok-left-in-Kept.ensures.at_hand.0 in (
      subst (λ x. HeldFrom AnyRead c.args.order c.args.least c.args.block (c.args.level - 1) c.args.high x c.hold.new.held.items) (sym c.in-Kept.is) h,
      few_read g.P.Platform (c.args.level - 1) c.args.level (c.args.level - 1) c.args.platform.now c.read_node.new.platform c.hold_below-in-Kept.new.platform c.args.held.now.items c.hold_below-in-Kept.new.held.items c.hold.new.held.items c.args.beside.now.items
          c.hold_below-in-Kept.new.beside.items c.in_ok-twig-in-Kept.twig _ c.in_ok-left-in-Kept.ensures.at_hand.1 c.in_ok-twig-in-Kept.ensures.looks.reads_most c.in_ok-hold-in-Kept.ensures.held (omega (arith, c.requires.can.one)),
    )

pub hold_way-returns-in_ok-hold-in-Kept-clause-reads : goal.hold_way-returns-in_ok-hold-in-Kept-clause-reads
hold_way-returns-in_ok-hold-in-Kept-clause-reads g t c = λ tells stands.
    (let at = subst (CanHold c.args.order c.args.least c.args.level c.args.block c.args.high (g.P.Platform.head c.args.platform.now)) c.in-Kept.is c.requires.can in
    let twig = c.in_ok-twig-in-Kept.twig in
    let pages = (g.P.Platform.history c.args.platform.now).present.readable in
    let Reads = IsReadAs pages c.args.order in
    let same : (g.P.Platform.history c.read_node.new.platform).present.readable ≡ pages = ap (λ i. i.readable) (c.in_ok-twig-in-Kept.ensures.looks.image tells) in
    let stands' = subst (λ p. StandsOver p c.read_node.new.reader.cache) (sym same) (c.in_ok-twig-in-Kept.ensures.stands tells stands) in
    let way = subst (λ p. OnWay c.args.block (λ end d. HeldFor (IsReadAs p c.args.order) c.args.order c.args.block (c.args.level - 1) end d c.hold_below-in-Kept.new.held.items) c.args.high twig) same (c.in_ok-left-in-Kept.ensures.reads tells stands') in
    let lt = way_lt c.args.order c.args.least c.args.level c.args.block c.args.high (g.P.Platform.head c.args.platform.now) c.in-Kept.low c.in-Kept.addr c.in-Kept.key at in
    let small : c.in-Kept.addr < 2 ^ 64 = omega (arith, lt, g.met.P.Platform.has_room c.args.platform.now, g.met.P.Platform.is_limited c.args.platform.now) in
    let node = subst (λ k. IsNodeOf pages (want_at c.args.order k c.in-Kept.low c.args.high c.in-Kept.addr c.args.least) c.in-Kept.key twig) (above_it c.args.level at.one)
    (c.in_ok-twig-in-Kept.ensures.reads tells stands) in
    let reads = read_as pages c.args.order (c.args.level - 1) c.in-Kept.low c.args.high c.in-Kept.addr c.args.least c.in-Kept.key twig small node in
    let h = way_held c.args.order c.args.least c.args.level c.args.block c.args.high (g.P.Platform.head c.args.platform.now) c.in-Kept.low c.in-Kept.addr c.in-Kept.key twig at c.in_ok-twig-in-Kept.ensures.fits
    Reads c.hold_below-in-Kept.new.held.items c.hold.new.held.items c.in_ok-hold-in-Kept.ensures.held reads way in
    subst (λ x. HeldFrom Reads c.args.order c.args.least c.args.block (c.args.level - 1) c.args.high x c.hold.new.held.items) (sym c.in-Kept.is) h)

pub hold_way-returns-in_err-twig-in-Kept-clause-bad : goal.hold_way-returns-in_err-twig-in-Kept-clause-bad
hold_way-returns-in_err-twig-in-Kept-clause-bad g t c =
    let p = err_from_is_err_and c.from_residual.result c.from_residual.ensures.1 in
    rw (p.1, p.2) (λ tells stands addr is.
    let same : c.in_err-twig-in-Kept.field-0.0 ≡ BadRecord addr = cc in
    let at = subst (CanHold c.args.order c.args.least c.args.level c.args.block c.args.high (g.P.Platform.head c.args.platform.now)) c.in-Kept.is c.requires.can in
    let pages = (g.P.Platform.history c.args.platform.now).present.readable in
    let b = c.in_err-twig-in-Kept.ensures.bad tells stands addr (ap Err same) in
    subst (WrongFrom pages c.args.order c.args.least c.args.block addr (c.args.level - 1) c.args.high) (sym c.in-Kept.is)
    (wrong_kept pages c.args.order c.args.least c.args.block addr c.args.level c.args.high c.in-Kept.low c.in-Kept.addr c.in-Kept.key at.one (Here b)))

pub hold_way-returns-in_err-left-in-Kept-clause-bad : goal.hold_way-returns-in_err-left-in-Kept-clause-bad
hold_way-returns-in_err-left-in-Kept-clause-bad g t c =
    let p = err_from_is_err_and c.from_residual-in_err-left-in-Kept.result c.from_residual-in_err-left-in-Kept.ensures.1 in
    rw (p.1, p.2) (λ tells stands addr is.
    let err : c.in_err-left-in-Kept.field-0.0 ≡ BadRecord addr = cc in
    let at = subst (CanHold c.args.order c.args.least c.args.level c.args.block c.args.high (g.P.Platform.head c.args.platform.now)) c.in-Kept.is c.requires.can in
    let twig = c.in_ok-twig-in-Kept.twig in
    let pages = (g.P.Platform.history c.args.platform.now).present.readable in
    let l = above_it c.args.level at.one in
    let same : (g.P.Platform.history c.read_node.new.platform).present.readable ≡ pages = ap (λ i. i.readable) (c.in_ok-twig-in-Kept.ensures.looks.image tells) in
    let stands' = subst (λ p. StandsOver p c.read_node.new.reader.cache) (sym same) (c.in_ok-twig-in-Kept.ensures.stands tells stands) in
    let w = subst (λ p. WrongUnder p c.args.order c.args.block addr (c.args.level - 1) c.args.high twig) same (c.in_err-left-in-Kept.ensures.bad tells stands' addr (ap Err err)) in
    let node = subst (λ k. IsNodeOf pages (want_at c.args.order k c.in-Kept.low c.args.high c.in-Kept.addr c.args.least) c.in-Kept.key twig) l
    (c.in_ok-twig-in-Kept.ensures.reads tells stands) in
    let fits = subst (λ k. IsNodeFor (want_at c.args.order k c.in-Kept.low c.args.high c.in-Kept.addr c.args.least) c.in-Kept.key twig) l c.in_ok-twig-in-Kept.ensures.fits in
    let comes = wrong_below pages c.args.order c.args.block addr (c.args.level - 1) c.in-Kept.low c.args.high c.in-Kept.addr c.args.least c.args.order c.in-Kept.key twig fits node w in
    subst (WrongFrom pages c.args.order c.args.least c.args.block addr (c.args.level - 1) c.args.high) (sym c.in-Kept.is)
    (wrong_kept pages c.args.order c.args.least c.args.block addr c.args.level c.args.high c.in-Kept.low c.in-Kept.addr c.in-Kept.key at.one
    (subst (λ k. ComesToWrong pages c.args.order c.args.block addr (want_at c.args.order k c.in-Kept.low c.args.high c.in-Kept.addr c.args.least) c.in-Kept.key) (sym l) comes)))

pub hold_way-returns-in-Grown-clause-helps : goal.hold_way-returns-in-Grown-clause-helps
hold_way-returns-in-Grown-clause-helps g t c =
    IfOk_map _ _ c.hold_below.result
    (λ after h. subst (λ x. LeftOf AnyRead c.args.order c.args.block (c.args.level - 1) c.args.high x c.hold_below.new.held.items c.hold_below.new.beside.items after) (sym c.in-Grown.is)
    (left_grown AnyRead c.args.order c.args.block (c.args.level - 1) c.args.high c.in-Grown.low c.in-Grown.twig c.hold_below.new.held.items c.hold_below.new.beside.items after h))
    c.hold_below.ensures.helps

pub hold_way-returns-in-Grown-clause-beside : goal.hold_way-returns-in-Grown-clause-beside
hold_way-returns-in-Grown-clause-beside g t c = λ tells stands.
    (let Reads = IsReadAs (g.P.Platform.history c.args.platform.now).present.readable c.args.order in
    IfOk_map _ _ c.hold_below.result
    (λ after h. subst (λ x. LeftOf Reads c.args.order c.args.block (c.args.level - 1) c.args.high x c.hold_below.new.held.items c.hold_below.new.beside.items after) (sym c.in-Grown.is)
    (left_grown Reads c.args.order c.args.block (c.args.level - 1) c.args.high c.in-Grown.low c.in-Grown.twig c.hold_below.new.held.items c.hold_below.new.beside.items after h))
    (c.hold_below.ensures.beside tells stands))

pub hold_way-returns-in_ok-hold-in-Kept-clause-helps : goal.hold_way-returns-in_ok-hold-in-Kept-clause-helps
hold_way-returns-in_ok-hold-in-Kept-clause-helps g t c =
    subst (λ x. LeftOf AnyRead c.args.order c.args.block (c.args.level - 1) c.args.high x c.hold.new.held.items c.hold_below-in-Kept.new.beside.items c.in_ok-left-in-Kept.left) (sym c.in-Kept.is)
    (left_kept AnyRead c.args.order c.args.block (c.args.level - 1) c.args.high c.in-Kept.low c.in-Kept.addr c.in-Kept.key c.in_ok-twig-in-Kept.twig c.hold_below-in-Kept.new.held.items c.hold.new.held.items c.hold_below-in-Kept.new.beside.items c.in_ok-left-in-Kept.left
    c.in_ok-hold-in-Kept.ensures.held c.in_ok-left-in-Kept.ensures.helps)

pub hold_way-returns-in_ok-hold-in-Kept-clause-beside : goal.hold_way-returns-in_ok-hold-in-Kept-clause-beside
hold_way-returns-in_ok-hold-in-Kept-clause-beside g t c = λ tells stands.
    (let pages = (g.P.Platform.history c.args.platform.now).present.readable in
    let same : (g.P.Platform.history c.read_node.new.platform).present.readable ≡ pages = ap (λ i. i.readable) (c.in_ok-twig-in-Kept.ensures.looks.image tells) in
    let stands' = subst (λ p. StandsOver p c.read_node.new.reader.cache) (sym same) (c.in_ok-twig-in-Kept.ensures.stands tells stands) in
    let twig = c.in_ok-twig-in-Kept.twig in
    let left = subst (λ p. IsLeft (λ loses. HelpsBelow (IsReadAs p c.args.order) c.args.order c.args.block (c.args.level - 1) c.args.high twig c.hold_below-in-Kept.new.held.items c.hold_below-in-Kept.new.beside.items loses) c.args.order (length (children_of twig)) c.in_ok-left-in-Kept.left) same
    (c.in_ok-left-in-Kept.ensures.beside tells stands') in
    subst (λ x. LeftOf (IsReadAs pages c.args.order) c.args.order c.args.block (c.args.level - 1) c.args.high x c.hold.new.held.items c.hold_below-in-Kept.new.beside.items c.in_ok-left-in-Kept.left) (sym c.in-Kept.is)
    (left_kept (IsReadAs pages c.args.order) c.args.order c.args.block (c.args.level - 1) c.args.high c.in-Kept.low c.in-Kept.addr c.in-Kept.key twig c.hold_below-in-Kept.new.held.items c.hold.new.held.items c.hold_below-in-Kept.new.beside.items c.in_ok-left-in-Kept.left
    c.in_ok-hold-in-Kept.ensures.held left))

pub hold_way-returns-in_ok-hold-in-Kept-clause-mapped : goal.hold_way-returns-in_ok-hold-in-Kept-clause-mapped
hold_way-returns-in_ok-hold-in-Kept-clause-mapped g t c = λ tells stands mapped m.
    (let at = subst (CanHold c.args.order c.args.least c.args.level c.args.block c.args.high (g.P.Platform.head c.args.platform.now)) c.in-Kept.is c.requires.can in
    let twig = c.in_ok-twig-in-Kept.twig in
    let pages = (g.P.Platform.history c.args.platform.now).present.readable in
    let same : (g.P.Platform.history c.read_node.new.platform).present.readable ≡ pages = ap (λ i. i.readable) (c.in_ok-twig-in-Kept.ensures.looks.image tells) in
    let stands' = subst (λ p. StandsOver p c.read_node.new.reader.cache) (sym same) (c.in_ok-twig-in-Kept.ensures.stands tells stands) in
    let lt = way_lt c.args.order c.args.least c.args.level c.args.block c.args.high (g.P.Platform.head c.args.platform.now) c.in-Kept.low c.in-Kept.addr c.in-Kept.key at in
    let small : c.in-Kept.addr < 2 ^ 64 = omega (arith, lt, g.met.P.Platform.has_room c.args.platform.now, g.met.P.Platform.is_limited c.args.platform.now) in
    let node = subst (λ k. IsNodeOf pages (want_at c.args.order k c.in-Kept.low c.args.high c.in-Kept.addr c.args.least) c.in-Kept.key twig) (above_it c.args.level at.one)
    (c.in_ok-twig-in-Kept.ensures.reads tells stands) in
    let reads = read_as pages c.args.order (c.args.level - 1) c.in-Kept.low c.args.high c.in-Kept.addr c.args.least c.in-Kept.key twig small node in
    let k = kept_mapped pages c.args.order c.args.least (c.args.level - 1) c.args.high c.in-Kept.low c.in-Kept.addr c.in-Kept.key twig reads mapped (subst (λ x. MapsFrom pages c.args.order c.args.least (c.args.level - 1) c.args.high x mapped) c.in-Kept.is m) in
    c.in_ok-left-in-Kept.ensures.mapped tells stands' mapped (subst (λ p. Maps p c.args.order (stubs_below (c.args.level - 1) c.args.high twig) mapped) (sym same) k))

pub hold_way-returns-in-Grown-clause-mapped : goal.hold_way-returns-in-Grown-clause-mapped
hold_way-returns-in-Grown-clause-mapped g t c = λ tells stands.
    (let pages = (g.P.Platform.history c.args.platform.now).present.readable in
    IfOk_map _ _ c.hold_below.result
    (λ left h mapped m. h mapped (grown_mapped pages c.args.order c.args.least (c.args.level - 1) c.args.high c.in-Grown.low c.in-Grown.twig mapped (subst (λ x. MapsFrom pages c.args.order c.args.least (c.args.level - 1) c.args.high x mapped) c.in-Grown.is m)))
    (c.hold_below.ensures.mapped tells stands))

pub hold_below-returns-then-at-eq0-clause-finds : goal.hold_below-returns-then-at-eq0-clause-finds
hold_below-returns-then-at-eq0-clause-finds g t c = λ tells stands.
    (let at = c.requires.can in
    first_finds (FitsAt (g.P.Platform.history c.args.platform.now).present.readable) c.args.order c.args.level at.least at.low c.args.high c.args.block c.args.twig.now at.shaped
    (nothing_before c.args.block c.args.high c.place-at.result _ (children_of c.args.twig.now) c.deref.ensures.value c.if-at-eq0.true c.place-at.ensures.after at.to))

pub hold_below-returns-then-level-eq0-clause-finds : goal.hold_below-returns-then-level-eq0-clause-finds
hold_below-returns-then-level-eq0-clause-finds g t c = λ tells stands.
    (let at = c.requires.can in
    let w = on_way c.args.order c.args.block c.args.level c.args.high c.place-at.result (children_of c.args.twig.now) c.deref.result.now c.index-child.result.now c.deref.ensures.value c.if-at-eq0.false
    c.place-at.ensures.within c.place-at.ensures.before c.place-at.ensures.after at.to c.index-child.ensures in
    leaf_finds (FitsAt (g.P.Platform.history c.args.platform.now).present.readable) c.args.order c.args.level at.least at.low c.args.high c.args.block c.place-at.result c.args.twig.now c.index-child.result.now c.if-level-eq0.true at.shaped w c.left_of_leaf.result
    (c.low_of.result == c.args.block) (λ e. sym c.low_of.ensures ∙ eqb-true c.low_of.result c.args.block e) (λ e. eq-eqb c.low_of.result c.args.block (c.low_of.ensures ∙ e))
    (leaf_not c.args.order (length (children_of c.args.twig.now)) (c.low_of.result == c.args.block) c.left_of_leaf.result c.left_of_leaf.ensures.mapped) c.left_of_leaf.ensures.unmapped)

pub hold_below-returns-clause-finds : goal.hold_below-returns-clause-finds
hold_below-returns-clause-finds g t c = λ tells stands.
    (let at = c.requires.can in
    let cs = children_of c.args.twig.now in
    let w = on_way c.args.order c.args.block c.args.level c.args.high c.place-at.result cs c.deref.result.now c.index-child.result.now c.deref.ensures.value c.if-at-eq0.false
    c.place-at.ensures.within c.place-at.ensures.before c.place-at.ensures.after at.to c.index-child.ensures in
    let e = end_is c.args.high c.place-at.result w.at c.end_of-end.result c.deref-2.result.now cs c.deref-2.ensures.value w.at_is c.end_of-end.ensures in
    let pages = (g.P.Platform.history c.args.platform.now).present.readable in
    let Finds = FindsAmong (FitsAt pages) c.args.order c.args.block (stubs_below c.args.level c.args.high c.args.twig.now) in
    let one = found_as (ChildFinds (FitsAt pages) c.args.order (c.args.order / 2) c.args.block (c.args.level - 1) c.end_of-end.result c.index-child.result.now) Finds c.in_ok-left.left
    (λ found f. way_finds (FitsAt pages) c.args.order c.args.level at.least at.low c.args.high c.args.block c.args.twig.now at.shaped c.place-at.result c.index-child.result.now w found
    (subst (λ m. FindsAmong (FitsAt pages) c.args.order c.args.block (stubs c.args.level m c.index-child.result.now) found) e
    (child_finds (FitsAt pages) c.args.order c.args.block c.args.level (c.args.level - 1) c.end_of-end.result c.index-child.result.now found (above c.args.level c.if-level-eq0.false) w.from (subst (λ m. c.args.block < m) (sym e) w.to) f)))
    (c.in_ok-left.ensures.finds tells stands) in
    IfOk_map _ _ c.hold_beside.result
    (λ after h. beside_found Finds AnyRead c.args.order (c.args.level - 1) (length cs) c.args.high (take w.at cs) c.index-child.result.now (drop (suc w.at) cs) c.hold_way.new.beside.items c.hold_beside.new.beside.items c.in_ok-left.left after h one)
    (c.hold_beside.ensures.helps (take w.at cs) c.index-child.result.now (drop (suc w.at) cs) w.split (before_is w.at c.place-at.result cs w.within w.at_is)))

pub hold_way-returns-in_ok-hold-in-Kept-clause-finds : goal.hold_way-returns-in_ok-hold-in-Kept-clause-finds
hold_way-returns-in_ok-hold-in-Kept-clause-finds g t c = λ tells stands.
    (let head = g.P.Platform.head c.args.platform.now in
    let at = subst (CanHold c.args.order c.args.least c.args.level c.args.block c.args.high head) c.in-Kept.is c.requires.can in
    let l = above_it c.args.level at.one in
    let twig = c.in_ok-twig-in-Kept.twig in
    let pages = (g.P.Platform.history c.args.platform.now).present.readable in
    let same : (g.P.Platform.history c.read_node.new.platform).present.readable ≡ pages = ap (λ i. i.readable) (c.in_ok-twig-in-Kept.ensures.looks.image tells) in
    let stands' = subst (λ p. StandsOver p c.read_node.new.reader.cache) (sym same) (c.in_ok-twig-in-Kept.ensures.stands tells stands) in
    let can = way_read c.args.order c.args.least c.args.level c.args.block c.args.high head c.in-Kept.low c.in-Kept.addr c.in-Kept.key twig at c.in_ok-twig-in-Kept.ensures.fits in
    let fits = subst (λ k. IsNodeFor (want_at c.args.order k c.in-Kept.low c.args.high c.in-Kept.addr c.args.least) c.in-Kept.key twig) l c.in_ok-twig-in-Kept.ensures.fits in
    let node = subst (λ k. IsNodeOf pages (want_at c.args.order k c.in-Kept.low c.args.high c.in-Kept.addr c.args.least) c.in-Kept.key twig) l (c.in_ok-twig-in-Kept.ensures.reads tells stands) in
    let below = subst (λ p. IsFoundBy (FindsAmong (FitsAt p) c.args.order c.args.block (stubs_below (c.args.level - 1) c.args.high twig)) c.in_ok-left-in-Kept.left) same (c.in_ok-left-in-Kept.ensures.finds tells stands') in
    subst (λ x. IsFoundBy (ChildFinds (FitsAt pages) c.args.order c.args.least c.args.block (c.args.level - 1) c.args.high x) c.in_ok-left-in-Kept.left) (sym c.in-Kept.is)
    (found_as (FindsAmong (FitsAt pages) c.args.order c.args.block (stubs_below (c.args.level - 1) c.args.high twig)) (ChildFinds (FitsAt pages) c.args.order c.args.least c.args.block (c.args.level - 1) c.args.high (made.Kept c.in-Kept.low c.in-Kept.addr c.in-Kept.key)) c.in_ok-left-in-Kept.left
    (λ found f. kept_finds pages c.args.order c.args.least c.args.block (c.args.level - 1) c.args.high head c.in-Kept.low c.in-Kept.addr c.in-Kept.key twig found can fits node f) below))

-- the child on the way is among these places with the node
on_way_among : (pages : List (List ℕ)) (places : List Place) (order block level high n end : ℕ) (twig : Twig) (c : Child) (w : IsOnWay order block level high (children_of twig) n c) → end ≡ start_by low_of (drop (suc w.at) (children_of twig)) high →
    HaveNodes pages (stubs_below level high twig) places → HaveNodes pages (stubs level end c) places
on_way_among pages places order block level high n end twig c w is such = (such.0, child_among places level high w.at end (children_of twig) c w.split is such.1)

-- the way at the child is kept, where the way below the node is
way_kept : (kept : List CachedNode) (order level block high n end : ℕ) (twig : Twig) (c : Child) → (w : IsOnWay order block level high (children_of twig) n c) → (level ≡ 0 → ⊥) → end ≡ start_by low_of (drop (suc w.at) (children_of twig)) high →
    KeepsBelow kept order block level high twig → KeepsFromChild kept order (order / 2) block (level - 1) end c
way_kept kept order level block high n end twig c w some is keeps =
    let there = keeps (omega (arith, some)) (take w.at (children_of twig)) (drop (suc w.at) (children_of twig)) c w.split w.from w.to in
    subst (λ m. KeepsFromChild kept order (order / 2) block (level - 1) m c) (sym is) there

pub hold_below-returns-then-at-eq0-clause-caches : goal.hold_below-returns-then-at-eq0-clause-caches
hold_below-returns-then-at-eq0-clause-caches g t c = record {
  forgets = forgets_same _ _ refl;
  stands = λ tells stands. stands;
  among = λ tells stands places such kept. kept;
  warm = λ tells keeps. omega arith;
  few = λ tells keeps. omega arith;
  early = λ tells stands places such one. stay_same _ places (2 * c.args.level) c.args.reader.now.cache;
  fills = λ tells stands places such one room.
      (let at = c.requires.can in (
        None,
        first_finds (FitsAmong places (take (2 * c.args.level) c.args.reader.now.cache.nodes)) c.args.order c.args.level at.least at.low c.args.high c.args.block c.args.twig.now at.shaped
            (nothing_before c.args.block c.args.high c.place-at.result _ (children_of c.args.twig.now) c.deref.ensures.value c.if-at-eq0.true c.place-at.ensures.after at.to),
      ));
}

pub hold_below-returns-then-level-eq0-clause-caches : goal.hold_below-returns-then-level-eq0-clause-caches
hold_below-returns-then-level-eq0-clause-caches g t c = record {
  forgets = forgets_same _ _ refl;
  stands = λ tells stands. stands;
  among = λ tells stands places such kept. kept;
  warm = λ tells keeps. omega arith;
  few = λ tells keeps. omega arith;
  early = λ tells stands places such one. stay_same _ places (2 * c.args.level) c.args.reader.now.cache;
  fills = λ tells stands places such one room.
      (let at = c.requires.can in
      let w = on_way c.args.order c.args.block c.args.level c.args.high c.place-at.result (children_of c.args.twig.now) c.deref.result.now c.index-child.result.now c.deref.ensures.value c.if-at-eq0.false
      c.place-at.ensures.within c.place-at.ensures.before c.place-at.ensures.after at.to c.index-child.ensures in
      any_found (FindsAmong (FitsAmong places (take (2 * c.args.level) c.args.reader.now.cache.nodes)) c.args.order c.args.block (stubs_below c.args.level c.args.high c.args.twig.now)) c.left_of_leaf.result
      (leaf_finds (FitsAmong places (take (2 * c.args.level) c.args.reader.now.cache.nodes)) c.args.order c.args.level at.least at.low c.args.high c.args.block c.place-at.result c.args.twig.now c.index-child.result.now c.if-level-eq0.true at.shaped w c.left_of_leaf.result
      (c.low_of.result == c.args.block) (λ e. sym c.low_of.ensures ∙ eqb-true c.low_of.result c.args.block e) (λ e. eq-eqb c.low_of.result c.args.block (c.low_of.ensures ∙ e))
      (leaf_not c.args.order (length (children_of c.args.twig.now)) (c.low_of.result == c.args.block) c.left_of_leaf.result c.left_of_leaf.ensures.mapped) c.left_of_leaf.ensures.unmapped));
}

pub hold_below-returns-in_err-left-clause-caches : goal.hold_below-returns-in_err-left-clause-caches
hold_below-returns-in_err-left-clause-caches g t c =
    let p = err_from_is_err_and c.from_residual.result c.from_residual.ensures.1 in
    let w = on_way c.args.order c.args.block c.args.level c.args.high c.place-at.result (children_of c.args.twig.now) c.deref.result.now c.index-child.result.now c.deref.ensures.value c.if-at-eq0.false
    c.place-at.ensures.within c.place-at.ensures.before c.place-at.ensures.after c.requires.can.to c.index-child.ensures in
    let e = end_is c.args.high c.place-at.result w.at c.end_of-end.result c.deref-2.result.now (children_of c.args.twig.now) c.deref-2.ensures.value w.at_is c.end_of-end.ensures in
    let below = λ (pages : List (List ℕ)). HaveNodes pages (stubs_below c.args.level c.args.high c.args.twig.now) in
    let child = λ (pages : List (List ℕ)). HaveNodes pages (stubs c.args.level c.end_of-end.result c.index-child.result.now) in
    let way = c.in_err-left.ensures.caches in
    let one = caches_fewer g.P.Platform below child c.args.platform.now c.args.reader.now.cache c.hold_way.new.reader.cache (λ pages places such. on_way_among pages places c.args.order c.args.block c.args.level c.args.high c.place-at.result c.end_of-end.result c.args.twig.now c.index-child.result.now w e such)
    (record { forgets = way.forgets; stands = way.stands; among = way.among }) in
    let kept : KeepsBelow c.args.reader.now.cache.nodes c.args.order c.args.block c.args.level c.args.high c.args.twig.now → KeepsFromChild c.args.reader.now.cache.nodes c.args.order (c.args.order / 2) c.args.block (c.args.level - 1) c.end_of-end.result c.index-child.result.now = λ keeps. way_kept c.args.reader.now.cache.nodes c.args.order c.args.level c.args.block c.args.high c.place-at.result c.end_of-end.result c.args.twig.now c.index-child.result.now w c.if-level-eq0.false e keeps in
    rw (p.1, p.2) (record { forgets = one.forgets; stands = one.stands; among = one.among; warm = λ tells keeps. tt; early = λ tells stands places such one. tt; fills = λ tells stands places such one. tt; few = λ tells keeps. omega (arith, way.few tells (kept keeps)) })

pub hold_below-returns-clause-caches : goal.hold_below-returns-clause-caches
hold_below-returns-clause-caches g t c =
    let w = on_way c.args.order c.args.block c.args.level c.args.high c.place-at.result (children_of c.args.twig.now) c.deref.result.now c.index-child.result.now c.deref.ensures.value c.if-at-eq0.false
    c.place-at.ensures.within c.place-at.ensures.before c.place-at.ensures.after c.requires.can.to c.index-child.ensures in
    let e = end_is c.args.high c.place-at.result w.at c.end_of-end.result c.deref-2.result.now (children_of c.args.twig.now) c.deref-2.ensures.value w.at_is c.end_of-end.ensures in
    let below = λ (pages : List (List ℕ)). HaveNodes pages (stubs_below c.args.level c.args.high c.args.twig.now) in
    let child = λ (pages : List (List ℕ)). HaveNodes pages (stubs c.args.level c.end_of-end.result c.index-child.result.now) in
    let way = c.in_ok-left.ensures.caches in
    let one = caches_fewer g.P.Platform below child c.args.platform.now c.args.reader.now.cache c.hold_way.new.reader.cache (λ pages places such. on_way_among pages places c.args.order c.args.block c.args.level c.args.high c.place-at.result c.end_of-end.result c.args.twig.now c.index-child.result.now w e such)
    (record { forgets = way.forgets; stands = way.stands; among = way.among }) in
    let all = caches_then g.P.Platform below below c.args.platform.now c.hold_way.new.platform c.args.reader.now.cache c.hold_way.new.reader.cache c.hold_beside.new.reader.cache c.in_ok-left.ensures.looks.image (λ tells stands places such. such) one c.hold_beside.ensures.caches in
    let kept : KeepsBelow c.args.reader.now.cache.nodes c.args.order c.args.block c.args.level c.args.high c.args.twig.now → KeepsFromChild c.args.reader.now.cache.nodes c.args.order (c.args.order / 2) c.args.block (c.args.level - 1) c.end_of-end.result c.index-child.result.now = λ keeps. way_kept c.args.reader.now.cache.nodes c.args.order c.args.level c.args.block c.args.high c.place-at.result c.end_of-end.result c.args.twig.now c.index-child.result.now w c.if-level-eq0.false e keeps in
    let old = c.args.reader.now.cache in
    let mid = c.hold_way.new.reader.cache in
    let new = c.hold_beside.new.reader.cache in
    let last = once_on g.P.Platform below c.args.platform.now c.hold_way.new.platform mid c.hold_beside.result (λ pages places. StayEarly pages places 1 mid new) c.in_ok-left.ensures.looks.image c.hold_beside.ensures.early in
    record {
      forgets = all.forgets;
      stands = all.stands;
      among = all.among;
      warm = λ tells keeps. OnOk_from _ _ c.hold_beside.result (λ left few. omega (arith, way.warm tells (kept keeps), few.reads tells)) c.hold_beside.ensures.few;
      few = λ tells keeps. omega (arith, way.few tells (kept keeps), c.hold_beside.ensures.looks.reads_most tells, c.if-level-eq0.false);
      early = λ tells stands places such one.
          (let pages = (g.P.Platform.history c.args.platform.now).present.readable in
          let child = on_way_among pages places c.args.order c.args.block c.args.level c.args.high c.place-at.result c.end_of-end.result c.args.twig.now c.index-child.result.now w e such in
          OnOk_map (StayEarly pages places 1 mid new) (StayEarly pages places (2 * c.args.level) old new) c.hold_beside.result
          (λ next. stay_then pages places (2 * c.args.level - 1) 1 (2 * c.args.level) old mid new (omega (arith, c.if-level-eq0.false)) way.forgets.capacity (way.early tells stands places child one) next)
          (last tells (way.stands tells stands) places such one));
      fills = λ tells stands places such one.
          (let pages = (g.P.Platform.history c.args.platform.now).present.readable in
          let child = on_way_among pages places c.args.order c.args.block c.args.level c.args.high c.place-at.result c.end_of-end.result c.args.twig.now c.index-child.result.now w e such in
          let Was = FitsAmong places (take (2 * c.args.level - 1) mid.nodes) in
          let Is = FitsAmong places (take (2 * c.args.level) new.nodes) in
          let at = c.requires.can in
          OnOk_map (StayEarly pages places 1 mid new) (2 * c.args.level ≤ old.capacity → FillsBelow places (take (2 * c.args.level) new.nodes) c.args.order c.args.block c.args.level c.args.high c.args.twig.now) c.hold_beside.result
          (λ next room.
          let f = way.fills tells stands places child one (omega (arith, room)) in
          let moved = child_each Was Is c.args.order c.args.block (names_below places (take (2 * c.args.level - 1) mid.nodes))
          (fits_stays pages places (2 * c.args.level - 1) 1 (2 * c.args.level) mid new (way.stands tells stands) next (omega (arith, c.if-level-eq0.false)) (omega (arith, room, way.forgets.capacity)))
          (c.args.order / 2) (c.args.level - 1) c.end_of-end.result c.index-child.result.now f.0 f.1 in (
            f.0,
            way_finds Is c.args.order c.args.level at.least at.low c.args.high c.args.block c.args.twig.now at.shaped c.place-at.result c.index-child.result.now w f.0
                (subst (λ m. FindsAmong Is c.args.order c.args.block (stubs c.args.level m c.index-child.result.now) f.0) e
                (child_finds Is c.args.order c.args.block c.args.level (c.args.level - 1) c.end_of-end.result c.index-child.result.now f.0 (above c.args.level c.if-level-eq0.false) w.from (subst (λ m. c.args.block < m) (sym e) w.to) moved)),
          ))
          (last tells (way.stands tells stands) places such one));
    }

pub hold_way-returns-in-Grown-clause-caches : goal.hold_way-returns-in-Grown-clause-caches
hold_way-returns-in-Grown-clause-caches g t c =
    let way = c.hold_below.ensures.caches in
    let one = caches_fewer g.P.Platform (λ pages. HaveNodes pages (stubs c.args.level c.args.high c.args.child.now)) (λ pages. HaveNodes pages (stubs_below (c.args.level - 1) c.args.high c.in-Grown.twig)) c.args.platform.now c.args.reader.now.cache c.hold_below.new.reader.cache
    (λ pages places such. (such.0, grown_among places c.args.level c.args.high c.in-Grown.low c.in-Grown.twig c.args.child.now c.in-Grown.is c.requires.can.one such.1)) (record { forgets = way.forgets; stands = way.stands; among = way.among }) in
    let head = g.P.Platform.head c.args.platform.now in
    let can = way_grown c.args.order c.args.least c.args.level c.args.block c.args.high head c.in-Grown.low c.in-Grown.twig (subst (CanHold c.args.order c.args.least c.args.level c.args.block c.args.high head) c.in-Grown.is c.requires.can) in
    let kept : KeepsFromChild c.args.reader.now.cache.nodes c.args.order c.args.least c.args.block (c.args.level - 1) c.args.high c.args.child.now → KeepsBelow c.args.reader.now.cache.nodes c.args.order c.args.block (c.args.level - 1) c.args.high c.in-Grown.twig = λ keeps. below_grown c.args.reader.now.cache.nodes c.args.order c.args.least c.args.block (c.args.level - 1) c.args.high head c.in-Grown.low c.in-Grown.twig can
    (subst (KeepsFromChild c.args.reader.now.cache.nodes c.args.order c.args.least c.args.block (c.args.level - 1) c.args.high) c.in-Grown.is keeps) in
    let old = c.args.reader.now.cache in
    let new = c.hold_below.new.reader.cache in
    let such_below : (pages : List (List ℕ)) (places : List Place) → HaveNodes pages (stubs c.args.level c.args.high c.args.child.now) places → HaveNodes pages (stubs_below (c.args.level - 1) c.args.high c.in-Grown.twig) places
    = λ pages places such. (such.0, grown_among places c.args.level c.args.high c.in-Grown.low c.in-Grown.twig c.args.child.now c.in-Grown.is c.requires.can.one such.1) in
    record {
      forgets = one.forgets;
      stands = one.stands;
      among = one.among;
      warm = λ tells keeps. way.warm tells (kept keeps);
      few = λ tells keeps. way.few tells (kept keeps);
      early = λ tells stands places such one'.
          (let pages = (g.P.Platform.history c.args.platform.now).present.readable in
          OnOk_map (StayEarly pages places (2 * (c.args.level - 1)) old new) (StayEarly pages places (2 * c.args.level - 1) old new) c.hold_below.result
          (λ next. stay_then pages places 0 (2 * (c.args.level - 1)) (2 * c.args.level - 1) old old new (omega (arith, c.requires.can.one)) refl (stay_same pages places 0 old) next)
          (way.early tells stands places (such_below pages places such) one'));
      fills = λ tells stands places such one'.
          (let pages = (g.P.Platform.history c.args.platform.now).present.readable in
          let twig = c.in-Grown.twig in
          let Was = FitsAmong places (take (2 * (c.args.level - 1)) new.nodes) in
          let Is = FitsAmong places (take (2 * c.args.level - 1) new.nodes) in
          OnOk_map (2 * (c.args.level - 1) ≤ old.capacity → FillsBelow places (take (2 * (c.args.level - 1)) new.nodes) c.args.order c.args.block (c.args.level - 1) c.args.high twig)
          (2 * c.args.level - 1 ≤ old.capacity → FillsFromChild places (take (2 * c.args.level - 1) new.nodes) c.args.order c.args.least c.args.block (c.args.level - 1) c.args.high c.args.child.now) c.hold_below.result
          (λ fills room.
          let f = fills (omega (arith, room, c.requires.can.one)) in
          let moved = among_each Was Is c.args.order c.args.block (names_below places (take (2 * (c.args.level - 1)) new.nodes)) (fits_later places (2 * (c.args.level - 1)) (2 * c.args.level - 1) new.nodes (omega (arith, c.requires.can.one))) (stubs_below (c.args.level - 1) c.args.high twig) f.0 f.1 in (
            f.0,
            subst (λ x. ChildFinds Is c.args.order c.args.least c.args.block (c.args.level - 1) c.args.high x f.0) (sym c.in-Grown.is)
                (subst (λ y. ChildFindsBy Is c.args.order c.args.least c.args.block (c.args.level - 1) c.args.high y f.0) (sym (made.outs-Grown c.in-Grown.low twig)) moved),
          ))
          (way.fills tells stands places (such_below pages places such) one'));
    }

pub hold_way-returns-in_err-twig-in-Kept-clause-caches : goal.hold_way-returns-in_err-twig-in-Kept-clause-caches
hold_way-returns-in_err-twig-in-Kept-clause-caches g t c =
    let p = err_from_is_err_and c.from_residual.result c.from_residual.ensures.1 in
    let one = caches_read g.P.Platform c.args.level c.args.high c.in-Kept.low c.in-Kept.addr c.in-Kept.key c.args.child.now c.args.platform.now c.args.reader.now.cache c.read_node.new.reader.cache c.in-Kept.is c.requires.can.one c.in_err-twig-in-Kept.ensures.forgets c.in_err-twig-in-Kept.ensures.stands c.in_err-twig-in-Kept.ensures.but in
    let first : KeepsFromChild c.args.reader.now.cache.nodes c.args.order c.args.least c.args.block (c.args.level - 1) c.args.high c.args.child.now → (node : NodeBody) × IsCached c.args.reader.now.cache.nodes c.in-Kept.addr c.in-Kept.key node = λ keeps. first_cached c.args.reader.now.cache.nodes c.args.order c.args.least c.args.block (c.args.level - 1) c.args.high c.in-Kept.low c.in-Kept.addr c.in-Kept.key
    (subst (KeepsFromChild c.args.reader.now.cache.nodes c.args.order c.args.least c.args.block (c.args.level - 1) c.args.high) c.in-Kept.is keeps) in
    rw (p.1, p.2) (record {
      forgets = one.forgets;
      stands = one.stands;
      among = one.among;
      warm = λ tells keeps. tt;
      early = λ tells stands places such one. tt;
      fills = λ tells stands places such one. tt;
      few = λ tells keeps. (let node = first keeps in omega (arith, ap g.P.Platform.reads (c.in_err-twig-in-Kept.ensures.cached node.0 node.1).0));
    })

pub hold_way-returns-in_err-left-in-Kept-clause-caches : goal.hold_way-returns-in_err-left-in-Kept-clause-caches
hold_way-returns-in_err-left-in-Kept-clause-caches g t c =
    let p = err_from_is_err_and c.from_residual-in_err-left-in-Kept.result c.from_residual-in_err-left-in-Kept.ensures.1 in
    let read = c.in_ok-twig-in-Kept.ensures in
    let twig = c.in_ok-twig-in-Kept.twig in
    let way = c.in_err-left-in-Kept.ensures.caches in
    let old = c.args.reader.now.cache in
    let one = caches_read g.P.Platform c.args.level c.args.high c.in-Kept.low c.in-Kept.addr c.in-Kept.key c.args.child.now c.args.platform.now old c.read_node.new.reader.cache c.in-Kept.is c.requires.can.one read.forgets read.stands read.but in
    let all = caches_then g.P.Platform (λ pages. HaveNodes pages (stubs c.args.level c.args.high c.args.child.now)) (λ pages. HaveNodes pages (stubs_below (c.args.level - 1) c.args.high twig)) c.args.platform.now c.read_node.new.platform old c.read_node.new.reader.cache c.hold_below-in-Kept.new.reader.cache read.looks.image
    (λ tells stands places such. nodes_below_read _ places c.args.level c.args.high c.in-Kept.low c.in-Kept.addr c.in-Kept.key _ twig c.args.child.now refl c.in-Kept.is c.requires.can.one (read.reads tells stands) such)
    one (record { forgets = way.forgets; stands = way.stands; among = way.among }) in
    let head = g.P.Platform.head c.args.platform.now in
    let at = subst (CanHold c.args.order c.args.least c.args.level c.args.block c.args.high head) c.in-Kept.is c.requires.can in
    let can = way_read c.args.order c.args.least c.args.level c.args.block c.args.high head c.in-Kept.low c.in-Kept.addr c.in-Kept.key twig at read.fits in
    let child : KeepsFromChild c.args.reader.now.cache.nodes c.args.order c.args.least c.args.block (c.args.level - 1) c.args.high c.args.child.now → KeepsFromChild c.args.reader.now.cache.nodes c.args.order c.args.least c.args.block (c.args.level - 1) c.args.high (made.Kept c.in-Kept.low c.in-Kept.addr c.in-Kept.key) = λ keeps. subst (KeepsFromChild old.nodes c.args.order c.args.least c.args.block (c.args.level - 1) c.args.high) c.in-Kept.is keeps in
    let kept : KeepsFromChild c.args.reader.now.cache.nodes c.args.order c.args.least c.args.block (c.args.level - 1) c.args.high c.args.child.now → KeepsBelow c.read_node.new.reader.cache.nodes c.args.order c.args.block (c.args.level - 1) c.args.high twig = λ keeps. below_kept c.args.order c.args.least c.args.block (c.args.level - 1) c.args.high head c.in-Kept.low c.in-Kept.addr c.in-Kept.key twig old c.read_node.new.reader.cache can
    (λ node here. (let at = read.cached node here in (at.2, at.4))) (child keeps) in
    let same : KeepsFromChild c.args.reader.now.cache.nodes c.args.order c.args.least c.args.block (c.args.level - 1) c.args.high c.args.child.now → g.P.Platform.reads c.read_node.new.platform ≡ g.P.Platform.reads c.args.platform.now = λ keeps. (let node = first_cached old.nodes c.args.order c.args.least c.args.block (c.args.level - 1) c.args.high c.in-Kept.low c.in-Kept.addr c.in-Kept.key (child keeps) in ap g.P.Platform.reads (read.cached node.0 node.1).0) in
    rw (p.1, p.2) (record { forgets = all.forgets; stands = all.stands; among = all.among; warm = λ tells keeps. tt; early = λ tells stands places such one. tt; fills = λ tells stands places such one. tt; few = λ tells keeps. omega (arith, way.few tells (kept keeps), same keeps) })

pub hold_way-returns-in_err-hold-in-Kept-clause-caches : goal.hold_way-returns-in_err-hold-in-Kept-clause-caches
hold_way-returns-in_err-hold-in-Kept-clause-caches g t c =
    let p = err_from_is_err_and c.from_residual-in_err-hold-in-Kept.result c.from_residual-in_err-hold-in-Kept.ensures.1 in
    let read = c.in_ok-twig-in-Kept.ensures in
    let twig = c.in_ok-twig-in-Kept.twig in
    let way = c.in_ok-left-in-Kept.ensures.caches in
    let old = c.args.reader.now.cache in
    let one = caches_read g.P.Platform c.args.level c.args.high c.in-Kept.low c.in-Kept.addr c.in-Kept.key c.args.child.now c.args.platform.now old c.read_node.new.reader.cache c.in-Kept.is c.requires.can.one read.forgets read.stands read.but in
    let all = caches_then g.P.Platform (λ pages. HaveNodes pages (stubs c.args.level c.args.high c.args.child.now)) (λ pages. HaveNodes pages (stubs_below (c.args.level - 1) c.args.high twig)) c.args.platform.now c.read_node.new.platform old c.read_node.new.reader.cache c.hold_below-in-Kept.new.reader.cache read.looks.image
    (λ tells stands places such. nodes_below_read _ places c.args.level c.args.high c.in-Kept.low c.in-Kept.addr c.in-Kept.key _ twig c.args.child.now refl c.in-Kept.is c.requires.can.one (read.reads tells stands) such)
    one (record { forgets = way.forgets; stands = way.stands; among = way.among }) in
    let head = g.P.Platform.head c.args.platform.now in
    let at = subst (CanHold c.args.order c.args.least c.args.level c.args.block c.args.high head) c.in-Kept.is c.requires.can in
    let can = way_read c.args.order c.args.least c.args.level c.args.block c.args.high head c.in-Kept.low c.in-Kept.addr c.in-Kept.key twig at read.fits in
    let child : KeepsFromChild c.args.reader.now.cache.nodes c.args.order c.args.least c.args.block (c.args.level - 1) c.args.high c.args.child.now → KeepsFromChild c.args.reader.now.cache.nodes c.args.order c.args.least c.args.block (c.args.level - 1) c.args.high (made.Kept c.in-Kept.low c.in-Kept.addr c.in-Kept.key) = λ keeps. subst (KeepsFromChild old.nodes c.args.order c.args.least c.args.block (c.args.level - 1) c.args.high) c.in-Kept.is keeps in
    let kept : KeepsFromChild c.args.reader.now.cache.nodes c.args.order c.args.least c.args.block (c.args.level - 1) c.args.high c.args.child.now → KeepsBelow c.read_node.new.reader.cache.nodes c.args.order c.args.block (c.args.level - 1) c.args.high twig = λ keeps. below_kept c.args.order c.args.least c.args.block (c.args.level - 1) c.args.high head c.in-Kept.low c.in-Kept.addr c.in-Kept.key twig old c.read_node.new.reader.cache can
    (λ node here. (let at = read.cached node here in (at.2, at.4))) (child keeps) in
    let same : KeepsFromChild c.args.reader.now.cache.nodes c.args.order c.args.least c.args.block (c.args.level - 1) c.args.high c.args.child.now → g.P.Platform.reads c.read_node.new.platform ≡ g.P.Platform.reads c.args.platform.now = λ keeps. (let node = first_cached old.nodes c.args.order c.args.least c.args.block (c.args.level - 1) c.args.high c.in-Kept.low c.in-Kept.addr c.in-Kept.key (child keeps) in ap g.P.Platform.reads (read.cached node.0 node.1).0) in
    rw (p.1, p.2) (record { forgets = all.forgets; stands = all.stands; among = all.among; warm = λ tells keeps. tt; early = λ tells stands places such one. tt; fills = λ tells stands places such one. tt; few = λ tells keeps. omega (arith, way.few tells (kept keeps), same keeps) })

pub hold_way-returns-in_ok-hold-in-Kept-clause-caches : goal.hold_way-returns-in_ok-hold-in-Kept-clause-caches
hold_way-returns-in_ok-hold-in-Kept-clause-caches g t c =
    let read = c.in_ok-twig-in-Kept.ensures in
    let twig = c.in_ok-twig-in-Kept.twig in
    let way = c.in_ok-left-in-Kept.ensures.caches in
    let old = c.args.reader.now.cache in
    let one = caches_read g.P.Platform c.args.level c.args.high c.in-Kept.low c.in-Kept.addr c.in-Kept.key c.args.child.now c.args.platform.now old c.read_node.new.reader.cache c.in-Kept.is c.requires.can.one read.forgets read.stands read.but in
    let all = caches_then g.P.Platform (λ pages. HaveNodes pages (stubs c.args.level c.args.high c.args.child.now)) (λ pages. HaveNodes pages (stubs_below (c.args.level - 1) c.args.high twig)) c.args.platform.now c.read_node.new.platform old c.read_node.new.reader.cache c.hold_below-in-Kept.new.reader.cache read.looks.image
    (λ tells stands places such. nodes_below_read _ places c.args.level c.args.high c.in-Kept.low c.in-Kept.addr c.in-Kept.key _ twig c.args.child.now refl c.in-Kept.is c.requires.can.one (read.reads tells stands) such)
    one (record { forgets = way.forgets; stands = way.stands; among = way.among }) in
    let head = g.P.Platform.head c.args.platform.now in
    let at = subst (CanHold c.args.order c.args.least c.args.level c.args.block c.args.high head) c.in-Kept.is c.requires.can in
    let can = way_read c.args.order c.args.least c.args.level c.args.block c.args.high head c.in-Kept.low c.in-Kept.addr c.in-Kept.key twig at read.fits in
    let child : KeepsFromChild c.args.reader.now.cache.nodes c.args.order c.args.least c.args.block (c.args.level - 1) c.args.high c.args.child.now → KeepsFromChild c.args.reader.now.cache.nodes c.args.order c.args.least c.args.block (c.args.level - 1) c.args.high (made.Kept c.in-Kept.low c.in-Kept.addr c.in-Kept.key) = λ keeps. subst (KeepsFromChild old.nodes c.args.order c.args.least c.args.block (c.args.level - 1) c.args.high) c.in-Kept.is keeps in
    let kept : KeepsFromChild c.args.reader.now.cache.nodes c.args.order c.args.least c.args.block (c.args.level - 1) c.args.high c.args.child.now → KeepsBelow c.read_node.new.reader.cache.nodes c.args.order c.args.block (c.args.level - 1) c.args.high twig = λ keeps. below_kept c.args.order c.args.least c.args.block (c.args.level - 1) c.args.high head c.in-Kept.low c.in-Kept.addr c.in-Kept.key twig old c.read_node.new.reader.cache can
    (λ node here. (let at = read.cached node here in (at.2, at.4))) (child keeps) in
    let same : KeepsFromChild c.args.reader.now.cache.nodes c.args.order c.args.least c.args.block (c.args.level - 1) c.args.high c.args.child.now → g.P.Platform.reads c.read_node.new.platform ≡ g.P.Platform.reads c.args.platform.now = λ keeps. (let node = first_cached old.nodes c.args.order c.args.least c.args.block (c.args.level - 1) c.args.high c.in-Kept.low c.in-Kept.addr c.in-Kept.key (child keeps) in ap g.P.Platform.reads (read.cached node.0 node.1).0) in
    let mid = c.read_node.new.reader.cache in
    let new = c.hold_below-in-Kept.new.reader.cache in
    let k = cached_node c.in-Kept.addr c.in-Kept.key read.fills.0 in
    let below = λ (pages : List (List ℕ)). HaveNodes pages (stubs_below (c.args.level - 1) c.args.high twig) in
    let left = c.in_ok-left-in-Kept.left in
    let told : Result Left ReadyRefusal = Ok left in
    let lt = way_lt c.args.order c.args.least c.args.level c.args.block c.args.high head c.in-Kept.low c.in-Kept.addr c.in-Kept.key at in
    let small : c.in-Kept.addr < 2 ^ 64 = omega (arith, lt, g.met.P.Platform.has_room c.args.platform.now, g.met.P.Platform.is_limited c.args.platform.now) in
    let early_below = once_on g.P.Platform below c.args.platform.now c.read_node.new.platform mid told (λ pages places. StayEarly pages places (2 * (c.args.level - 1)) mid new) read.looks.image way.early in
    let fills_below = once_on g.P.Platform below c.args.platform.now c.read_node.new.platform mid told
    (λ pages places. 2 * (c.args.level - 1) ≤ mid.capacity → FillsBelow places (take (2 * (c.args.level - 1)) new.nodes) c.args.order c.args.block (c.args.level - 1) c.args.high twig) read.looks.image way.fills in
    let such_below : g.P.Platform.tells → StandsOver (g.P.Platform.history c.args.platform.now).present.readable old → (places : List Place) → HaveNodes (g.P.Platform.history c.args.platform.now).present.readable (stubs c.args.level c.args.high c.args.child.now) places →
    HaveNodes (g.P.Platform.history c.args.platform.now).present.readable (stubs_below (c.args.level - 1) c.args.high twig) places
    = λ tells stands places such. nodes_below_read _ places c.args.level c.args.high c.in-Kept.low c.in-Kept.addr c.in-Kept.key _ twig c.args.child.now refl c.in-Kept.is c.requires.can.one (read.reads tells stands) such in
    record {
      forgets = all.forgets;
      stands = all.stands;
      among = all.among;
      warm = λ tells keeps. omega (arith, way.warm tells (kept keeps), same keeps);
      few = λ tells keeps. omega (arith, way.few tells (kept keeps), same keeps);
      early = λ tells stands places such one'.
          (let pages = (g.P.Platform.history c.args.platform.now).present.readable in
          let stands' = read.stands tells stands in
          let here = kept_among places c.args.level c.args.high c.in-Kept.low c.in-Kept.addr c.in-Kept.key c.args.child.now c.in-Kept.is c.requires.can.one such.1 in
          stay_then pages places 1 (2 * (c.args.level - 1)) (2 * c.args.level - 1) old mid new (omega (arith, c.requires.can.one)) read.forgets.capacity (stay_read pages places k old mid small one' here stands' read.fills.2)
          (early_below tells stands' places (such_below tells stands places such) one'));
      fills = λ tells stands places such one' room.
          (let pages = (g.P.Platform.history c.args.platform.now).present.readable in
          let stands' = read.stands tells stands in
          let here = kept_among places c.args.level c.args.high c.in-Kept.low c.in-Kept.addr c.in-Kept.key c.args.child.now c.in-Kept.is c.requires.can.one such.1 in
          let l = above_it c.args.level at.one in
          let fits = subst (λ k. IsNodeFor (want_at c.args.order k c.in-Kept.low c.args.high c.in-Kept.addr c.args.least) c.in-Kept.key twig) l read.fits in
          let node = subst (λ k. IsNodeOf pages (want_at c.args.order k c.in-Kept.low c.args.high c.in-Kept.addr c.args.least) c.in-Kept.key twig) l (read.reads tells stands) in
          let first = first_made k old mid read.fills.2 (omega (arith, room, c.requires.can.one)) in
          let page = All-contains (IsOfPage pages) mid.nodes k stands' (early_kept 1 mid.nodes k first) in
          let such' = such_below tells stands places such in
          let stay = early_below tells stands' places such' one' in
          let kept = later (1 + 2 * (c.args.level - 1)) (2 * c.args.level - 1) new.nodes k (omega (arith, c.requires.can.one)) (stay 1 k here page (omega (arith, room, read.forgets.capacity, c.requires.can.one)) first) in
          let r = read_cached pages (take (2 * c.args.level - 1) new.nodes) (c.args.level - 1) c.in-Kept.low c.args.high c.in-Kept.addr c.args.least c.args.order c.in-Kept.key twig read.fills.0 small fits node page kept in
          let Was = FitsAmong places (take (2 * (c.args.level - 1)) new.nodes) in
          let Is = FitsAmong places (take (2 * c.args.level - 1) new.nodes) in
          let f = fills_below tells stands' places such' one' (omega (arith, room, read.forgets.capacity, c.requires.can.one)) in
          let moved = among_each Was Is c.args.order c.args.block (names_below places (take (2 * (c.args.level - 1)) new.nodes)) (fits_later places (2 * (c.args.level - 1)) (2 * c.args.level - 1) new.nodes (omega (arith, c.requires.can.one))) (stubs_below (c.args.level - 1) c.args.high twig) f.0 f.1 in (
            f.0,
            subst (λ x. ChildFinds Is c.args.order c.args.least c.args.block (c.args.level - 1) c.args.high x f.0) (sym c.in-Kept.is)
                (read_finds Is c.args.order c.args.least c.args.block (c.args.level - 1) c.args.high head c.in-Kept.low c.in-Kept.addr c.in-Kept.key twig r.0 f.0 can r.2 (r.1, here) moved),
          ));
    }
