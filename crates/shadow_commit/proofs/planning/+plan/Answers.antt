use Rattle.std.proofs.Common.{◌≡◌, List, suc, ◌+◌, ◌≤◌, [], ◌∷◌, ◌++◌, take, refl, sym, ap, subst, ◌∙◌, arith, rules}
use Rattle.std.proofs.lemmas.List.{take_all}
use Rattle.node_codec.specs.declared.body.Entry.{Entry}
use Rattle.btree_twigs.specs.declared.twigs.Child.{Child}
use Rattle.btree_twigs.specs.Stubs.{children_of, sum_by, nodes, stubs, stubs_by, stubs_below, low_of}
use Rattle.btree_twigs.proofs.Counts.{sum_append}
use Rattle.shadow_commit.specs.Sealed.{Sealed, SealsEach, Seals}
use Rattle.shadow_commit.specs.Planned.{AddsOf}
use Rattle.shadow_commit.proofs.SealLaws.{children_count}
use Rattle.shadow_commit.proofs.StepLaws.{grown_at, can_below, loop_child, can_child, grown_level, level_within}
use Rattle.shadow_commit.proofs.PlanLaws.{unsnoc, kept_is, kept_none, grown_is, adds_kept, adds_more, adds_node, places_so_far, places_more, places_all, more_addrs, item_is, leaf_test}
use Rattle.shadow_commit.proofs.planning.+plan.Goals as goal

pub plan_child-plan_twig-requires : goal.plan_child-plan_twig-requires
plan_child-plan_twig-requires t c =
    let version = c.requires.can.0 in
    let at = c.requires.can.1 in
    let s = grown_at version at.order at.level at.high c.args.next.now c.args.child.now c.in-Grown.low c.in-Grown.twig c.in-Grown.is at.shaped at.below in
    (omega (arith, c.decreases, grown_level c.args.child.now c.in-Grown.low c.in-Grown.twig c.in-Grown.is), (version, can_below version c.args.next.now 4294967296 c.args.child.now c.in-Grown.low c.in-Grown.twig at s))

pub plan_child-overflow_add-next : goal.plan_child-overflow_add-next
plan_child-overflow_add-next t c =
    let version = c.requires.can.0 in
    let at = c.requires.can.1 in
    let s = grown_at version at.order at.level at.high c.args.next.now c.args.child.now c.in-Grown.low c.in-Grown.twig c.in-Grown.is at.shaped at.below in
    let is = c.in_ok-addr-in-Grown.ensures.addr version (can_below version c.args.next.now 4294967296 c.args.child.now c.in-Grown.low c.in-Grown.twig at s) in
    let small : c.in_ok-addr-in-Grown.addr + 1 ≤ 4294967296 = omega (arith, is, at.room, s.count) in
    search rules

pub plan_child-returns-in_ok-plan_kept-in-Kept-clause-next : goal.plan_child-returns-in_ok-plan_kept-in-Kept-clause-next
plan_child-returns-in_ok-plan_kept-in-Kept-clause-next t c version at = omega (arith, kept_none at.level c.in-Kept.low c.in-Kept.addr c.in-Kept.key c.args.child.now c.in-Kept.is)

pub plan_child-returns-in_ok-plan_kept-in-Kept-clause-planned : goal.plan_child-returns-in_ok-plan_kept-in-Kept-clause-planned
plan_child-returns-in_ok-plan_kept-in-Kept-clause-planned t c version at leaf ns e h =
    let k = kept_is version at.level c.args.next.now c.args.child.now c.in-Kept.low c.in-Kept.addr c.in-Kept.key ns e c.in-Kept.is h in
    (ap (λ (e : Entry). e.addr) k.entry_is, adds_kept c.args.base at.high c.in-Kept.low c.in-Kept.addr c.in-Kept.key c.args.child.now at.level c.args.in_leaf ns c.args.added.now c.plan_kept.new.added c.in-Kept.is leaf k.none (c.in_ok-plan_kept-in-Kept.ensures c.in-Kept.key))

pub plan_child-returns-in_ok-addr-in-Grown-clause-next : goal.plan_child-returns-in_ok-addr-in-Grown-clause-next
plan_child-returns-in_ok-addr-in-Grown-clause-next t c version at =
    let s = grown_at version at.order at.level at.high c.args.next.now c.args.child.now c.in-Grown.low c.in-Grown.twig c.in-Grown.is at.shaped at.below in
    let is = c.in_ok-addr-in-Grown.ensures.addr version (can_below version c.args.next.now 4294967296 c.args.child.now c.in-Grown.low c.in-Grown.twig at s) in
    omega (arith, is, s.count)

pub plan_child-returns-in_ok-addr-in-Grown-clause-planned : goal.plan_child-returns-in_ok-addr-in-Grown-clause-planned
plan_child-returns-in_ok-addr-in-Grown-clause-planned t c version at leaf ns e h =
    let s = grown_at version at.order at.level at.high c.args.next.now c.args.child.now c.in-Grown.low c.in-Grown.twig c.in-Grown.is at.shaped at.below in
    let p = c.in_ok-addr-in-Grown.ensures.planned version (can_below version c.args.next.now 4294967296 c.args.child.now c.in-Grown.low c.in-Grown.twig at s) ns e.addr e.key
    (grown_is version at.level s.below c.args.next.now c.args.child.now c.in-Grown.low c.in-Grown.twig ns e c.in-Grown.is s.level_is h) in
    (p.0, subst (λ ss. AddsOf c.args.base ss ns c.args.added.now c.plan_twig.new.added) (sym s.places) p.1)

pub plan_twig-plan_child-requires : goal.plan_twig-plan_child-requires
plan_twig-plan_child-requires t c =
    let version = c.requires.can.0 in
    let at = c.requires.can.1 in
    let cs = c.deref-child-items.result.now in
    let i = c.loop-child.child-index in
    let inv = c.loop-child.invariant in
    let up = inv.next version at in
    let s = loop_child version c.args.first 4294967296 c.args.twig.now cs i c.child-item.result at inv.same c.loop-child-test.true c.child-item.is in (
      omega (arith, c.decreases, at.shaped.level_is, level_within at.order at.level _ c.child-item.result s.shaped),
      (version, can_child version c.args.first 4294967296 c.loop-child.next 4294967296 c.args.twig.now cs i c.child-item.result at s inv.same (omega (arith, up)) up refl),
    )

pub plan_twig-loop-child-preserved : goal.plan_twig-loop-child-preserved
plan_twig-loop-child-preserved t c =
    let cs = c.deref-child-items.result.now in
    let i = c.loop-child.child-index in
    let inv = c.loop-child.invariant in
    record {
      same = inv.same;
      next = λ version at.
          let up = inv.next version at in
          let s = loop_child version c.args.first 4294967296 c.args.twig.now cs i c.child-item.result at inv.same c.loop-child-test.true c.child-item.is in
          let can = can_child version c.args.first 4294967296 c.loop-child.next 4294967296 c.args.twig.now cs i c.child-item.result at s inv.same (omega (arith, up)) up refl in
          omega (arith, c.in_ok-addr.ensures.next version can, up, ap (sum_by (nodes at.level)) s.more, sum_append (nodes at.level) (take i cs) (c.child-item.result ∷ []));
      planned = λ version at ns es h.
          let up = inv.next version at in
          let s = loop_child version c.args.first 4294967296 c.args.twig.now cs i c.child-item.result at inv.same c.loop-child-test.true c.child-item.is in
          let can = can_child version c.args.first 4294967296 c.loop-child.next 4294967296 c.args.twig.now cs i c.child-item.result at s inv.same (omega (arith, up)) up refl in
          let u = unsnoc (Seals version at.level) c.args.first (take i cs) c.child-item.result ns es (subst (λ xs. SealsEach (Seals version at.level) c.args.first xs ns es) s.more h) in
          let count = children_count version at.level c.args.first (take i cs) u.front u.entries u.each in
          let one = c.in_ok-addr.ensures.planned version can (leaf_test at.level _ at.shaped.level_is) u.here u.entry (subst (λ n. Seals version at.level n c.child-item.result u.here u.entry) (omega (arith, up, count)) u.one) in
          let before = inv.planned version at u.front u.entries u.each in (
            more_addrs c.loop-child.children c.push.new.self c.in_ok-addr.addr u.entries es u.entry u.entries_are before.0 c.in_ok-push.ensures one.0,
            adds_more c.args.base (places_so_far at.level at.high i cs) (stubs at.level can.high c.child-item.result) (places_so_far at.level at.high (i + 1) cs) c.args.added.now c.loop-child.added c.plan_child.new.added u.front u.here ns
                (places_more at.level at.high i cs c.child-item.result c.loop-child-test.true c.child-item.is) u.nodes_are before.1 one.1,
          );
    }

pub plan_twig-returns-clause-addr : goal.plan_twig-returns-clause-addr
plan_twig-returns-clause-addr t c version at =
    let inv = c.loop-child.invariant in
    let all : take c.loop-child.child-index c.deref-child-items.result.now ≡ children_of c.args.twig.now = take_all c.loop-child.child-index c.deref-child-items.result.now (omega (arith, c.loop-child-test.false)) ∙ inv.same in
    inv.next version at ∙ ap (λ (cs : List Child). c.args.first + sum_by (nodes at.level) cs) all

pub plan_twig-returns-clause-planned : goal.plan_twig-returns-clause-planned
plan_twig-returns-clause-planned t c version at ns addr key h =
    let cs = c.deref-child-items.result.now in
    let i = c.loop-child.child-index in
    let inv = c.loop-child.invariant in
    let all : take i cs ≡ children_of c.args.twig.now = take_all i cs (omega (arith, c.loop-child-test.false)) ∙ inv.same in
    let places : places_so_far at.level at.high i cs ≡ stubs_below at.level at.high c.args.twig.now = places_all at.level at.high i cs (omega (arith, c.loop-child-test.false)) ∙ ap (stubs_by low_of (stubs at.level) at.high) inv.same in
    let before = inv.planned version at h.below h.entries (subst (λ xs. SealsEach (Seals version at.level) c.args.first xs h.below h.entries) (sym all) h.each) in
    let up = inv.next version at in
    let count = children_count version at.level c.args.first (children_of c.args.twig.now) h.below h.entries h.each in
    let address : addr ≡ c.loop-child.next = omega (arith, h.addr_is, up, count, ap (sum_by (nodes at.level)) all) in
    let n : Sealed = record { addr = addr; key = key; level = suc at.level; entries = h.entries } in
    let item = item_is c.loop-child.next c.loop-child.children n address before.0 in (
      address,
      adds_node c.args.base (stubs_below at.level at.high c.args.twig.now) c.args.added.now c.loop-child.added c.push-2.new.self h.below ns n h.is
          (subst (λ ss. AddsOf c.args.base ss h.below c.args.added.now c.loop-child.added) places before.1) (c.in_ok-push-2.ensures ∙ ap (λ x. c.loop-child.added ++ x ∷ []) item),
    )
