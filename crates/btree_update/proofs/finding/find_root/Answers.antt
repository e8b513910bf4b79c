use Rattle.std.proofs.Common.{◌<◌, ◌≤◌, ◌-◌, ◌^◌, ℕ, IfOk, sym, subst, arith}
use Rattle.page_store.specs.Places.{FitsAt}
use Rattle.btree_walk.specs.Sights.{CachedFits}
use Rattle.btree_walk.proofs.OnLaws.{IfOk_map, entry_below}
use Rattle.btree_walk.proofs.MappedLaws.{finds_page, stops_page}
use Rattle.btree_twigs.specs.declared.twigs.Child.TheVariants as made
use Rattle.btree_twigs.specs.Stubs.{stubs, stubs_below}
use Rattle.btree_update.specs.GroveTree.{want_at}
use Rattle.btree_update.specs.Held.{bound}
use Rattle.btree_update.specs.Holding.{CanHoldRoot}
use Rattle.btree_update.specs.Finding.{FindsBelow, ComesToWrong, RootFinds, RootFindsBy, RootStops, RootStopsBy, RootKeeps}
use Rattle.btree_update.proofs.RootHolds.{root_grown, root_lt}
use Rattle.btree_update.proofs.RootSpots.{spot_is, root_want_is}
use Rattle.btree_update.proofs.FoundLaws.{looks_more, up_twig, goes_on, from_level}
use Rattle.btree_update.proofs.KeptWay.{finds_there, OnOk_from, OnOk_map}
use Rattle.btree_update.specs.Among.{HaveNodes, HaveSpot}
use Rattle.btree_update.proofs.AmongLaws.{grown_among, kept_among, spot_among}
use Rattle.btree_update.proofs.CacheLaws.{stands_on, caches_fewer}
use Rattle.btree_update.proofs.finding.find_root.Goals as goal

less_one : (level n : ℕ) → n ≤ level - 1 → n ≤ level
less_one level n le = omega (arith, le)

pub find_from-requires : goal.find_from-requires
find_from-requires g c =
    let head = g.P.Platform.head c.args.platform.now in
    let at = root_grown c.args.order c.args.level c.args.block c.args.high head c.in-Grown.low c.in-Grown.twig (subst (CanHoldRoot c.args.order c.args.level c.args.block c.args.high head) c.in-Grown.is c.requires.can) in
    record {
      can = goes_on c.args.order c.args.block (bound head at.size) (stubs_below (c.args.level - 1) c.args.high c.in-Grown.twig) c.find-spot.result c.requires.can.four
          (spot_is c.args.order c.args.level c.args.block c.args.high head c.in-Grown.low c.in-Grown.twig c.args.top.now c.find-spot.result c.requires.can c.in-Grown.is c.find-spot.ensures) at.within;
    }

pub find-requires-clause-within : goal.find-requires-clause-within
find-requires-clause-within g c =
    let head = g.P.Platform.head c.args.platform.now in
    root_lt c.args.order c.args.level c.args.block c.args.high head c.in-Kept.low c.in-Kept.addr c.in-Kept.key (subst (CanHoldRoot c.args.order c.args.level c.args.block c.args.high head) c.in-Kept.is c.requires.can)

pub returns-in-Grown-clause-found : goal.returns-in-Grown-clause-found
returns-in-Grown-clause-found g c = λ tells stands.
    (let pages = (g.P.Platform.history c.args.platform.now).present.readable in
    let spot = spot_is c.args.order c.args.level c.args.block c.args.high (g.P.Platform.head c.args.platform.now) c.in-Grown.low c.in-Grown.twig c.args.top.now c.find-spot.result c.requires.can c.in-Grown.is c.find-spot.ensures in
    subst (λ x. IfOk c.find_from.result (RootFinds (FitsAt pages) c.args.order c.args.block (c.args.level - 1) c.args.high x)) (sym c.in-Grown.is)
    (IfOk_map _ _ c.find_from.result
    (λ found f. subst (λ y. RootFindsBy (FitsAt pages) c.args.order c.args.block (c.args.level - 1) c.args.high y found) (sym (made.outs-Grown c.in-Grown.low c.in-Grown.twig)) (record { spot = c.find-spot.result; is = spot; finds = f }))
    (c.find_from.ensures.found tells stands)))

pub returns-in-Grown-clause-bad : goal.returns-in-Grown-clause-bad
returns-in-Grown-clause-bad g c = λ tells stands addr is.
    (let pages = (g.P.Platform.history c.args.platform.now).present.readable in
    let spot = spot_is c.args.order c.args.level c.args.block c.args.high (g.P.Platform.head c.args.platform.now) c.in-Grown.low c.in-Grown.twig c.args.top.now c.find-spot.result c.requires.can c.in-Grown.is c.find-spot.ensures in
    subst (RootStops pages c.args.order c.args.block addr (c.args.level - 1) c.args.high) (sym c.in-Grown.is)
    (subst (RootStopsBy pages c.args.order c.args.block addr (c.args.level - 1) c.args.high) (sym (made.outs-Grown c.in-Grown.low c.in-Grown.twig))
    (record { spot = c.find-spot.result; is = spot; stops = c.find_from.ensures.bad tells stands addr is })))

pub returns-in-Grown-clause-looks : goal.returns-in-Grown-clause-looks
returns-in-Grown-clause-looks g c =
    let spot = spot_is c.args.order c.args.level c.args.block c.args.high (g.P.Platform.head c.args.platform.now) c.in-Grown.low c.in-Grown.twig c.args.top.now c.find-spot.result c.requires.can c.in-Grown.is c.find-spot.ensures in
    looks_more g.P.Platform _ c.args.level c.args.platform.now c.find_from.new.platform
    (less_one c.args.level _ (from_level c.args.block (c.args.level - 1) (stubs_below (c.args.level - 1) c.args.high c.in-Grown.twig) c.find-spot.result spot (up_twig (c.args.level - 1) c.args.high c.in-Grown.twig)))
    c.find_from.ensures.looks

pub returns-in-Kept-clause-found : goal.returns-in-Kept-clause-found
returns-in-Kept-clause-found g c = λ tells stands.
    (let pages = (g.P.Platform.history c.args.platform.now).present.readable in
    let want = want_at c.args.order c.args.level c.in-Kept.low c.args.high c.in-Kept.addr c.least_of_root.result in
    let same = root_want_is c.args.order c.args.level c.args.block c.args.high (g.P.Platform.head c.args.platform.now) c.in-Kept.low c.in-Kept.addr c.least_of_root.result c.in-Kept.key c.args.top.now c.requires.can c.in-Kept.is c.least_of_root.ensures in
    subst (λ x. IfOk c.find.result (RootFinds (FitsAt pages) c.args.order c.args.block (c.args.level - 1) c.args.high x)) (sym c.in-Kept.is)
    (IfOk_map _ _ c.find.result
    (λ found h. subst (λ y. RootFindsBy (FitsAt pages) c.args.order c.args.block (c.args.level - 1) c.args.high y found) (sym (made.outs-Kept c.in-Kept.low c.in-Kept.addr c.in-Kept.key))
    (subst (λ w. FindsBelow (FitsAt pages) c.args.block w c.in-Kept.key found) same
    (h.path, finds_page pages c.args.reader.now.cache c.args.order (c.args.level - 1) c.args.block want c.in-Kept.key h.path found stands h.finds)))
    (c.find.ensures.found tells)))

pub returns-in-Kept-clause-bad : goal.returns-in-Kept-clause-bad
returns-in-Kept-clause-bad g c = λ tells stands addr is.
    (let pages = (g.P.Platform.history c.args.platform.now).present.readable in
    let head = g.P.Platform.head c.args.platform.now in
    let want = want_at c.args.order c.args.level c.in-Kept.low c.args.high c.in-Kept.addr c.least_of_root.result in
    let same = root_want_is c.args.order c.args.level c.args.block c.args.high head c.in-Kept.low c.in-Kept.addr c.least_of_root.result c.in-Kept.key c.args.top.now c.requires.can c.in-Kept.is c.least_of_root.ensures in
    let lt = root_lt c.args.order c.args.level c.args.block c.args.high head c.in-Kept.low c.in-Kept.addr c.in-Kept.key (subst (CanHoldRoot c.args.order c.args.level c.args.block c.args.high head) c.in-Kept.is c.requires.can) in
    let small : c.in-Kept.addr < 2 ^ 64 = omega (arith, lt, g.met.P.Platform.has_room c.args.platform.now, g.met.P.Platform.is_limited c.args.platform.now) in
    subst (RootStops pages c.args.order c.args.block addr (c.args.level - 1) c.args.high) (sym c.in-Kept.is)
    (subst (RootStopsBy pages c.args.order c.args.block addr (c.args.level - 1) c.args.high) (sym (made.outs-Kept c.in-Kept.low c.in-Kept.addr c.in-Kept.key))
    (subst (λ w. ComesToWrong pages c.args.block addr w c.in-Kept.key) same
    (stops_page pages c.args.reader.now.cache c.args.order (c.args.level - 1) c.args.block addr want c.in-Kept.key small stands (c.find.ensures.bad tells addr is)))))

pub returns-in-Kept-clause-entry : goal.returns-in-Kept-clause-entry
returns-in-Kept-clause-entry g c =
    let head = g.P.Platform.head c.args.platform.now in
    let lt = root_lt c.args.order c.args.level c.args.block c.args.high head c.in-Kept.low c.in-Kept.addr c.in-Kept.key (subst (CanHoldRoot c.args.order c.args.level c.args.block c.args.high head) c.in-Kept.is c.requires.can) in
    IfOk_map _ _ c.find.result (entry_below c.args.block c.in-Kept.addr head lt) c.find.ensures.entry

-- ---- what the cache keeps

pub returns-in-Grown-clause-uses : goal.returns-in-Grown-clause-uses
returns-in-Grown-clause-uses g c =
    let old = c.args.reader.now.cache.nodes in
    let new = c.find_from.new.reader.cache.nodes in
    let order = c.args.order in let block = c.args.block in let below = c.args.level - 1 in let high = c.args.high in
    let spot = c.find-spot.result in
    let twig = c.in-Grown.twig in
    let is = spot_is order c.args.level block high (g.P.Platform.head c.args.platform.now) c.in-Grown.low twig c.args.top.now spot c.requires.can c.in-Grown.is c.find-spot.ensures in
    record {
      warm = λ keeps.
          (let at = subst (RootKeeps old order block below high) c.in-Grown.is keeps in
          let among = subst (λ y. RootFindsBy (CachedFits old) order block below high y at.0) (made.outs-Grown c.in-Grown.low twig) at.1 in
          c.find_from.ensures.uses.warm (at.0, finds_there (CachedFits old) order block (stubs_below below high twig) spot at.0 is among));
      fills = λ tells. OnOk_map _ _ c.find_from.result
          (λ keeps room.
          let at = keeps (omega (arith, room, from_level block below (stubs_below below high twig) spot is (up_twig below high twig))) in
          subst (RootKeeps new order block below high) (sym c.in-Grown.is)
          (at.0, subst (λ y. RootFindsBy (CachedFits new) order block below high y at.0) (sym (made.outs-Grown c.in-Grown.low twig)) (record { spot = spot; is = is; finds = at.1 })))
          (c.find_from.ensures.uses.fills tells);
    }

pub returns-in-Kept-clause-uses : goal.returns-in-Kept-clause-uses
returns-in-Kept-clause-uses g c =
    let old = c.args.reader.now.cache.nodes in
    let new = c.find.new.reader.cache.nodes in
    let order = c.args.order in let block = c.args.block in let below = c.args.level - 1 in let high = c.args.high in
    let want = want_at order c.args.level c.in-Kept.low high c.in-Kept.addr c.least_of_root.result in
    let same = root_want_is order c.args.level block high (g.P.Platform.head c.args.platform.now) c.in-Kept.low c.in-Kept.addr c.least_of_root.result c.in-Kept.key c.args.top.now c.requires.can c.in-Kept.is c.least_of_root.ensures in
    record {
      warm = λ keeps.
          (let at = subst (RootKeeps old order block below high) c.in-Kept.is keeps in
          let by = subst (λ y. RootFindsBy (CachedFits old) order block below high y at.0) (made.outs-Kept c.in-Kept.low c.in-Kept.addr c.in-Kept.key) at.1 in
          let from = subst (λ w. FindsBelow (CachedFits old) block w c.in-Kept.key at.0) (sym same) by in
          (c.find.ensures.cached at.0 from.0 from.1).0);
      fills = λ tells. OnOk_from _ _ c.find.result
          (λ found h room.
          let from : FindsBelow (CachedFits new) block want c.in-Kept.key found = (h.path, h.warm (omega (arith, room, c.find.ensures.forgets.capacity))) in
          subst (RootKeeps new order block below high) (sym c.in-Kept.is)
          (found, subst (λ y. RootFindsBy (CachedFits new) order block below high y found) (sym (made.outs-Kept c.in-Kept.low c.in-Kept.addr c.in-Kept.key)) (subst (λ w. FindsBelow (CachedFits new) block w c.in-Kept.key found) same from)))
          (c.find.ensures.found tells);
    }

pub returns-in-Grown-clause-caches : goal.returns-in-Grown-clause-caches
returns-in-Grown-clause-caches g c =
    let spot = spot_is c.args.order c.args.level c.args.block c.args.high (g.P.Platform.head c.args.platform.now) c.in-Grown.low c.in-Grown.twig c.args.top.now c.find-spot.result c.requires.can c.in-Grown.is c.find-spot.ensures in
    caches_fewer g.P.Platform (λ pages. HaveNodes pages (stubs c.args.level c.args.high c.args.top.now)) (λ pages. HaveSpot pages c.find-spot.result) c.args.platform.now c.args.reader.now.cache c.find_from.new.reader.cache
    (λ pages places such.
    (let below = grown_among places c.args.level c.args.high c.in-Grown.low c.in-Grown.twig c.args.top.now c.in-Grown.is c.requires.can.one such.1 in
    spot_among pages places c.args.block (stubs_below (c.args.level - 1) c.args.high c.in-Grown.twig) c.find-spot.result such.0 below spot)) c.find_from.ensures.caches

pub returns-in-Kept-clause-caches : goal.returns-in-Kept-clause-caches
returns-in-Kept-clause-caches g c = record {
  forgets = c.find.ensures.forgets;
  stands = λ tells stands. stands_on _ _ _ stands (c.find.ensures.keeps tells);
  among = λ tells stands places such kept.
      (let at = kept_among places c.args.level c.args.high c.in-Kept.low c.in-Kept.addr c.in-Kept.key c.args.top.now c.in-Kept.is c.requires.can.one such.1 in
      c.find.ensures.among tells stands places (such.0, at) kept);
}
