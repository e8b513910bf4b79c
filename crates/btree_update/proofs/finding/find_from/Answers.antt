use Rattle.std.proofs.Common.{◌<◌, ◌≤◌, ◌-◌, ◌^◌, IfOk, Some, None, refl, sym, subst, arith}
use Rattle.page_store.specs.Places.{FitsAt}
use Rattle.btree_walk.proofs.OnLaws.{IfOk_map}
use Rattle.btree_walk.proofs.MappedLaws.{finds_page, stops_page}
use Rattle.btree_update.specs.GroveTree.{want_of}
use Rattle.btree_update.specs.Held.{stub_at}
use Rattle.btree_update.specs.Finding.{FindsFrom, StopsFrom, KeepsFrom, level_from, CanGoOn}
use Rattle.btree_update.proofs.KeptWay.{OnOk_from}
use Rattle.btree_update.proofs.CacheLaws.{stands_on}
use Rattle.btree_update.specs.Among.{HaveSpot}
use Rattle.btree_update.proofs.finding.find_from.Goals as goal

pub returns-in-Below-clause-found : goal.returns-in-Below-clause-found
returns-in-Below-clause-found g c = λ tells stands.
    (let pages = (g.P.Platform.history c.args.platform.now).present.readable in
    let want = want_of c.args.order (stub_at c.in-Below.level c.in-Below.low c.in-Below.high c.in-Below.addr c.in-Below.key) in
    subst (λ s. IfOk c.find.result (FindsFrom (FitsAt pages) c.args.order c.args.block s)) (sym c.in-Below.is)
    (IfOk_map _ _ c.find.result
    (λ found h. (h.path, finds_page pages c.args.reader.now.cache c.args.order (c.in-Below.level - 1) c.args.block want c.in-Below.key h.path found stands h.finds))
    (c.find.ensures.found tells)))

pub returns-in-Below-clause-bad : goal.returns-in-Below-clause-bad
returns-in-Below-clause-bad g c = λ tells stands addr is.
    (let pages = (g.P.Platform.history c.args.platform.now).present.readable in
    let want = want_of c.args.order (stub_at c.in-Below.level c.in-Below.low c.in-Below.high c.in-Below.addr c.in-Below.key) in
    let can = subst (CanGoOn c.args.order c.args.block (g.P.Platform.head c.args.platform.now)) c.in-Below.is c.requires.can in
    let small : c.in-Below.addr < 2 ^ 64 = omega (arith, can.4, g.met.P.Platform.has_room c.args.platform.now, g.met.P.Platform.is_limited c.args.platform.now) in
    subst (StopsFrom pages c.args.order c.args.block addr) (sym c.in-Below.is)
    (stops_page pages c.args.reader.now.cache c.args.order (c.in-Below.level - 1) c.args.block addr want c.in-Below.key small stands (c.find.ensures.bad tells addr is)))

-- ---- what the cache keeps

pub returns-in-Found-clause-uses : goal.returns-in-Found-clause-uses
returns-in-Found-clause-uses g c = record {
  warm = λ keeps. refl;
  fills = λ tells room. subst (KeepsFrom c.args.reader.now.cache.nodes c.args.order c.args.block) (sym c.in-Found.is) (Some (record { low = c.args.block; addr = c.in-Found.addr; key = c.in-Found.key }), refl);
}

pub returns-in-Absent-clause-uses : goal.returns-in-Absent-clause-uses
returns-in-Absent-clause-uses g c = record {
  warm = λ keeps. refl;
  fills = λ tells room. subst (KeepsFrom c.args.reader.now.cache.nodes c.args.order c.args.block) (sym c.in-Absent.is) (None, refl);
}

pub returns-in-Below-clause-uses : goal.returns-in-Below-clause-uses
returns-in-Below-clause-uses g c =
    let old = c.args.reader.now.cache.nodes in
    let new = c.find.new.reader.cache.nodes in
    let want = want_of c.args.order (stub_at c.in-Below.level c.in-Below.low c.in-Below.high c.in-Below.addr c.in-Below.key) in
    record {
      warm = λ keeps.
          (let at = subst (KeepsFrom old c.args.order c.args.block) c.in-Below.is keeps in
          (c.find.ensures.cached at.0 at.1.0 at.1.1).0);
      fills = λ tells. OnOk_from _ _ c.find.result
          (λ found h room.
          let level = subst (λ s. level_from s ≤ c.find.new.reader.cache.capacity) c.in-Below.is room in
          subst (KeepsFrom new c.args.order c.args.block) (sym c.in-Below.is)
          (found, (h.path, h.warm (omega (arith, level, c.find.ensures.forgets.capacity)))))
          (c.find.ensures.found tells);
    }

pub returns-in-Below-clause-caches : goal.returns-in-Below-clause-caches
returns-in-Below-clause-caches g c = record {
  forgets = c.find.ensures.forgets;
  stands = λ tells stands. stands_on _ _ _ stands (c.find.ensures.keeps tells);
  among = λ tells stands places such kept.
      (let has = subst (λ s. HaveSpot (g.P.Platform.history c.args.platform.now).present.readable s places) c.in-Below.is such in
      c.find.ensures.among tells stands places (has.0, has.1) kept);
}
