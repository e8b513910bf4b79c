use Rattle.std.proofs.Common.{◌≡◌, Some, None, refl, sym, subst, arith}
use Rattle.btree_walk.specs.Sights.{CachedFits}
use Rattle.btree_update.specs.Finding.{FindsFrom, CanGoOn}
use Rattle.btree_update.proofs.lacking.lacks_from.Goals as goal

pub lacks_cached-requires : goal.lacks_cached-requires
lacks_cached-requires c =
    let can = subst (CanGoOn c.args.order c.args.block c.requires.0) c.in-Below.is c.requires.1 in
    record { level = can.1; from = can.2; below = can.3; order = omega (arith, can.0); some = λ inner. omega (arith, can.0) }

pub returns-in-Found : goal.returns-in-Found
returns-in-Found c = (
  λ no. absurd (cc),
  λ f. absurd (let e : None ≡ Some (record { low = c.args.block; addr = c.in-Found.addr; key = c.in-Found.key }) = subst (λ s. FindsFrom (CachedFits c.args.cache.now.nodes) c.args.order c.args.block s None) c.in-Found.is f in cc),
)

pub returns-in-Absent : goal.returns-in-Absent
returns-in-Absent c = (λ yes. subst (λ s. FindsFrom (CachedFits c.args.cache.now.nodes) c.args.order c.args.block s None) (sym c.in-Absent.is) refl, λ f. refl)

pub returns-in-Below : goal.returns-in-Below
returns-in-Below c = (
  λ yes. subst (λ s. FindsFrom (CachedFits c.args.cache.now.nodes) c.args.order c.args.block s None) (sym c.in-Below.is) (c.lacks_cached.ensures.0 yes),
  λ f. c.lacks_cached.ensures.1 (subst (λ s. FindsFrom (CachedFits c.args.cache.now.nodes) c.args.order c.args.block s None) c.in-Below.is f),
)
