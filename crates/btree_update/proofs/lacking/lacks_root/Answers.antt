use Rattle.std.proofs.Common.{◌≤◌, ◌-◌, None, sym, subst, arith}
use Rattle.btree_walk.specs.Sights.{CachedFits}
use Rattle.btree_twigs.specs.declared.twigs.Child.TheVariants as made
use Rattle.btree_twigs.specs.Stubs.{low_in, stubs_below}
use Rattle.btree_update.specs.Held.{bound}
use Rattle.btree_update.specs.Holding.{CanHoldRoot}
use Rattle.btree_update.specs.Finding.{FindsBelow, RootFinds, RootFindsBy}
use Rattle.btree_update.proofs.RootHolds.{root_holds, root_grown}
use Rattle.btree_update.proofs.RootSpots.{spot_is, root_want_is}
use Rattle.btree_update.proofs.FoundLaws.{goes_on}
use Rattle.btree_update.proofs.KeptWay.{finds_there}
use Rattle.btree_update.proofs.lacking.lacks_root.Goals as goal

pub lacks_from-requires : goal.lacks_from-requires
lacks_from-requires c =
    let head = c.requires.0 in let can = c.requires.1 in
    let at = root_grown c.args.order c.args.level c.args.block c.args.high head c.in-Grown.low c.in-Grown.twig (subst (CanHoldRoot c.args.order c.args.level c.args.block c.args.high head) c.in-Grown.is can) in (
      head,
      goes_on c.args.order c.args.block (bound head at.size) (stubs_below (c.args.level - 1) c.args.high c.in-Grown.twig) c.find-spot.result can.four
          (spot_is c.args.order c.args.level c.args.block c.args.high head c.in-Grown.low c.in-Grown.twig c.args.top.now c.find-spot.result can c.in-Grown.is c.find-spot.ensures) at.within,
    )

pub returns-in-Grown : goal.returns-in-Grown
returns-in-Grown c =
    let kept = CachedFits c.args.cache.now.nodes in
    let order = c.args.order in let block = c.args.block in let below = c.args.level - 1 in let high = c.args.high in
    let spot = c.find-spot.result in let low = c.in-Grown.low in let twig = c.in-Grown.twig in
    let is = spot_is order c.args.level block high c.requires.0 low twig c.args.top.now spot c.requires.1 c.in-Grown.is c.find-spot.ensures in (
      λ yes. subst (λ x. RootFinds kept order block below high x None) (sym c.in-Grown.is)
          (subst (λ y. RootFindsBy kept order block below high y None) (sym (made.outs-Grown low twig)) (record { spot = spot; is = is; finds = c.lacks_from.ensures.0 yes })),
      λ f. c.lacks_from.ensures.1 (finds_there kept order block (stubs_below below high twig) spot None is
          (subst (λ y. RootFindsBy kept order block below high y None) (made.outs-Grown low twig) (subst (λ x. RootFinds kept order block below high x None) c.in-Grown.is f))),
    )

pub lacks_cached-requires : goal.lacks_cached-requires
lacks_cached-requires c =
    let head = c.requires.0 in let low = c.in-Kept.low in let addr = c.in-Kept.addr in let key = c.in-Kept.key in
    let at = root_holds c.args.order c.least_of_root.result c.args.level c.args.block c.args.high head (made.Kept low addr key) (subst (CanHoldRoot c.args.order c.args.level c.args.block c.args.high head) c.in-Kept.is c.requires.1) c.least_of_root.ensures in
    record {
      level = at.one;
      from = subst (λ x. low_in x ≤ c.args.block) (made.outs-Kept low addr key) at.from;
      below = at.to;
      order = omega (arith, at.four);
      some = λ inner. (let two = at.two inner in omega (arith, two));
    }

pub returns-in-Kept : goal.returns-in-Kept
returns-in-Kept c =
    let kept = CachedFits c.args.cache.now.nodes in
    let order = c.args.order in let block = c.args.block in let below = c.args.level - 1 in let high = c.args.high in
    let low = c.in-Kept.low in let addr = c.in-Kept.addr in let key = c.in-Kept.key in
    let same = root_want_is order c.args.level block high c.requires.0 low addr c.least_of_root.result key c.args.top.now c.requires.1 c.in-Kept.is c.least_of_root.ensures in (
      λ yes. subst (λ x. RootFinds kept order block below high x None) (sym c.in-Kept.is)
          (subst (λ y. RootFindsBy kept order block below high y None) (sym (made.outs-Kept low addr key)) (subst (λ w. FindsBelow kept block w key None) same (c.lacks_cached.ensures.0 yes))),
      λ f. c.lacks_cached.ensures.1 (subst (λ w. FindsBelow kept block w key None) (sym same)
          (subst (λ y. RootFindsBy kept order block below high y None) (made.outs-Kept low addr key) (subst (λ x. RootFinds kept order block below high x None) c.in-Kept.is f))),
    )
