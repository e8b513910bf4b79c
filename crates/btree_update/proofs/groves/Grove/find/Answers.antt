use Rattle.std.proofs.Common.{◌≤◌, ◌-◌, ◌^◌, subst, arith}
use Rattle.btree_walk.proofs.OnLaws.{IfOk_map}
use Rattle.btree_twigs.specs.Stubs.{stubs}
use Rattle.btree_update.specs.Held.{bound}
use Rattle.btree_update.proofs.FitsLaws.{AreSmall, are_small}
use Rattle.btree_update.proofs.GroveLaws.{above_it}
use Rattle.btree_update.proofs.FoundMaps.{root_found, root_fits}
use Rattle.btree_update.proofs.groves.Grove.find.Goals as goal

pub returns-clause-maps : goal.returns-clause-maps
returns-clause-maps g c = λ tells stands mapped maps.
    (let pages = (g.P.Platform.history c.args.platform.now).present.readable in
    let grove = c.args.self.now in
    let head : g.P.Platform.head c.args.platform.now ≤ 2 ^ 64 = omega (arith, g.met.P.Platform.has_room c.args.platform.now, g.met.P.Platform.is_limited c.args.platform.now) in
    let small = subst (λ k. AreSmall (stubs k grove.blocks grove.top)) (above_it grove.level c.requires.sound.one) (are_small (bound (g.P.Platform.head c.args.platform.now) c.requires.within.0) (stubs grove.level grove.blocks grove.top) head c.requires.within.1) in
    IfOk_map _ _ c.find_root.result (λ found f. root_found pages grove.order c.args.block (grove.level - 1) grove.blocks grove.top mapped found c.requires.sound.shaped c.requires.to small maps f) (c.find_root.ensures.found tells stands))

pub returns-clause-fits : goal.returns-clause-fits
returns-clause-fits g c = λ tells stands mapped maps addr is.
    (let pages = (g.P.Platform.history c.args.platform.now).present.readable in
    let grove = c.args.self.now in
    let head : g.P.Platform.head c.args.platform.now ≤ 2 ^ 64 = omega (arith, g.met.P.Platform.has_room c.args.platform.now, g.met.P.Platform.is_limited c.args.platform.now) in
    let small = subst (λ k. AreSmall (stubs k grove.blocks grove.top)) (above_it grove.level c.requires.sound.one) (are_small (bound (g.P.Platform.head c.args.platform.now) c.requires.within.0) (stubs grove.level grove.blocks grove.top) head c.requires.within.1) in
    root_fits pages grove.order c.args.block (grove.level - 1) grove.blocks grove.top mapped addr c.requires.sound.shaped small maps (c.find_root.ensures.bad tells stands addr is))
