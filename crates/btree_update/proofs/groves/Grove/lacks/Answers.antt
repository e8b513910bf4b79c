use Rattle.std.proofs.Common.{◌≢◌, ◌-◌, None, subst}
use Rattle.std.proofs.lemmas.List.Elements.{recursion_from_All}
use Rattle.page_store.specs.Tree.{Mapped}
use Rattle.btree_twigs.specs.Stubs.{stubs}
use Rattle.btree_update.specs.Held.{bound}
use Rattle.btree_update.proofs.FitsLaws.{AreSmall, are_small}
use Rattle.btree_update.proofs.GroveLaws.{above_it}
use Rattle.btree_update.proofs.FoundMaps.{root_found}
use Rattle.btree_update.proofs.RootSpots.{root_page}
use Rattle.btree_update.proofs.groves.Grove.lacks.Goals as goal

pub lacks_root-requires : goal.lacks_root-requires
lacks_root-requires c =
    (c.requires.within.0, record { one = c.requires.sound.one; four = c.requires.sound.least; most = c.requires.sound.most; shaped = c.requires.sound.shaped; to = c.requires.to; size = c.requires.within.1; within = c.requires.within.3 })

pub returns-clause-found : goal.returns-clause-found
returns-clause-found c = λ pages over yes.
    let grove = c.args.self.now in
    root_page pages c.args.cache.now over grove.order c.args.block None (grove.level - 1) grove.blocks grove.top (c.lacks_root.ensures.0 yes)

pub returns-clause-maps : goal.returns-clause-maps
returns-clause-maps c = λ pages over yes mapped maps.
    (let grove = c.args.self.now in
    let within = c.requires.within in
    let small = subst (λ k. AreSmall (stubs k grove.blocks grove.top)) (above_it grove.level c.requires.sound.one) (are_small (bound within.0 within.1) (stubs grove.level grove.blocks grove.top) within.2 within.3) in
    let found = root_page pages c.args.cache.now over grove.order c.args.block None (grove.level - 1) grove.blocks grove.top (c.lacks_root.ensures.0 yes) in
    recursion_from_All (λ (m : Mapped). m.block ≢ c.args.block) mapped (root_found pages grove.order c.args.block (grove.level - 1) grove.blocks grove.top mapped None c.requires.sound.shaped c.requires.to small maps found))
