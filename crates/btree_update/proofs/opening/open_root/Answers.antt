use Rattle.std.proofs.Common.{◌≡◌, ℕ, suc, ◌≤◌, ◌+◌, ◌-◌, sym, ap, subst, ◌∙◌, arith}
use Rattle.btree_twigs.specs.declared.twigs.Child.{out-Child}
use Rattle.btree_twigs.specs.declared.twigs.Child.TheVariants as made
use Rattle.btree_twigs.specs.Stubs.{stubs, stubs_below, nodes, nodes_below}
use Rattle.btree_twigs.specs.Shape.{IsTwig}
use Rattle.btree_twigs.specs.Updates.{IsOpen}
use Rattle.btree_twigs.specs.Top.{IsTopBy, top_least}
use Rattle.btree_twigs.proofs.Nodes.{stubs_of_grown}
use Rattle.btree_twigs.proofs.Counts.{nodes_grown}
use Rattle.btree_update.specs.GroveTree.{want_of, want_in, Maps}
use Rattle.btree_update.specs.Held.{AreBelow, IsReadAs, AnyRead, OnWay, HeldFor}
use Rattle.btree_update.specs.Opens.{HasWay, Fitting, GivesChild, GivesBelow}
use Rattle.btree_update.proofs.OpenLaws.{nodes_is, at_hand_by}
use Rattle.btree_update.proofs.GivesLaws.{root_takes_up, grown_gives}
use Rattle.btree_update.proofs.OpenMaps.{opened_maps}
use Rattle.btree_update.proofs.ThereLaws.{fits_below}
use Rattle.btree_update.proofs.RootLaws.{root_up, root_maps, root_below, below_root}
use Rattle.btree_update.specs.Beside.{HelpsBelow, ReadOver}
use Rattle.btree_update.proofs.HelpLaws.{helps_up, from_grown}
use Rattle.btree_update.proofs.opening.open_root.Goals as goal

pub take_held-requires-clause-at_hand : goal.take_held-requires-clause-at_hand
take_held-requires-clause-at_hand c =
    let at = c.requires.can in
    at_hand_by AnyRead at.order (top_least at.below) c.args.block at.below at.high (HeldFor AnyRead at.order c.args.block at.below) (out-Child c.args.top.now) c.args.held.now.items at.at_hand

below_is : (level below : ℕ) → level ≡ suc below → level - 1 ≡ below
below_is level below is = omega (arith, is)

pub open_below-requires-clause-can : goal.open_below-requires-clause-can
open_below-requires-clause-can c =
    let at = c.requires.can in
    let is = ap out-Child c.in-Grown.is ∙ made.outs-Grown c.in-Grown.low c.in-Grown.twig in
    let u = root_up AnyRead at.order c.args.block at.below at.high c.args.top.now c.take_held.new.child c.args.held.now.items c.take_held.new.held.items c.in-Grown.low c.in-Grown.twig at.shaped at.at_hand c.take_held.ensures.taken is in
    rw (c.in-Grown.is, made.outs-Grown c.in-Grown.low c.in-Grown.twig)
    (below_root at.order c.args.block at.below (c.args.level - 1) at.high c.in-Grown.low (out-Child c.args.top.now) c.in-Grown.twig c.take_held.new.held.items (below_is c.args.level at.below at.level_is) at.to u)

pub returns-clause-opened : goal.returns-clause-opened
returns-clause-opened c at =
    let is = ap out-Child c.in-Grown.is ∙ made.outs-Grown c.in-Grown.low c.in-Grown.twig in
    let u = root_up AnyRead at.order c.args.block at.below at.high c.args.top.now c.take_held.new.child c.args.held.now.items c.take_held.new.held.items c.in-Grown.low c.in-Grown.twig at.shaped at.at_hand c.take_held.ensures.taken is in
    let e = rw (c.in-Grown.is, made.outs-Grown c.in-Grown.low c.in-Grown.twig) at c.open_below.ensures in
    let l = below_is c.args.level at.below at.level_is in
    let o = e.opened (below_root at.order c.args.block at.below (c.args.level - 1) at.high c.in-Grown.low (out-Child c.args.top.now) c.in-Grown.twig c.take_held.new.held.items l at.to u) in
    let shaped = subst (λ m. IsTwig at.order m (top_least at.below) at.order 0 at.high c.open_below.new.twig) l o.shaped in
    let opened = subst (λ m. IsOpen c.args.block (stubs_below m at.high c.open_below.new.twig)) l o.is_open in
    rw (c.in-Grown.is, made.outs-Grown c.in-Grown.low c.in-Grown.twig) (record {
      shaped = subst (IsTopBy at.order at.below at.high) (sym (made.outs-Grown c.in-Grown.low c.open_below.new.twig)) (u.low_is, shaped);
      is_open = subst (IsOpen c.args.block) (sym (stubs_of_grown at.below at.high c.in-Grown.low c.open_below.new.twig)) opened;
    })

pub returns-clause-gives : goal.returns-clause-gives
returns-clause-gives c pages at held =
    let is = ap out-Child c.in-Grown.is ∙ made.outs-Grown c.in-Grown.low c.in-Grown.twig in
    let l = below_is c.args.level at.below at.level_is in
    let u = root_up AnyRead at.order c.args.block at.below at.high c.args.top.now c.take_held.new.child c.args.held.now.items c.take_held.new.held.items c.in-Grown.low c.in-Grown.twig at.shaped at.at_hand c.take_held.ensures.taken is in
    let v = root_up (IsReadAs pages at.order) at.order c.args.block at.below at.high c.args.top.now c.take_held.new.child c.args.held.now.items c.take_held.new.held.items c.in-Grown.low c.in-Grown.twig at.shaped held c.take_held.ensures.taken is in
    let e = rw (c.in-Grown.is, made.outs-Grown c.in-Grown.low c.in-Grown.twig) at c.open_below.ensures in
    let can = below_root at.order c.args.block at.below (c.args.level - 1) at.high c.in-Grown.low (out-Child c.args.top.now) c.in-Grown.twig c.take_held.new.held.items l at.to u in
    let way = subst (λ m. OnWay c.args.block (λ high c'. HeldFor (IsReadAs pages at.order) at.order c.args.block m high c' c.take_held.new.held.items) at.high c.in-Grown.twig) (sym l) v.on_way in
    let first = root_takes_up pages at.order c.args.block at.below at.high c.args.top.now c.take_held.new.child c.args.held.now.items c.take_held.new.held.items c.in-Grown.low c.in-Grown.twig c.args.gone.now.items c.take_held.new.gone.items at.shaped at.to held c.take_held.ensures.taken c.take_held.ensures.noted is in
    let second = subst (λ m. GivesBelow pages at.order (Fitting pages (want_of at.order) (HasWay c.args.block)) m at.high c.in-Grown.twig c.open_below.new.twig c.take_held.new.gone.items c.open_below.new.gone.items) l (e.gives pages can way) in
    let third = fits_below pages at.order (suc at.below) (HasWay c.args.block) at.below at.high c.in-Grown.twig c.open_below.new.twig c.take_held.new.gone.items c.open_below.new.gone.items (omega arith) second in
    let both = grown_gives pages at.order (Fitting pages (want_in at.order (suc at.below)) (HasWay c.args.block)) at.below at.high c.args.top.now c.in-Grown.low c.in-Grown.twig c.open_below.new.twig c.args.gone.now.items c.take_held.new.gone.items c.open_below.new.gone.items first third in
    let new = made.Grown c.in-Grown.low c.open_below.new.twig in
    rw (c.in-Grown.is, made.outs-Grown c.in-Grown.low c.in-Grown.twig)
    (subst (λ k. GivesChild pages at.order (Fitting pages (want_in at.order k) (HasWay c.args.block)) k at.high c.args.top.now new c.args.gone.now.items c.open_below.new.gone.items) (sym at.level_is) both)

pub returns-clause-maps : goal.returns-clause-maps
returns-clause-maps c pages at held mapped m =
    let is = ap out-Child c.in-Grown.is ∙ made.outs-Grown c.in-Grown.low c.in-Grown.twig in
    let l = below_is c.args.level at.below at.level_is in
    let u = root_up AnyRead at.order c.args.block at.below at.high c.args.top.now c.take_held.new.child c.args.held.now.items c.take_held.new.held.items c.in-Grown.low c.in-Grown.twig at.shaped at.at_hand c.take_held.ensures.taken is in
    let v = root_up (IsReadAs pages at.order) at.order c.args.block at.below at.high c.args.top.now c.take_held.new.child c.args.held.now.items c.take_held.new.held.items c.in-Grown.low c.in-Grown.twig at.shaped held c.take_held.ensures.taken is in
    let e = rw (c.in-Grown.is, made.outs-Grown c.in-Grown.low c.in-Grown.twig) at c.open_below.ensures in
    let can = below_root at.order c.args.block at.below (c.args.level - 1) at.high c.in-Grown.low (out-Child c.args.top.now) c.in-Grown.twig c.take_held.new.held.items l at.to u in
    let way = subst (λ m. OnWay c.args.block (λ high c'. HeldFor (IsReadAs pages at.order) at.order c.args.block m high c' c.take_held.new.held.items) at.high c.in-Grown.twig) (sym l) v.on_way in
    let second = subst (λ m. GivesBelow pages at.order (Fitting pages (want_of at.order) (HasWay c.args.block)) m at.high c.in-Grown.twig c.open_below.new.twig c.take_held.new.gone.items c.open_below.new.gone.items) l (e.gives pages can way) in
    let before = root_maps pages at.order c.args.block at.below at.high c.args.top.now c.take_held.new.child c.args.held.now.items c.take_held.new.held.items c.in-Grown.low c.in-Grown.twig mapped held c.take_held.ensures.taken is m in
    let after = opened_maps pages at.order second.places.places _ _ mapped second.places.opens before in
    let new = made.Grown c.in-Grown.low c.open_below.new.twig in
    rw (c.in-Grown.is, made.outs-Grown c.in-Grown.low c.in-Grown.twig)
    (subst (λ k. Maps pages at.order (stubs k at.high new) mapped) (sym at.level_is) (subst (λ ss. Maps pages at.order ss mapped) (sym (stubs_of_grown at.below at.high c.in-Grown.low c.open_below.new.twig)) after))

pub returns-clause-nodes : goal.returns-clause-nodes
returns-clause-nodes c at =
    let is = ap out-Child c.in-Grown.is ∙ made.outs-Grown c.in-Grown.low c.in-Grown.twig in
    let l = below_is c.args.level at.below at.level_is in
    let u = root_up AnyRead at.order c.args.block at.below at.high c.args.top.now c.take_held.new.child c.args.held.now.items c.take_held.new.held.items c.in-Grown.low c.in-Grown.twig at.shaped at.at_hand c.take_held.ensures.taken is in
    let e = rw (c.in-Grown.is, made.outs-Grown c.in-Grown.low c.in-Grown.twig) at c.open_below.ensures in
    let le = subst (λ m. nodes_below m c.open_below.new.twig ≤ nodes_below m c.in-Grown.twig + m) l
    (e.nodes (below_root at.order c.args.block at.below (c.args.level - 1) at.high c.in-Grown.low (out-Child c.args.top.now) c.in-Grown.twig c.take_held.new.held.items l at.to u)) in
    let new = made.Grown c.in-Grown.low c.open_below.new.twig in
    let r : nodes (suc at.below) new ≤ nodes (suc at.below) c.args.top.now + suc at.below = omega (arith, le, u.few, nodes_is at.below c.args.top.now, nodes_grown at.below c.in-Grown.low c.open_below.new.twig) in
    rw (c.in-Grown.is, made.outs-Grown c.in-Grown.low c.in-Grown.twig) (subst (λ k. nodes k new ≤ nodes k c.args.top.now + k) (sym at.level_is) r)

pub returns-clause-below : goal.returns-clause-below
returns-clause-below c most at below =
    let is = ap out-Child c.in-Grown.is ∙ made.outs-Grown c.in-Grown.low c.in-Grown.twig in
    let l = below_is c.args.level at.below at.level_is in
    let u = root_up AnyRead at.order c.args.block at.below at.high c.args.top.now c.take_held.new.child c.args.held.now.items c.take_held.new.held.items c.in-Grown.low c.in-Grown.twig at.shaped at.at_hand c.take_held.ensures.taken is in
    let e = rw (c.in-Grown.is, made.outs-Grown c.in-Grown.low c.in-Grown.twig) at c.open_below.ensures in
    let first = root_below at.order c.args.block at.below at.high most c.args.top.now c.take_held.new.child c.args.held.now.items c.take_held.new.held.items c.in-Grown.low c.in-Grown.twig at.at_hand c.take_held.ensures.taken is
    (subst (λ k. AreBelow most (stubs k at.high c.args.top.now)) at.level_is below) in
    let second = subst (λ m. AreBelow most (stubs_below m at.high c.open_below.new.twig)) l
    (e.below most (below_root at.order c.args.block at.below (c.args.level - 1) at.high c.in-Grown.low (out-Child c.args.top.now) c.in-Grown.twig c.take_held.new.held.items l at.to u)
    (subst (λ m. AreBelow most (stubs_below m at.high c.in-Grown.twig)) (sym l) first)) in
    let new = made.Grown c.in-Grown.low c.open_below.new.twig in
    rw (c.in-Grown.is, made.outs-Grown c.in-Grown.low c.in-Grown.twig)
    (subst (λ k. AreBelow most (stubs k at.high new)) (sym at.level_is) (subst (AreBelow most) (sym (stubs_of_grown at.below at.high c.in-Grown.low c.open_below.new.twig)) second))

pub returns-clause-helps : goal.returns-clause-helps
returns-clause-helps c at source beside loses h =
    let is = ap out-Child c.in-Grown.is ∙ made.outs-Grown c.in-Grown.low c.in-Grown.twig in
    let l = below_is c.args.level at.below at.level_is in
    let u = root_up AnyRead at.order c.args.block at.below at.high c.args.top.now c.take_held.new.child c.args.held.now.items c.take_held.new.held.items c.in-Grown.low c.in-Grown.twig at.shaped at.at_hand c.take_held.ensures.taken is in
    let e = rw (c.in-Grown.is, made.outs-Grown c.in-Grown.low c.in-Grown.twig) at c.open_below.ensures in
    let can = below_root at.order c.args.block at.below (c.args.level - 1) at.high c.in-Grown.low (out-Child c.args.top.now) c.in-Grown.twig c.take_held.new.held.items l at.to u in
    let up_is = helps_up (ReadOver source at.order) at.order c.args.block at.below at.high c.args.top.now c.take_held.new.child c.args.held.now.items c.take_held.new.held.items c.in-Grown.low c.in-Grown.twig beside loses h c.take_held.ensures.taken is in
    let k = subst (λ m. HelpsBelow (ReadOver source at.order) at.order c.args.block m at.high c.open_below.new.twig c.open_below.new.held.items beside loses) l
    (e.helps can source beside loses (subst (λ m. HelpsBelow (ReadOver source at.order) at.order c.args.block m at.high c.in-Grown.twig c.take_held.new.held.items beside loses) (sym l) up_is.0)) in
    rw (c.in-Grown.is, made.outs-Grown c.in-Grown.low c.in-Grown.twig)
    (from_grown (ReadOver source at.order) at.order c.args.block at.below at.high c.in-Grown.low c.open_below.new.twig c.open_below.new.held.items beside loses k)
