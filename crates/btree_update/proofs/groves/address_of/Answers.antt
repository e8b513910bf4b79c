use Rattle.std.proofs.Common.{suc, [], ◌∷◌, sym, subst}
use Rattle.btree_twigs.specs.Stubs.{stubs, datum}
use Rattle.btree_twigs.specs.Updates.{IsOpen}
use Rattle.btree_twigs.specs.Search.{IsAt, IsSpot}
use Rattle.btree_twigs.specs.Top.{IsTop}
use Rattle.btree_update.proofs.GroveLaws.{spot_at, no_place}
use Rattle.btree_update.proofs.groves.address_of.Goals as goal

pub returns-in-Found : goal.returns-in-Found
returns-in-Found c order below top lt is_open =
    let h = subst (IsTop order below c.args.high) c.in-Grown.is top in
    let s = spot_at order below c.args.block c.args.high c.in-Grown.low c.in-Grown.twig c.find.result h lt c.find.ensures in
    (c.in-Found.key, subst (λ x. IsAt c.args.block (stubs (suc below) c.args.high x) (datum c.args.block c.in-Found.addr c.in-Found.key ∷ [])) (sym c.in-Grown.is) (subst (IsSpot c.args.block _) c.in-Found.is s))

pub returns-in-Absent : goal.returns-in-Absent
returns-in-Absent c order below top lt is_open =
    let h = subst (IsTop order below c.args.high) c.in-Grown.is top in
    let s = spot_at order below c.args.block c.args.high c.in-Grown.low c.in-Grown.twig c.find.result h lt c.find.ensures in
    subst (λ x. IsAt c.args.block (stubs (suc below) c.args.high x) []) (sym c.in-Grown.is) (subst (IsSpot c.args.block _) c.in-Absent.is s)

pub returns-in-Below : goal.returns-in-Below
returns-in-Below c order below top lt is_open =
    let h = subst (IsTop order below c.args.high) c.in-Grown.is top in
    let s = spot_at order below c.args.block c.args.high c.in-Grown.low c.in-Grown.twig c.find.result h lt c.find.ensures in
    let t = subst (IsSpot c.args.block _) c.in-Below.is s in
    absurd (no_place c.args.block _ _ t.3 (subst (λ x. IsOpen c.args.block (stubs (suc below) c.args.high x)) c.in-Grown.is is_open) t.0 t.1 t.2)
