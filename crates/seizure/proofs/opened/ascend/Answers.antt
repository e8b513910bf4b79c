use Rattle.std.proofs.Common.{◌≡◌, ◌==◌, ◌&&◌, Bool, sym, subst, arith}
use Rattle.std.specs.List.{dedup}
use Rattle.std.proofs.lemmas.List.Filters.{dedup_is}
use Rattle.seizure.specs.contracts.opened.OpenedOrd.TheImpl.Laws as ordered
use Rattle.seizure.specs.contracts.opened.OpenedEq.TheImpl.Laws as equal
use Rattle.seizure.specs.declared.opened.Opened.{Opened}
use Rattle.seizure.specs.Opened.{IsOrderOf}
use Rattle.seizure.proofs.OpenedLaws.{ascended}
use Rattle.seizure.proofs.opened.ascend.Goals as goal

pub returns : goal.returns
returns c =
    let given = c.args.opened.now.items in
    let sorted = c.sort_unstable.new.self.items in
    let same : Opened → Opened → Bool = λ x y. (x.addr == y.addr) && ((x.kind == y.kind) && (x.block == y.block)) in
    let rid : c.dedup.new.self.items ≡ dedup same sorted = dedup_is _ _ _ c.dedup.ensures.filtered in
    subst (IsOrderOf given) (sym rid) (ascended same given sorted ordered.total-law equal.laws-law ordered.matches_eq-law (λ x y is. grind arith) c.sort_unstable.ensures.permutation c.sort_unstable.ensures.sorted)
