use Rattle.std.proofs.Common.{◌≡◌, ◌==◌, List, map, rules, sym, ap, subst, ◌∙◌}
use Rattle.std.specs.List.{dedup}
use Rattle.std.proofs.lemmas.Fn.{dedup_same}
use Rattle.std.proofs.lemmas.List.Sorted.{IsNonDecreasingBy-from_sort_by_key, IsPermutation-map}
use Rattle.sdbt_base.specs.Traces.{Traced}
use Rattle.cert_maker.specs.declared.added.Added.{Added}
use Rattle.cert_maker.specs.Added.{traced}
use Rattle.cert_maker.specs.Ordered.{AreOneEach, IsOrderOf}
use Rattle.cert_maker.proofs.OrderLaws.{ordered, dedup-map, rises-map}
use Rattle.cert_maker.proofs.added.AddedList.ascend.Goals as goal

pub returns : goal.returns
returns c = λ given_one.
    let given = c.self.inside.items.items in
    let sorted = c.sort_unstable_by_key.new.self.items in
    let moved = IsPermutation-map traced given sorted c.sort_unstable_by_key.ensures.permutation in
    let rises = rises-map traced (λ (item : Traced). item.addr) sorted (IsNonDecreasingBy-from_sort_by_key (λ (item : Added). item.addr) _ c.sort_unstable_by_key.ensures.sorted (λ a r q k. search rules)) in
    let one : AreOneEach (λ (item : Traced). item.addr) (map traced given) = rw c.self.view_is given_one in
    let order = ordered (λ (item : Traced). item.addr) (map traced given) (map traced sorted) moved rises one in
    let rid = dedup_same _ (λ (one other : Added). one.addr == other.addr) _ (λ x y b f' x' y' k. search rules) _ _ c.dedup_by_key.ensures.filtered in
    let same : map traced c.dedup_by_key.new.self.items ≡ dedup (λ one other. one.addr == other.addr) (map traced sorted) = ap (map traced) rid ∙ dedup-map traced (λ one other. one.addr == other.addr) sorted in
    rw (← c.self.view_is) (subst (λ (l : List Traced). IsOrderOf (λ item. item.addr) (map traced given) l) (sym same) order)
