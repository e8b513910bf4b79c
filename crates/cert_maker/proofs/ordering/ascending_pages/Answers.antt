use Rattle.std.proofs.Common.{◌==◌, List, rules, sym, subst, ◌∙◌}
use Rattle.std.specs.List.Sorted.{IsPermutation}
use Rattle.std.proofs.lemmas.Fn.{dedup_same}
use Rattle.std.proofs.lemmas.List.Sorted.{IsNonDecreasingBy-from_sort_by_key}
use Rattle.sdbt_base.specs.declared.lists.Unkept.{Unkept}
use Rattle.cert_maker.specs.Ordered.{IsOrderOf}
use Rattle.cert_maker.proofs.OrderLaws.{ordered}
use Rattle.cert_maker.proofs.ordering.ascending_pages.Goals as goal

pub returns : goal.returns
returns c = λ one.
    let given = c.args.pages.now in
    let sorted = c.sort_unstable_by_key.new.self.items in
    let moved : IsPermutation given sorted = subst (λ (l : List Unkept). IsPermutation l sorted) c.in_ok-items.ensures.items c.sort_unstable_by_key.ensures.permutation in
    let rises = IsNonDecreasingBy-from_sort_by_key (λ (page : Unkept). page.addr) _ c.sort_unstable_by_key.ensures.sorted (λ a r q k. search rules) in
    let order = ordered (λ (page : Unkept). page.addr) given sorted moved rises one in
    let rid = dedup_same _ (λ (one other : Unkept). one.addr == other.addr) _ (λ x y b f' x' y' k. search rules) _ _ c.dedup_by_key.ensures.filtered in
    subst (λ (l : List Unkept). IsOrderOf (λ page. page.addr) given l) (sym (c.from_vec.ensures ∙ rid)) order
