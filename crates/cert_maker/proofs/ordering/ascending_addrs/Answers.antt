use Rattle.std.proofs.Common.{◌≡◌, ◌==◌, ℕ, List, sym, subst, ◌∙◌}
use Rattle.std.specs.List.{dedup}
use Rattle.std.specs.List.Sorted.{IsPermutation}
use Rattle.std.proofs.lemmas.List.Filters.{dedup_is}
use Rattle.std.proofs.lemmas.List.Sorted.{IsNonDecreasingBy-from_sort}
use Rattle.cert_maker.specs.Ordered.{IsOrderOf}
use Rattle.cert_maker.proofs.OrderLaws.{ordered}
use Rattle.cert_maker.proofs.ordering.ascending_addrs.Goals as goal

pub returns : goal.returns
returns c =
    let given = c.args.addrs.now in
    let sorted = c.sort_unstable.new.self.items in
    let moved : IsPermutation given sorted = subst (λ (l : List ℕ). IsPermutation l sorted) c.in_ok-items.ensures.items c.sort_unstable.ensures.permutation in
    let order = ordered (λ (addr : ℕ). addr) given sorted moved (IsNonDecreasingBy-from_sort (λ (addr : ℕ). addr) sorted c.sort_unstable.ensures.sorted) (λ one other has there same. same) in
    let rid : c.dedup.new.self.items ≡ dedup (λ one other. one == other) sorted = dedup_is _ _ _ c.dedup.ensures.filtered in
    subst (λ (l : List ℕ). IsOrderOf (λ addr. addr) given l) (sym (c.from_vec.ensures ∙ rid)) order
