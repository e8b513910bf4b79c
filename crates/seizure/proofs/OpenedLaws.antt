-- The order of what was opened.
use Rattle.std.proofs.Common.{◌≡◌, true, List, arith, Bool}
use Rattle.std.proofs.lemmas.Bool.Decides.{nat_tests}
use Rattle.std.specs.Cmp.{IsTotalOrder, IsEquivalence}
use Rattle.std.specs.Ordering.{nat_cmp, ordering_then, eq_by_cmp}
use Rattle.std.specs.declared.cmp.Ordering.{Ordering}
use Rattle.std.specs.declared.cmp.Ordering.TheVariants.{Less}
use Rattle.std.specs.List.{dedup}
use Rattle.std.specs.List.Sorted.{IsPermutation, IsSorted, IsStrictlySortedBy}
use Rattle.std.proofs.lemmas.List.Kept.{Contains-from_dedup, Contains-dedup, IsStrictlySortedBy-dedup}
use Rattle.std.proofs.lemmas.List.Sorted.{Contains-permutation, IsPermutation-sym}
use Rattle.std.proofs.lemmas.Map.Keys.{Less-from_sorted}
use Rattle.seizure.specs.declared.opened.Opened.{Opened}
use Rattle.seizure.specs.Opened.{IsBefore, IsOrderOf}

-- how they are compared
abbrev pub compare : Opened → Opened → Ordering
compare one other = ordering_then (nat_cmp one.addr other.addr) (ordering_then (nat_cmp one.kind other.kind) (nat_cmp one.block other.block))

pub before : (one next : Opened) → compare one next ≡ Less → IsBefore one next
before one next less = grind (arith, nat_tests)

-- sorted, and rid of its repeats
pub ascended : (E : Opened → Opened → Bool) (given sorted : List Opened) → IsTotalOrder compare → IsEquivalence E → ((x y : Opened) → E x y ≡ eq_by_cmp compare x y)
    → ((x y : Opened) → E x y ≡ true → x ≡ y) → IsPermutation given sorted → IsSorted compare sorted → IsOrderOf given (dedup E sorted)
ascended E given sorted total equal ties exact moved rises =
    let strict : IsStrictlySortedBy compare (dedup E sorted) = IsStrictlySortedBy-dedup total ties sorted rises in
    record {
      same = λ item. (
        λ has. Contains-permutation sorted given item (IsPermutation-sym given sorted moved) (Contains-from_dedup E sorted item has),
        λ has. Contains-dedup equal exact sorted item (Contains-permutation given sorted item moved has),
      );
      ascends = λ i j d below inside. before _ _ (Less-from_sorted compare (dedup E sorted) i j d strict below inside);
    }
