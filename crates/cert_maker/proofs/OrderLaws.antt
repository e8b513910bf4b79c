-- A list that was sorted by a number and rid of its repeats.
use Rattle.std.proofs.Common.{◌≡◌, ◌==◌, ◌<◌, ◌≤◌, ◌+◌, true, false, ℕ, List, [], ◌∷◌, ◌++◌, map, take, length, get_or, refl, sym, ap, ap₂, subst, ◌∙◌, arith, cond, Bool}
use Rattle.std.specs.Prelude.{Contains, Some, slice_get}
use Rattle.std.specs.Cmp.{IsTotalOrder, IsEquivalence, nat_cmp_total, nat_eq_equiv}
use Rattle.std.specs.Ordering.{nat_cmp, is_lt, is_eq}
use Rattle.std.specs.declared.cmp.Ordering.TheVariants.{Less}
use Rattle.std.specs.List.{dedup, dedup_from}
use Rattle.std.specs.List.Sorted.{IsPermutation, IsNonDecreasingBy, IsSorted, IsStrictlySortedBy}
use Rattle.std.proofs.lemmas.Bool.{eqb-true}
use Rattle.std.proofs.lemmas.List.{get_or-map, length-map, take_more}
use Rattle.std.proofs.lemmas.Option.{get_or_from_slice_get, slice_get_within}
use Rattle.std.proofs.lemmas.List.Kept.{Contains-from_dedup, Any-dedup, IsStrictlySortedBy-dedup}
use Rattle.std.proofs.lemmas.List.Sorted.{Contains-permutation, IsPermutation-sym}
use Rattle.std.proofs.lemmas.Map.Keys.{Less-from_sorted}
use Rattle.cert_maker.specs.Ordered.{AreOneEach, IsOrderOf}

-- a list that grows by the items of another, in turn
pub one_more : {X : Type 0} (xs old new : List X) (i : ℕ) (x : X) → new ≡ old ++ x ∷ [] → old ≡ take i xs → slice_get xs i ≡ Some x → new ≡ take (i + 1) xs
one_more xs old new i x gained so_far is =
    gained ∙ ap₂ (λ l y. l ++ y ∷ []) so_far (sym (get_or_from_slice_get xs i x x is)) ∙ sym (take_more xs i x (slice_get_within xs i x is))

by_number : {X : Type 0} (number : X → ℕ) → IsTotalOrder (λ (x y : X). nat_cmp (number x) (number y))
by_number number = record {
  antisymm = λ x y. nat_cmp_total.antisymm (number x) (number y);
  trans = λ x y z. nat_cmp_total.trans (number x) (number y) (number z);
  congr = λ x y z. nat_cmp_total.congr (number x) (number y) (number z);
}

same_number : {X : Type 0} (number : X → ℕ) → IsEquivalence (λ (x y : X). number x == number y)
same_number number = record {
  refl = λ x. nat_eq_equiv.refl (number x);
  symm = λ x y. nat_eq_equiv.symm (number x) (number y);
  congr = λ x y z. nat_eq_equiv.congr (number x) (number y) (number z);
}

not_less : (a b : ℕ) → a ≤ b → is_lt (nat_cmp b a) ≡ false
not_less a b le = grind arith

less : (a b : ℕ) → nat_cmp a b ≡ Less → a < b
less a b is = grind arith

ties : (a b : ℕ) → (a == b) ≡ is_eq (nat_cmp a b)
ties a b = grind arith

pub ordered : {X : Type 0} (number : X → ℕ) (given sorted : List X) → IsPermutation given sorted → IsNonDecreasingBy number sorted → AreOneEach number given
    → IsOrderOf number given (dedup (λ x y. number x == number y) sorted)
ordered {X} number given sorted moved rises one =
    let E : X → X → Bool = λ x y. number x == number y in
    let ks = dedup E sorted in
    let in_order : IsSorted (λ (x y : X). nat_cmp (number x) (number y)) sorted = λ k d low below. not_less _ _ (rises k (k + 1) d (omega arith) below) in
    let strict : IsStrictlySortedBy (λ (x y : X). nat_cmp (number x) (number y)) ks = IsStrictlySortedBy-dedup (by_number number) (λ x y. ties (number x) (number y)) sorted in_order in
    let from : (x : X) → Contains ks x → Contains given x = λ x has. Contains-permutation sorted given x (IsPermutation-sym given sorted moved) (Contains-from_dedup E sorted x has) in
    record {
      same = λ x. (
        from x,
        λ has.
            let any = Any-dedup (same_number number) sorted x (Contains-permutation given sorted x moved has) in
            let there : Contains ks any.1 = (any.0, any.2, any.3) in
            subst (λ (y : X). Contains ks y) (sym (one x any.1 has (from any.1 there) (eqb-true (number x) (number any.1) any.4))) there,
      );
      ascends = λ i j d below inside. less _ _ (Less-from_sorted (λ (x y : X). nat_cmp (number x) (number y)) ks i j d strict below inside);
    }

-- ---- under a function

module _ {X Y : Type 0} (f : X → Y) where
  dedup_from-map : (E : Y → Y → Bool) (x : X) (xs : List X) → map f (dedup_from (λ a b. E (f a) (f b)) x xs) ≡ dedup_from E (f x) (map f xs)
  dedup_from-map E x [] = refl
  dedup_from-map E x (y ∷ ys) =
      elim (E (f y) (f x)) as (λ b. map f (cond b (dedup_from (λ a b. E (f a) (f b)) x ys) (x ∷ dedup_from (λ a b. E (f a) (f b)) y ys)) ≡ cond b (dedup_from E (f x) (map f ys)) (f x ∷ dedup_from E (f y) (map f ys))) [
        | true ↦ dedup_from-map E x ys
        | false ↦ ap (λ zs. f x ∷ zs) (dedup_from-map E y ys)
      ]

  pub dedup-map : (E : Y → Y → Bool) (xs : List X) → map f (dedup (λ a b. E (f a) (f b)) xs) ≡ dedup E (map f xs)
  dedup-map E [] = refl
  dedup-map E (x ∷ xs) = dedup_from-map E x xs

  pub rises-map : (number : Y → ℕ) (xs : List X) → IsNonDecreasingBy (λ x. number (f x)) xs → IsNonDecreasingBy number (map f xs)
  rises-map number [] rises i j d le below = absurd (omega arith)
  rises-map number (x ∷ xs) rises i j d le below =
      let long : length (map f (x ∷ xs)) ≡ length (x ∷ xs) = length-map (x ∷ xs) f in
      let at : (k : ℕ) → k ≤ j → get_or (map f (x ∷ xs)) k d ≡ f (get_or (x ∷ xs) k x) = λ k most. get_or-map f (x ∷ xs) k x d (omega (arith, long)) in
      let h : number (f (get_or (x ∷ xs) i x)) ≤ number (f (get_or (x ∷ xs) j x)) = rises i j x le (omega (arith, long)) in
      rw (at i le, at j (omega arith)) h
