-- Places that are apart, and what holds of parts of a list.
use Rattle.std.proofs.Common.{◌≡◌, ◌≢◌, inl, inr, Bool, false, List, [], ◌∷◌, ◌++◌, All, refl, sym, subst, ◌∙◌}
use Rattle.std.specs.Prelude.{AllPairs}
use Rattle.std.specs.List.{AllByRecursion, IsDistinct}
use Rattle.std.specs.List.Sorted.{IsPermutation}
use Rattle.std.proofs.Math.Dec.{eqb}
use Rattle.std.proofs.lemmas.Bool.{eqb-false, ne_eqb}
use Rattle.std.proofs.lemmas.Bool.Decides.{eqb_tells}
use Rattle.std.proofs.lemmas.List.Elements.{All-nil, All-head, All-tail, All-cons, All-from_recursion, recursion_from_All, All-weaker}
use Rattle.std.proofs.lemmas.List.Kept.{AllPairs-cons}
use Rattle.std.proofs.lemmas.Map.Keys.{IsDistinct-IsPermutation}
use Rattle.platform.specs.Logged.{AllPairs-nil, AllPairs-first, AllPairs-rest}
use Rattle.page_store.specs.Tree.{Place}

-- ---- parts of a list

pub all_left : {X : Type 0} (P : X → Type 0) (xs ys : List X) → All P (xs ++ ys) → All P xs
all_left P [] ys h = All-nil P
all_left P (x ∷ xs) ys h = All-cons P x xs (All-head P x (xs ++ ys) h) (all_left P xs ys (All-tail P x (xs ++ ys) h))

pub all_right : {X : Type 0} (P : X → Type 0) (xs ys : List X) → All P (xs ++ ys) → All P ys
all_right P [] ys h = h
all_right P (x ∷ xs) ys h = all_right P xs ys (All-tail P x (xs ++ ys) h)

-- ---- places that are apart

abbrev pub AreApart : Place → Place → Type 0
AreApart p q = p.addr ≢ q.addr

abbrev same_place : Place → Place → Bool
same_place p q = eqb p.addr q.addr

flips : (p q : Place) → same_place p q ≡ same_place q p
flips p q = elim (eqb_tells p.addr q.addr) [
  | inl h ↦ subst (λ n. eqb p.addr n ≡ eqb n p.addr) h.1 refl
  | inr h ↦ h.0 ∙ sym (ne_eqb q.addr p.addr (λ e. h.1 (sym e)))
]

to_distinct : (xs : List Place) → AllPairs AreApart xs → IsDistinct same_place xs
unfolding IsDistinct
to_distinct [] h = tt
to_distinct (x ∷ xs) h = (go xs (recursion_from_All (AreApart x) xs (AllPairs-first AreApart x xs h)), to_distinct xs (AllPairs-rest AreApart x xs h))
  where
    go : (ys : List Place) → AllByRecursion (AreApart x) ys → AllByRecursion (λ y. same_place x y ≡ false) ys
    go [] h = tt
    go (y ∷ ys) h = (ne_eqb x.addr y.addr h.0, go ys h.1)

from_distinct : (xs : List Place) → IsDistinct same_place xs → AllPairs AreApart xs
unfolding IsDistinct
from_distinct [] h = AllPairs-nil AreApart
from_distinct (x ∷ xs) h = AllPairs-cons AreApart x xs (All-from_recursion (AreApart x) xs (go xs h.0)) (from_distinct xs h.1)
  where
    go : (ys : List Place) → AllByRecursion (λ y. same_place x y ≡ false) ys → AllByRecursion (AreApart x) ys
    go [] h = tt
    go (y ∷ ys) h = (eqb-false x.addr y.addr h.0, go ys h.1)

-- places that are apart stay so in another order
pub apart_permutation : (xs ys : List Place) → IsPermutation xs ys → AllPairs AreApart xs → AllPairs AreApart ys
apart_permutation xs ys p h = from_distinct ys (IsDistinct-IsPermutation same_place flips xs ys p (to_distinct xs h))

pub apart_right : (xs ys : List Place) → AllPairs AreApart (xs ++ ys) → AllPairs AreApart ys
apart_right [] ys h = h
apart_right (x ∷ xs) ys h = apart_right xs ys (AllPairs-rest AreApart x (xs ++ ys) h)

-- those of the first list have no address of the second
pub apart_from : (xs ys : List Place) → AllPairs AreApart (xs ++ ys) → All (λ x. All (λ y. y.addr ≢ x.addr) ys) xs
apart_from [] ys h = All-nil (λ (x : Place). All (λ y. y.addr ≢ x.addr) ys)
apart_from (x ∷ xs) ys h =
    All-cons (λ (x : Place). All (λ y. y.addr ≢ x.addr) ys) x xs
    (All-weaker (AreApart x) (λ (y : Place). y.addr ≢ x.addr) (λ y other same. other (sym same)) ys (all_right (AreApart x) xs ys (AllPairs-first AreApart x (xs ++ ys) h)))
    (apart_from xs ys (AllPairs-rest AreApart x (xs ++ ys) h))
