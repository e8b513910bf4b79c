-- Binary searches, and the first bad place.
use Rattle.std.proofs.Common.{◌≡◌, inl, inr, ◌↔◌, ℕ, ◌<◌, ◌≤◌, Bool, true, false, not, is_ok, Result, Ok, Err, List, length, get_or, refl, sym, ap, subst, ◌∙◌, arith}
use Rattle.std.specs.Prelude.{Contains, MatchResult}
use Rattle.std.specs.Ordering.{nat_cmp}
use Rattle.std.specs.List.Sorted.{IsBinarySearchResult}
use Rattle.std.proofs.lemmas.Bool.{cases_eq, cases_lt, false≢true}
use Rattle.std.proofs.lemmas.List.Elements.{All-from_get_or, All-contains, Contains-get_or}
use Rattle.std.proofs.lemmas.List.Sorted.{searched}
use Rattle.cert_checker.specs.Looks.{Ascends}

rises : (xs : List ℕ) → Ascends xs → (i j : ℕ) → i ≤ j → j < length xs → get_or xs i 0 ≤ get_or xs j 0
rises xs asc i j most inside = elim (cases_eq i j) [
  | inl same ↦ omega (arith, ap (λ (k : ℕ). get_or xs k 0) same)
  | inr other ↦ (let up = asc i j 0 (omega arith) inside in omega arith)
]

among : (xs : List ℕ) (x : ℕ) (r : Result ℕ ℕ) → MatchResult r (λ i. (i < length xs) × (get_or xs i 0 ≡ x)) (λ i. (i ≤ length xs) × ((k : ℕ) → k < i → get_or xs k 0 < x) × ((k : ℕ) → i ≤ k → k < length xs → x < get_or xs k 0)) → (is_ok r ≡ true) ↔ Contains xs x
among xs x (Ok i) found = (λ _. subst (λ (y : ℕ). Contains xs y) found.1 (Contains-get_or xs i 0 found.0), λ _. refl)
among xs x (Err i) found = (
  λ wrong. absurd (false≢true wrong),
  λ inside. absurd (All-contains (λ (y : ℕ). y ≡ x → ⊥) xs x
      (All-from_get_or (λ (y : ℕ). y ≡ x → ⊥) xs 0 (λ k there same. elim (cases_lt k i) [
        | inl low ↦ (let h = found.1 k low in omega arith)
        | inr high ↦ (let h = found.2 k high there in omega arith)
      ])) inside refl),
)

pub searches : (xs : List ℕ) (x : ℕ) (r : Result ℕ ℕ) → Ascends xs → IsBinarySearchResult (λ y. nat_cmp y x) xs r → (is_ok r ≡ true) ↔ Contains xs x
searches xs x r asc found = among xs x r (searched xs x r found (rises xs asc))

-- a test that fails
pub fails : {P : Type 0} (b : Bool) → ((b ≡ true) ↔ P) → b ≡ false → P → ⊥
fails b iff is p = false≢true (sym is ∙ iff.1 p)

-- what `insert` says of a key that was there, and of one that wasn't
pub was_in : (there new : Bool) → new ≡ not there → new ≡ false → there ≡ true
was_in true new is no_news = refl
was_in false new is no_news = absurd (false≢true (sym no_news ∙ is))

pub was_out : (there new : Bool) → new ≡ not there → new ≡ true → there ≡ false
was_out true new is news = absurd (false≢true (sym is ∙ news))
was_out false new is news = refl
