-- Words that are spelled.
use Rattle.std.proofs.Common.{◌≡◌, ◌≢◌, ℕ, ◌+◌, ◌<◌, ◌≤◌, List, [], ◌∷◌, ◌++◌, Bor, Option, None, Some, Bool, length, get_or, take, refl, sym, ◌∙◌, subst, ap, arith}
use Rattle.std.specs.Prelude.{IfNone, MatchOption, IsTrue, codes, map}
use Rattle.std.specs.List.{AllZip, Any}
use Rattle.std.proofs.lemmas.List.{get_or-map, length-map, take_all, take_more}
use Rattle.std.proofs.lemmas.List.Elements.{AllZip-push}
use Rattle.root_words.specs.Spelled.{NamesFile, IsSpelled, IsSeizure, IsRefusalOf}
use Rattle.root_words.specs.declared.refusals.NotSpelled.{NotSpelled}

-- a word that is no @ and a rest names no file
names_rest : (word : List ℕ) → ((rest : List ℕ) → word ≢ 64 ∷ rest) → NamesFile word → ⊥
names_rest [] other names = names
names_rest (first ∷ name) other names = other name (ap (λ (n : ℕ). n ∷ name) names)

pub names_none : (word : List ℕ) (rest : Option (Bor (List ℕ))) → MatchOption rest ((rest : List ℕ) → word ≢ 64 ∷ rest) (λ x. word ≡ 64 ∷ x.now)
    → IfNone rest (NamesFile word → ⊥)
names_none word None other = names_rest word other
names_none word (Some rest) is = tt

-- whether the first word is `seize`
pub first_is : {X : Type 0} (f : X → List ℕ) (xs : List X) (x : X) (b : Bool) → 1 ≤ length xs → x ≡ get_or xs 0 x
    → (IsTrue b → f x ≡ codes "seize") → (f x ≡ codes "seize" → IsTrue b) → (IsTrue b → IsSeizure (map f xs)) × (IsSeizure (map f xs) → IsTrue b)
first_is f [] x b some is told known = absurd (omega (arith, some))
first_is f (y ∷ ys) x b some is told known = (λ true. ap f (sym is) ∙ told true, λ word. known (ap f is ∙ word))

-- one more word
pub spelled_more : {X : Type 0} (f : X → List ℕ) (xs ys : List X) (i : ℕ) (x y : X) → AllZip IsSpelled (take i (map f xs)) (map f ys) → i < length xs → x ≡ get_or xs i x
    → IsSpelled (f x) (f y) → AllZip IsSpelled (take (i + 1) (map f xs)) (map f (ys ++ y ∷ []))
spelled_more f xs ys i x y spelled within is one =
    let front : take (i + 1) (map f xs) ≡ take i (map f xs) ++ f x ∷ [] =
    take_more (map f xs) i (f x) (omega (arith, within, length-map xs f)) ∙ ap (λ (w : List ℕ). take i (map f xs) ++ w ∷ []) (get_or-map f xs i x (f x) within ∙ ap f (sym is)) in
    subst (λ (words : List (List ℕ)). AllZip IsSpelled words (map f (ys ++ y ∷ []))) (sym front)
    (subst (λ (words : List (List ℕ)). AllZip IsSpelled (take i (map f xs) ++ f x ∷ []) words) (sym (map_push f ys y))
    (AllZip-push IsSpelled (take i (map f xs)) (map f ys) (f x) (f y) spelled one))
  where
    map_push : {X : Type 0} (f : X → List ℕ) (ys : List X) (y : X) → map f (ys ++ y ∷ []) ≡ map f ys ++ f y ∷ []
    map_push f [] y = refl
    map_push f (z ∷ zs) y = ap (λ (rest : List (List ℕ)). f z ∷ rest) (map_push f zs y)

-- all of them
pub spelled_all : {X : Type 0} (f : X → List ℕ) (xs ys : List X) (i : ℕ) → AllZip IsSpelled (take i (map f xs)) (map f ys) → length xs ≤ i → AllZip IsSpelled (map f xs) (map f ys)
spelled_all f xs ys i spelled end =
    subst (λ (words : List (List ℕ)). AllZip IsSpelled words (map f ys)) (take_all i (map f xs) (omega (arith, end, length-map xs f))) spelled

-- what one of them is refused for
pub refused_at : {X : Type 0} (f : X → List ℕ) (xs : List X) (i : ℕ) (x : X) (refusal : NotSpelled) → i < length xs → x ≡ get_or xs i x
    → IsRefusalOf (f x) refusal → Any (λ word. IsRefusalOf word refusal) (map f xs)
refused_at f xs i x refusal within is one = (i, f x, omega (arith, within, length-map xs f), get_or-map f xs i x (f x) within ∙ ap f (sym is), one)
