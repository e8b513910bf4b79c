-- One item more of a copy.
use Rattle.std.proofs.Common.{◌≡◌, ℕ, ◌+◌, Some, List, [], ◌∷◌, ◌++◌, map, take, sym, ap, ◌∙◌}
use Rattle.std.specs.Prelude.{slice_get, option_map}
use Rattle.std.proofs.lemmas.List.{map-append, take_more}
use Rattle.std.proofs.lemmas.Option.{slice_get-map, slice_get_within, get_or_from_slice_get}

pub copies_more : {X : Type 0} (xs copy new : List X) (i : ℕ) (x : X) → copy ≡ take i xs → slice_get xs i ≡ Some x → new ≡ copy ++ x ∷ [] → new ≡ take (i + 1) xs
copies_more {X} xs copy new i x before at now =
    now ∙ ap (λ (ys : List X). ys ++ x ∷ []) before
    ∙ ap (λ (y : X). take i xs ++ y ∷ []) (sym (get_or_from_slice_get xs i x x at))
    ∙ sym (take_more xs i x (slice_get_within xs i x at))

-- a list of what another one has
pub copies_map : {X Y : Type 0} (f : X → Y) (xs : List X) (copy new : List Y) (i : ℕ) (x : X) → copy ≡ take i (map f xs) → slice_get xs i ≡ Some x → new ≡ copy ++ f x ∷ [] → new ≡ take (i + 1) (map f xs)
copies_map f xs copy new i x before at now = copies_more (map f xs) copy new i (f x) before (slice_get-map f xs i ∙ ap (option_map f) at) now

-- items that stand for a list
pub stands_more : {X Y : Type 0} (f : Y → X) (xs : List X) (copy new : List Y) (i : ℕ) (y : Y) (x : X) → map f copy ≡ take i xs → slice_get xs i ≡ Some x → f y ≡ x → new ≡ copy ++ y ∷ [] → map f new ≡ take (i + 1) xs
stands_more {X} {Y} f xs copy new i y x before at is now =
    copies_more xs (map f copy) (map f new) i x before at
    (ap (map f) now ∙ map-append f copy (y ∷ []) ∙ ap (λ (z : X). map f copy ++ z ∷ []) is)
