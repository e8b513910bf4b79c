-- Laws of lists: pieces in another order, and what holds of each.
use Rattle.std.proofs.Common.{◌≡◌, List, [], ◌∷◌, ◌++◌, sym, subst, append_assoc}
use Rattle.std.specs.List.{AllByRecursion}
use Rattle.std.specs.List.Sorted.{IsPermutation}
use Rattle.std.proofs.lemmas.List.Sorted.{IsPermutation-refl, IsPermutation-trans, IsPermutation-append_left, IsPermutation-append_right, IsPermutation-append_comm}

-- ---- one order and another

-- the same list, written otherwise
pub same_order : {X : Type 0} (xs ys : List X) → xs ≡ ys → IsPermutation xs ys
same_order xs ys is = subst (IsPermutation xs) is (IsPermutation-refl xs)

-- a first list goes behind a second one
pub past : {X : Type 0} (ns fs rs : List X) → IsPermutation (ns ++ (fs ++ rs)) (fs ++ (ns ++ rs))
past ns fs rs =
    let moved = IsPermutation-append_left rs (ns ++ fs) (fs ++ ns) (IsPermutation-append_comm ns fs) in
    subst (λ xs. IsPermutation xs (fs ++ (ns ++ rs))) (append_assoc ns fs rs) (subst (IsPermutation ((ns ++ fs) ++ rs)) (append_assoc fs ns rs) moved)

-- some of what stands between two lists goes to the front
pub out_of : {X : Type 0} (ns fs new old bs : List X) → IsPermutation (ns ++ new) old → IsPermutation (ns ++ (fs ++ (new ++ bs))) (fs ++ (old ++ bs))
out_of ns fs new old bs moved =
    let inner = subst (λ xs. IsPermutation xs (old ++ bs)) (append_assoc ns new bs) (IsPermutation-append_left bs (ns ++ new) old moved) in
    IsPermutation-trans (ns ++ (fs ++ (new ++ bs))) (fs ++ (ns ++ (new ++ bs))) (fs ++ (old ++ bs)) (past ns fs (new ++ bs)) (IsPermutation-append_right fs (ns ++ (new ++ bs)) (old ++ bs) inner)

-- two go to the front, one after the other
pub out_twice : {X : Type 0} (ns ms new mid old : List X) → IsPermutation (ns ++ mid) old → IsPermutation (ms ++ new) mid → IsPermutation ((ns ++ ms) ++ new) old
out_twice ns ms new mid old one two =
    IsPermutation-trans ((ns ++ ms) ++ new) (ns ++ mid) old
    (subst (λ xs. IsPermutation xs (ns ++ mid)) (sym (append_assoc ns ms new)) (IsPermutation-append_right ns (ms ++ new) mid two)) one

-- ---- what holds of all

pub each_left : {X : Type 0} (P : X → Type 0) (xs ys : List X) → AllByRecursion P (xs ++ ys) → AllByRecursion P xs
each_left P [] ys h = tt
each_left P (x ∷ xs) ys h = (h.0, each_left P xs ys h.1)

pub each_right : {X : Type 0} (P : X → Type 0) (xs ys : List X) → AllByRecursion P (xs ++ ys) → AllByRecursion P ys
each_right P [] ys h = h
each_right P (x ∷ xs) ys h = each_right P xs ys h.1

pub each_append : {X : Type 0} (P : X → Type 0) (xs ys : List X) → AllByRecursion P xs → AllByRecursion P ys → AllByRecursion P (xs ++ ys)
each_append P [] ys h k = k
each_append P (x ∷ xs) ys h k = (h.0, each_append P xs ys h.1 k)

pub each_weaker : {X : Type 0} (P Q : X → Type 0) → ((x : X) → P x → Q x) → (xs : List X) → AllByRecursion P xs → AllByRecursion Q xs
each_weaker P Q f [] h = tt
each_weaker P Q f (x ∷ xs) h = (f x h.0, each_weaker P Q f xs h.1)
