-- What holds of each item that was written holds of the whole list.
use Rattle.std.proofs.Common.{◌≡◌, ℕ, ◌+◌, ◌≤◌, List, take, length, Result, Ok, Err, OnOk, sym, subst, take_all}
use Rattle.std.specs.Prelude.{All, Some, slice_get}
use Rattle.std.specs.List.{AllByRecursion}
use Rattle.std.proofs.lemmas.Option.{get_or_from_slice_get, slice_get_within}
use Rattle.std.proofs.lemmas.List.Elements.{All-more, recursion_from_All}

pub holds_more : {X : Type 0} (P : X → Type 0) (xs : List X) (i : ℕ) (x : X) → slice_get xs i ≡ Some x → All P (take i xs) → P x → All P (take (i + 1) xs)
holds_more P xs i x is so_far holds = All-more P xs i x (slice_get_within xs i x is) so_far (subst P (sym (get_or_from_slice_get xs i x x is)) holds)

pub holds_of_all : {X : Type 0} (P : X → Type 0) (xs : List X) (n : ℕ) → length xs ≤ n → All P (take n xs) → AllByRecursion P xs
holds_of_all P xs n past holds = recursion_from_All P xs (subst (All P) (take_all n xs past) holds)

pub on_ok : {T E P : Type 0} (r : Result T E) → P → OnOk r P
on_ok (Ok value) holds = holds
on_ok (Err error) holds = tt
