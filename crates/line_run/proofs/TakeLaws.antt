-- What one take of an input gave.
use Rattle.std.proofs.Common.{◌≡◌, ℕ, ◌+◌, ◌-◌, ◌≤◌, List, [], ◌++◌, None, Some, take, length, sym, ◌∙◌, ap, subst, arith, length-take, length-append}
use Rattle.std.proofs.lemmas.List.{take-append-le}
use Rattle.std.specs.Prelude.{◌↔◌, Option, IfSome}
use Rattle.sdbt_base.specs.Told.{Gave, IsAtEnd}

-- nothing given leaves all
pub none_given : (a b : Option (List ℕ)) (bytes : List ℕ) (count : ℕ) → count ≡ 0 → Gave a (take count bytes) b → a ≡ b
none_given a None bytes count e gave = gave
none_given a (Some rest) bytes count e gave = gave ∙ ap (λ (front : List ℕ). Some (front ++ rest)) (ap (λ (n : ℕ). take n bytes) e)

-- and where something is left, it is given
pub nothing_left : (a : Option (List ℕ)) (count : ℕ) → count ≡ 0 → IfSome a (λ rest. (count ≡ 0) ↔ (rest ≡ [])) → IsAtEnd a
nothing_left None count e end = tt
nothing_left (Some rest) count e end = end.0 e

-- the front of what was taken is within it
front : (into behind : List ℕ) (count : ℕ) → count ≤ length into → take count into ≡ take count (into ++ behind)
front into behind count bound = sym (take-append-le count into behind bound)

-- no more than the limit leaves, and than a piece has
pub record Taken (left count : ℕ) (before after : Option (List ℕ)) (piece : List ℕ) : Type 0 where
  pub gave : Gave before piece after
  pub short : length piece ≤ left
  pub few : length piece ≤ 4096
  pub less : left ≡ length piece + (left - count)

pub taken_of : (into behind : List ℕ) (count left : ℕ) (before after : Option (List ℕ)) → count ≤ length into → length into ≤ left → length into ≤ 4096 → Gave before (take count into) after
    → Taken left count before after (take count (into ++ behind))
taken_of into behind count left before after bound long size gave = record {
  gave = subst (λ (bytes : List ℕ). Gave before bytes after) (front into behind count bound) gave;
  short = omega (arith, length-take count (into ++ behind), length-append into behind, bound, long);
  few = omega (arith, length-take count (into ++ behind), length-append into behind, bound, size);
  less = omega (arith, length-take count (into ++ behind), length-append into behind, bound, long);
}
