-- The marks of two parts of a run are one list.
use Rattle.std.proofs.Common.{◌≡◌, ℕ, zero, suc, ◌+◌, ◌≤◌, List, [], ◌∷◌, ◌++◌, Option, length, refl, arith}
use Rattle.sdbt_base.specs.Arrays.{Device}
use Rattle.device_course.specs.Marks.{mark_at, last_mark}

pub mark_at-last : (first : Option Device) (marks : List (Option Device)) → mark_at first marks (length marks) ≡ last_mark first marks
mark_at-last first [] = refl
mark_at-last first (next ∷ marks) = mark_at-last next marks

pub last_mark-append : (first : Option Device) (one two : List (Option Device)) → last_mark first (one ++ two) ≡ last_mark (last_mark first one) two
last_mark-append first [] two = refl
last_mark-append first (next ∷ one) two = last_mark-append next one two

mark_at-zero : (first : Option Device) (marks : List (Option Device)) → mark_at first marks 0 ≡ first
mark_at-zero first [] = refl
mark_at-zero first (next ∷ marks) = refl

-- up to the last of the first part
pub mark_at-front : (first : Option Device) (one two : List (Option Device)) (k : ℕ) → k ≤ length one → mark_at first (one ++ two) k ≡ mark_at first one k
mark_at-front first [] two zero within = mark_at-zero first two
mark_at-front first [] two (suc k) within = absurd (omega arith)
mark_at-front first (next ∷ one) two zero within = refl
mark_at-front first (next ∷ one) two (suc k) within = mark_at-front next one two k (omega arith)

mark_at-rest : (first : Option Device) (one two : List (Option Device)) (n k : ℕ) → n ≡ length one + k → mark_at first (one ++ two) n ≡ mark_at (last_mark first one) two k
mark_at-rest first [] two n k is = let same : n ≡ k = omega arith in rw same refl
mark_at-rest first (next ∷ one) two zero k is = absurd (omega arith)
mark_at-rest first (next ∷ one) two (suc n) k is = mark_at-rest next one two n k (omega arith)

-- and from there on
pub mark_at-behind : (first : Option Device) (one two : List (Option Device)) (k : ℕ) → mark_at first (one ++ two) (length one + k) ≡ mark_at (last_mark first one) two k
mark_at-behind first one two k = mark_at-rest first one two (length one + k) k refl
