-- Laws on what is told: nothing given or got, and one call after another. Crates above cite them.
use Rattle.std.proofs.Common.{◌≡◌, ℕ, ◌+◌, ◌<◌, ◌≤◌, Option, None, Some, List, [], ◌++◌, length, take, drop, refl, sym, ◌∙◌, ap, subst, arith}
use Rattle.std.specs.Prelude.{Result, Ok, Err}
use Rattle.std.proofs.Math.Seq.{take-append-add, take-add}
use Rattle.std.proofs.lemmas.List.{take-append-drop}
use Rattle.std.proofs.lemmas.Grind.{common_steps}
use Rattle.std.specs.Io.KnownBytes.{Appends, Keeps}
use Rattle.sdbt_base.specs.Faults.{next_count}
use Rattle.sdbt_base.specs.Told.{Gave, Got, GotPart, ends_with, ends_after}

pub Gave-nothing : (left : Option (List ℕ)) → Gave left [] left
Gave-nothing None = refl
Gave-nothing (Some rest) = refl

pub Gave-then : (a : Option (List ℕ)) (x : List ℕ) (b : Option (List ℕ)) (y : List ℕ) (c : Option (List ℕ)) → Gave a x b → Gave b y c → Gave a (x ++ y) c
Gave-then a x b y None p q = cc
Gave-then a x b y (Some rest) p q = grind (arith, common_steps)

pub Got-nothing : (written : Option (List ℕ)) → Got written [] written
Got-nothing None = refl
Got-nothing (Some bytes) = grind (arith, common_steps)

pub Got-then : (a : Option (List ℕ)) (x : List ℕ) (b : Option (List ℕ)) (y : List ℕ) (c : Option (List ℕ)) → Got a x b → Got b y c → Got a (x ++ y) c
Got-then None x b y c p q = cc
Got-then (Some bytes) x b y c p q = grind (arith, common_steps)

pub GotPart-then : (a : Option (List ℕ)) (x : List ℕ) (b : Option (List ℕ)) (y : List ℕ) (c : Option (List ℕ)) → Got a x b → GotPart b y c → GotPart a (x ++ y) c
GotPart-then a x b y c p (n, q) =
    (length x + n, subst (λ (bytes : List ℕ). Got a bytes c) (sym (take-append-add x y n)) (Got-then a x b (take n y) c p q))

-- known bytes that grow by a front of a list, and then by what comes next in it
pub Appends-next : (a b c : Option (List ℕ)) (bytes : List ℕ) (n m : ℕ) → Appends a b (take n bytes) → Appends b c (take m (drop n bytes)) → Appends a c (take (n + m) bytes)
Appends-next None b c bytes n m p q = tt
Appends-next (Some xs) None c bytes n m p q = absurd p
Appends-next (Some xs) (Some ys) None bytes n m p q = absurd q
Appends-next (Some xs) (Some ys) (Some zs) bytes n m p q = grind (arith, common_steps, take-add)

-- the end of a list: its front, and the end behind that
pub drop-in_two : (at n : ℕ) (bytes : List ℕ) → drop at bytes ≡ take n (drop at bytes) ++ drop (at + n) bytes
drop-in_two at n bytes = sym (take-append-drop n (drop at bytes)) ∙ ap (λ (rest : List ℕ). take n (drop at bytes) ++ rest) (grind (arith, common_steps))

pub ruleset ends = (drop-in_two)

-- known bytes that grew, and then stayed
pub Appends-kept : (a b c : Option (List ℕ)) (x : List ℕ) → Appends a b x → Keeps b c → Appends a c x
Appends-kept None b c x p q = tt
Appends-kept (Some xs) None c x p q = absurd p
Appends-kept (Some xs) (Some ys) None x p q = absurd q
Appends-kept (Some xs) (Some ys) (Some zs) x p q = cc

-- a take that gave something is no end
pub ends_gave : (count before : ℕ) → 0 < count → ends_with count before ≡ before
ends_gave count before some = grind (arith, common_steps, some)

-- one that gave nothing is one
pub ends_none : (count before : ℕ) → count ≡ 0 → ends_with count before ≡ next_count before
ends_none count before none = grind (arith, common_steps, none)

-- a take counts one end at most
pub ends_once : {E : Type 0} (result : Result ℕ E) (before : ℕ) → ends_after result before ≤ before + 1
ends_once (Ok count) before = grind (arith, common_steps)
ends_once (Err fault) before = omega (arith)
