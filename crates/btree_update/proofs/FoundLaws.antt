-- What is found of a block in a tree that is partly in memory.
use Rattle.std.proofs.Common.{◌≡◌, ◌==◌, ℕ, zero, suc, ◌-◌, ◌<◌, ◌≤◌, List, [], ◌∷◌, ◌++◌, refl, subst, inl, inr, ◌∙◌, arith, if◌then◌else◌}
use Rattle.std.specs.List.{AllByRecursion}
use Rattle.std.proofs.lemmas.Bool.{cases_Bool, eqb-true}
use Rattle.platform.specs.declared.platforms.Platform.{Ghosts}
use Rattle.btree_walk.specs.Looks.{Looks}
use Rattle.btree_twigs.specs.declared.twigs.Child.{Child, Child-F, out-Child}
use Rattle.btree_twigs.specs.declared.twigs.Child.TheOpen.{Kept, Grown}
use Rattle.btree_twigs.specs.declared.twigs.Twig.{Twig}
use Rattle.btree_twigs.specs.declared.twigs.Spot.{Spot}
use Rattle.btree_twigs.specs.declared.twigs.Spot.TheVariants.{Found, Absent, Below}
use Rattle.btree_twigs.specs.Stubs.{Stub, low_of, children_of, start_by, stubs, stubs_by, stubs_in, stubs_below, datum_in}
use Rattle.btree_twigs.specs.Search.{IsAt, IsSpot}
use Rattle.btree_twigs.specs.Top.{top_least}
use Rattle.btree_update.specs.GroveTree.{want_at, top_want}
use Rattle.btree_update.specs.Held.{Bound, AreBelow}
use Rattle.btree_update.specs.Finding.{level_from, CanGoOn}
use Rattle.btree_update.proofs.OpenLaws.{below_back}

-- where so many reads are made at most, no more than some more are
pub looks_more : {S : Type 0} (P : Ghosts S) (few most : ℕ) (old new : S) → few ≤ most → Looks P few old new → Looks P most old new
looks_more P few most old new le l = record {
  image = l.image;
  time = l.time;
  head = l.head;
  capacity = l.capacity;
  reads_rise = l.reads_rise;
  reads_most = λ tells. (let r = l.reads_most tells in omega (arith, le, r));
  changes = l.changes;
  pages = l.pages;
  faults = l.faults;
}

-- these places are of this level at most
abbrev pub AreUpTo : ℕ → List Stub → Type 0
AreUpTo most = AllByRecursion (λ s. s.level ≤ most)

up_append : (most : ℕ) (xs ys : List Stub) → AreUpTo most xs → AreUpTo most ys → AreUpTo most (xs ++ ys)
up_append most [] ys h k = k
up_append most (x ∷ xs) ys h k = (h.0, up_append most xs ys h.1 k)

up_back : (most : ℕ) (xs ys : List Stub) → AreUpTo most (xs ++ ys) → AreUpTo most ys
up_back most [] ys h = h
up_back most (x ∷ xs) ys h = up_back most xs ys h.1

up_more : (few most : ℕ) (xs : List Stub) → few ≤ most → AreUpTo few xs → AreUpTo most xs
up_more few most [] le h = tt
up_more few most (x ∷ xs) le h = (omega (arith, le, h.0), up_more few most xs le h.1)

up_each : (most high : ℕ) (below : ℕ → Child → List Stub) (cs : List Child) → ((high : ℕ) (c : Child) → AreUpTo most (below high c)) → AreUpTo most (stubs_by low_of below high cs)
up_each most high below [] one = tt
up_each most high below (c ∷ cs) one = up_append most (below (start_by low_of cs high) c) (stubs_by low_of below high cs) (one (start_by low_of cs high) c) (up_each most high below cs one)

up_datum : (x : Child-F Child Twig) → AreUpTo 0 (datum_in x)
up_datum (Kept low addr key) = (omega arith, tt)
up_datum (Grown low twig) = tt

up_in : (level high : ℕ) (below : ℕ → Child → List Stub) (x : Child-F Child Twig) → ((high : ℕ) (c : Child) → AreUpTo level (below high c)) → AreUpTo (suc level) (stubs_in below (suc level) high x)
up_in level high below (Kept low addr key) one = (omega arith, tt)
up_in level high below (Grown low twig) one = up_more level (suc level) _ (omega arith) (up_each level high below (children_of twig) one)

up_child : (level high : ℕ) (c : Child) → AreUpTo level (stubs level high c)
unfolding stubs
up_child zero high c = up_datum (out-Child c)
up_child (suc level) high c = up_in level high (stubs level) (out-Child c) (up_child level)

pub up_twig : (level high : ℕ) (twig : Twig) → AreUpTo level (stubs_below level high twig)
up_twig level high twig = up_each level high (stubs level) (children_of twig) (up_child level)

-- what holds of all places holds of the one at the block
here_below : (block : ℕ) (most : Bound) (ss : List Stub) (s : Stub) → IsAt block ss (s ∷ []) → AreBelow most ss → s.addr < most.head
here_below block most ss s at h = (below_back most at.front (s ∷ at.back) (subst (AreBelow most) at.all h)).0.0

here_up : (block most : ℕ) (ss : List Stub) (s : Stub) → IsAt block ss (s ∷ []) → AreUpTo most ss → s.level ≤ most
here_up block most ss s at h = (up_back most at.front (s ∷ at.back) (subst (AreUpTo most) at.all h)).0

-- from where a search in memory ended it can go on
pub goes_on : (order block : ℕ) (most : Bound) (ss : List Stub) (spot : Spot) → 4 ≤ order → IsSpot block ss spot → AreBelow most ss → CanGoOn order block most.head spot
goes_on order block most ss (Found addr key) four is below = here_below block most ss _ is below
goes_on order block most ss Absent four is below = tt
goes_on order block most ss (Below level low high addr key) four is below = (four, is.0, is.1, is.2, here_below block most ss _ is.3 below)

pub from_level : (block most : ℕ) (ss : List Stub) (spot : Spot) → IsSpot block ss spot → AreUpTo most ss → level_from spot ≤ most
from_level block most ss (Found addr key) is up = omega arith
from_level block most ss Absent is up = omega arith
from_level block most ss (Below level low high addr key) is up = here_up block most ss _ is.3 up

-- what is wanted of a root
same_want : (order high addr level level' low low' least least' : ℕ) → level ≡ level' → low ≡ low' → least ≡ least' → want_at order level low high addr least ≡ want_at order level' low' high addr least'
same_want order high addr level level' low low' least least' e f g = cc

least_is : (level : ℕ) → top_least level ≡ (if suc level == 1 then 0 else 2)
least_is zero = refl
least_is (suc level) = elim (cases_Bool (suc (suc level) == 1)) [
  | inl one ↦ absurd (let e = eqb-true (suc (suc level)) 1 one in omega (arith, e))
  | inr more ↦ rw more refl
]

pub want_is : (order high level low addr least : ℕ) → 1 ≤ level → low ≡ 0 → least ≡ top_least (level - 1) → want_at order level low high addr least ≡ top_want order high (suc (level - 1)) addr
want_is order high level low addr least one low_is is =
    same_want order high addr level (suc (level - 1)) low 0 least (if suc (level - 1) == 1 then 0 else 2) (omega (arith, one)) low_is (is ∙ least_is (level - 1))

pub root_want : (order level low high addr : ℕ) → low ≡ 0 → want_at order (suc level) low high addr (top_least level) ≡ top_want order high (suc level) addr
root_want order level low high addr low_is = same_want order high addr (suc level) (suc level) low 0 (top_least level) (if suc level == 1 then 0 else 2) refl low_is (least_is level)
