-- The shape of a tree that is partly in memory.
use Rattle.std.specs.Prelude.{◌≡◌, ℕ, zero, suc, ◌/◌, ◌<◌, ◌≤◌, List, [], ◌∷◌, length, vec_capacity}
use Rattle.btree_twigs.specs.declared.twigs.Child.{Child, Child-F, out-Child}
use Rattle.btree_twigs.specs.declared.twigs.Child.TheOpen.{Kept, Grown}
use Rattle.btree_twigs.specs.declared.twigs.Twig.{Twig, Twig-F, out-Twig}
use Rattle.btree_twigs.specs.Stubs.{start_by, low_of}

-- each child is as it should be, up to where the next one begins, and has room there
abbrev pub EachBy : {C : Type 0} → (C → ℕ) → (ℕ → C → Type 0) → ℕ → List C → Type 0
EachBy low Below high [] = Unit {0}
EachBy low Below high (c ∷ cs) = (low c < start_by low cs high) × Below (start_by low cs high) c × EachBy low Below high cs

-- where the first child of a node may begin: in a leaf anywhere from the lower bound on, else at that bound
abbrev pub Begins : ℕ → ℕ → ℕ → Type 0
Begins zero low start = low ≤ start
Begins (suc level) low start = start ≡ low

-- so many children, over the bounds
pub record IsNodeBy {C : Type 0} (low_of : C → ℕ) (Below : ℕ → C → Type 0) (level least most low high : ℕ) (cs : List C) : Type 0 where
  pub enough : least ≤ length cs
  pub within : length cs ≤ most
  pub begins : Begins level low (start_by low_of cs high)
  pub each : EachBy low_of Below high cs

-- a child of a leaf
abbrev pub IsDatum : {C T : Type 0} → Child-F C T → Type 0
IsDatum (Kept low addr key) = Unit {0}
IsDatum (Grown low twig) = ⊥

-- a node in memory over children of this level, with room for one child more than may be
pub record IsTwigBy (Below : ℕ → Child → Type 0) (order level least most low high : ℕ) (twig : Twig-F Child Twig) : Type 0 where
  pub level_is : twig.level ≡ suc level
  pub room : order < vec_capacity twig.children
  pub node : IsNodeBy low_of Below level least most low high twig.children.items

abbrev pub IsChildBy : (ℕ → Child → Type 0) → ℕ → ℕ → ℕ → Child-F Child Twig → Type 0
IsChildBy Below order level high (Kept low addr key) = Unit {0}
IsChildBy Below order level high (Grown low twig) = IsTwigBy Below order level (order / 2) order low high (out-Twig twig)

-- a child of this level, up to a bound
unfoldable pub IsChild : ℕ → ℕ → ℕ → Child → Type 0
IsChild order zero high child = IsDatum (out-Child child)
IsChild order (suc level) high child = IsChildBy (IsChild order level) order level high (out-Child child)

-- a node over children of this level
abbrev pub IsTwig : ℕ → ℕ → ℕ → ℕ → ℕ → ℕ → Twig → Type 0
IsTwig order level least most low high twig = IsTwigBy (IsChild order level) order level least most low high (out-Twig twig)
