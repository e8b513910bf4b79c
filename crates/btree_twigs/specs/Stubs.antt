-- The places on the medium below the nodes in memory, from left to right.
use Rattle.std.specs.Prelude.{◌≡◌, ℕ, zero, suc, ◌+◌, ◌<◌, ◌≤◌, List, [], ◌∷◌, ◌++◌, Option, None, Some}
use Rattle.btree_twigs.specs.declared.twigs.Child.{Child, Child-F, out-Child}
use Rattle.btree_twigs.specs.declared.twigs.Child.TheOpen.{Kept, Grown}
use Rattle.btree_twigs.specs.declared.twigs.Twig.{Twig, out-Twig}

-- a place on the medium: a data record at level 0, else the node at the top of a subtree; it has the blocks from low to below high
pub record Stub : Type 0 where
  pub level : ℕ
  pub low : ℕ
  pub high : ℕ
  pub addr : ℕ
  pub key : List ℕ

-- a data record
abbrev pub datum : ℕ → ℕ → List ℕ → Stub
datum block addr key = record { level = 0; low = block; high = suc block; addr = addr; key = key }

-- they ascend, within these bounds
abbrev pub Tiles : ℕ → ℕ → List Stub → Type 0
Tiles low high [] = low ≤ high
Tiles low high (s ∷ ss) = (low ≤ s.low) × (s.low < s.high) × Tiles s.high high ss

-- where a list of children begins, up to a bound
abbrev pub start_by : {C : Type 0} → (C → ℕ) → List C → ℕ → ℕ
start_by low [] high = high
start_by low (c ∷ cs) high = low c

-- what each of them has, in order
abbrev pub stubs_by : {C : Type 0} → (C → ℕ) → (ℕ → C → List Stub) → ℕ → List C → List Stub
stubs_by low below high [] = []
stubs_by low below high (c ∷ cs) = below (start_by low cs high) c ++ stubs_by low below high cs

-- the lower bound of a child
abbrev pub low_in : {C T : Type 0} → Child-F C T → ℕ
low_in (Kept low addr key) = low
low_in (Grown low twig) = low

abbrev pub low_of : Child → ℕ
low_of child = low_in (out-Child child)

-- the address of a child on the medium
abbrev pub addr_in : {C T : Type 0} → Child-F C T → Option ℕ
addr_in (Kept low addr key) = Some addr
addr_in (Grown low twig) = None

abbrev pub addr_of : Child → Option ℕ
addr_of child = addr_in (out-Child child)

-- the children of a node
abbrev pub children_of : Twig → List Child
children_of twig = (out-Twig twig).children.items

-- the level of a node
abbrev pub level_of : Twig → ℕ
level_of twig = (out-Twig twig).level

-- the data record that a child of a leaf is
abbrev pub datum_in : {C T : Type 0} → Child-F C T → List Stub
datum_in (Kept low addr key) = datum low addr key ∷ []
datum_in (Grown low twig) = []

-- below a child of a level that is not 0
abbrev pub stubs_in : (ℕ → Child → List Stub) → ℕ → ℕ → Child-F Child Twig → List Stub
stubs_in below level high (Kept low addr key) = record { level = level; low = low; high = high; addr = addr; key = key } ∷ []
stubs_in below level high (Grown low twig) = stubs_by low_of below high (children_of twig)

-- the places below a child of this level, whose upper bound this is
unfoldable pub stubs : ℕ → ℕ → Child → List Stub
stubs zero high child = datum_in (out-Child child)
stubs (suc level) high child = stubs_in (stubs level) (suc level) high (out-Child child)

-- the places below a node over children of this level
abbrev pub stubs_below : ℕ → ℕ → Twig → List Stub
stubs_below level high twig = stubs_by low_of (stubs level) high (children_of twig)

-- new is old with this place for its block, in the place of the one that was there, if any
pub record Puts (low high : ℕ) (stub : Stub) (old new : List Stub) : Type 0 where
  pub front : List Stub
  pub mid : List Stub
  pub back : List Stub
  pub was : old ≡ front ++ (mid ++ back)
  pub now : new ≡ front ++ (stub ∷ back)
  pub before : Tiles low stub.low front
  pub here : Tiles stub.low (suc stub.low) mid
  pub after : Tiles (suc stub.low) high back

-- new is old without the place for the block, if there was one
pub record Takes (low high block : ℕ) (old new : List Stub) : Type 0 where
  pub front : List Stub
  pub mid : List Stub
  pub back : List Stub
  pub was : old ≡ front ++ (mid ++ back)
  pub now : new ≡ front ++ back
  pub before : Tiles low block front
  pub here : Tiles block (suc block) mid
  pub after : Tiles (suc block) high back

-- how many nodes in memory a child is made of
abbrev pub sum_by : {C : Type 0} → (C → ℕ) → List C → ℕ
sum_by f [] = 0
sum_by f (c ∷ cs) = f c + sum_by f cs

abbrev pub nodes_in : (Child → ℕ) → Child-F Child Twig → ℕ
nodes_in below (Kept low addr key) = 0
nodes_in below (Grown low twig) = suc (sum_by below (children_of twig))

unfoldable pub nodes : ℕ → Child → ℕ
nodes zero child = 0
nodes (suc level) child = nodes_in (nodes level) (out-Child child)

-- how many are below a node, over children of this level
abbrev pub nodes_below : ℕ → Twig → ℕ
nodes_below level twig = sum_by (nodes level) (children_of twig)
