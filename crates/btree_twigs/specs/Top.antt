-- The root node in memory.
use Rattle.std.specs.Prelude.{◌≡◌, ℕ, zero, suc, ◌+◌, ◌<◌, ◌≤◌, ◌⊎◌, List, [], ◌∷◌, length, vec_capacity}
use Rattle.std.specs.declared.vec.Vec.{Vec}
use Rattle.std.specs.declared.alloc.Global.{Global}
use Rattle.btree_twigs.specs.declared.twigs.Child.{Child, Child-F, out-Child}
use Rattle.btree_twigs.specs.declared.twigs.Child.TheOpen.{Kept, Grown}
use Rattle.btree_twigs.specs.declared.twigs.Twig.{Twig, out-Twig}
use Rattle.btree_twigs.specs.Stubs.{Stub, Puts, Takes, nodes, level_of, children_of, stubs}
use Rattle.btree_twigs.specs.Shape.{IsTwig}
use Rattle.btree_twigs.specs.Updates.{IsOpen, HasSpares, rooms}
use Rattle.btree_twigs.specs.Removal.{below_in, Helps}

abbrev pub level_in : Child-F Child Twig → ℕ
level_in (Kept low addr key) = 0
level_in (Grown low twig) = level_of twig

-- the level of a child in memory, or 0
abbrev pub child_level : Child → ℕ
child_level child = level_in (out-Child child)

-- how few children a root has: a leaf may have none, an inner node two
abbrev pub top_least : ℕ → ℕ
top_least zero = 0
top_least (suc level) = 2

abbrev pub IsTopBy : ℕ → ℕ → ℕ → Child-F Child Twig → Type 0
IsTopBy order level high (Kept low addr key) = ⊥
IsTopBy order level high (Grown low twig) = (low ≡ 0) × IsTwig order level (top_least level) order 0 high twig

-- a root node in memory, over children of this level
abbrev pub IsTop : ℕ → ℕ → ℕ → Child → Type 0
IsTop order level high child = IsTopBy order level high (out-Child child)

-- a root node into which a block can be put
pub record CanPutTop (order block : ℕ) (spares : List (Vec Child Global)) (top : Child) : Type 0 where
  pub level : ℕ
  pub small : level < 254
  pub high : ℕ
  pub shaped : IsTop order level high top
  pub to : block < high
  pub is_open : IsOpen block (stubs (suc level) high top)
  pub enough : HasSpares order (level + 2) spares

-- the root node has the place more, at its level or one level up
pub record IsTopPut (order level high : ℕ) (stub : Stub) (old new : Child) : Type 0 where
  pub new_level : ℕ
  pub level_is : (new_level ≡ level) ⊎ (new_level ≡ suc level)
  pub shaped : IsTop order new_level high new
  pub puts : Puts 0 high stub (stubs (suc level) high old) (stubs (suc new_level) high new)
  pub few : nodes (suc new_level) new ≤ nodes (suc level) old + (level + 2)

-- a root node and what was cut off it
pub record CanRaise (top part : Child) (spares : List (Vec Child Global)) : Type 0 where
  pub level : ℕ
  pub level_is : child_level top ≡ suc level
  pub small : level < 254
  pub order : ℕ
  pub four : 4 ≤ order
  pub spare : HasSpares order 1 spares

-- a root node over both
pub record IsRaised (order level : ℕ) (top part new : Child) : Type 0 where
  pub twig : Twig
  pub is : out-Child new ≡ Grown 0 twig
  pub level_is : level_of twig ≡ suc (suc level)
  pub room : order < vec_capacity (out-Twig twig).children
  pub children : children_of twig ≡ top ∷ part ∷ []

-- a root node out of which a block can be taken
pub record CanTakeTop (order block : ℕ) (top : Child) : Type 0 where
  pub level : ℕ
  pub high : ℕ
  pub shaped : IsTop order level high top
  pub to : block < high
  pub is_open : IsOpen block (stubs (suc level) high top)
  pub loses : ℕ
  pub helps : Helps order block level (below_in (out-Child top)) loses

-- the root node is without the place, at its level or, where it gave way to its only child, one level down
pub record IsTopTaken (order level high block : ℕ) (old new : Child) : Type 0 where
  pub new_level : ℕ
  pub level_is : (new_level ≡ level) ⊎ (suc new_level ≡ level)
  pub shaped : IsTop order new_level high new
  pub takes : Takes 0 high block (stubs (suc level) high old) (stubs (suc new_level) high new)
  pub few : nodes (suc new_level) new ≤ nodes (suc level) old
  pub no_more_room : rooms (suc new_level) new ≤ rooms (suc level) old

-- a node in memory with one child
abbrev pub HasOnlyBy : Child-F Child Twig → Type 0
HasOnlyBy (Kept low addr key) = ⊥
HasOnlyBy (Grown low twig) = length (children_of twig) ≡ 1

abbrev pub HasOnly : Child → Type 0
HasOnly child = HasOnlyBy (out-Child child)
