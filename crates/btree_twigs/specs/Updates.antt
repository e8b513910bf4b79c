-- What an update makes of a node in memory.
use Rattle.std.specs.Prelude.{◌≡◌, ℕ, zero, suc, ◌+◌, ◌/◌, List, [], ◌∷◌, ◌++◌, ◌⊎◌, Option, None, Some, ◌≤◌, ◌<◌, length, vec_capacity}
use Rattle.std.specs.List.{AllByRecursion}
use Rattle.std.specs.declared.vec.Vec.{Vec}
use Rattle.std.specs.declared.alloc.Global.{Global}
use Rattle.btree_twigs.specs.declared.twigs.Child.{Child, Child-F, out-Child}
use Rattle.btree_twigs.specs.declared.twigs.Child.TheOpen.{Kept, Grown}
use Rattle.btree_twigs.specs.declared.twigs.Twig.{Twig, out-Twig}
use Rattle.btree_twigs.specs.Stubs.{Stub, Puts, start_by, low_of, children_of, stubs, stubs_by, stubs_below, nodes, sum_by}
use Rattle.btree_twigs.specs.Shape.{EachBy, IsNodeBy, IsChild, IsTwig}

-- so many children of this level, over the bounds
abbrev pub IsNode : ℕ → ℕ → ℕ → ℕ → ℕ → ℕ → List Child → Type 0
IsNode order level = IsNodeBy low_of (IsChild order level) level

-- the places below children of this level
abbrev pub stubs_under : ℕ → ℕ → List Child → List Stub
stubs_under level = stubs_by low_of (stubs level)

-- the children are again those of a node, and have the place more
pub record IsPut (order level least most low high : ℕ) (stub : Stub) (old new : List Child) : Type 0 where
  pub node : IsNode order level least most low high new
  pub puts : Puts low high stub (stubs_under level high old) (stubs_under level high new)

-- the way to the block leads through nodes in memory alone
abbrev pub IsOpen : ℕ → List Stub → Type 0
IsOpen block = AllByRecursion (λ s. s.low ≤ block → block < s.high → s.level ≡ 0)

-- so many lists at least, each empty and with room for one child more than may be
pub record HasSpares (order count : ℕ) (spares : List (Vec Child Global)) : Type 0 where
  pub many : count ≤ length spares
  pub each : AllByRecursion (λ v. (v.items ≡ []) × (order < vec_capacity v)) spares

-- a node is cut in two
pub record IsSplit (order level low high : ℕ) (old new : Twig) (part : Child) : Type 0 where
  pub above : low < low_of part
  pub below : low_of part < high
  pub left : IsTwig order level (order / 2) order low (low_of part) new
  pub right : IsChild order (suc level) high part
  pub same : stubs_below level high old ≡ stubs_below level (low_of part) new ++ stubs (suc level) high part

-- a node over children of some level, over bounds that have the block, into which it can be put: the way leads through nodes in memory, and there are lists enough
pub record CanPut (order block : ℕ) (spares : List (Vec Child Global)) (twig : Twig) : Type 0 where
  pub level : ℕ
  pub least : ℕ
  pub low : ℕ
  pub high : ℕ
  pub shaped : IsTwig order level least order low high twig
  pub from : low ≤ block
  pub to : block < high
  pub is_open : IsOpen block (stubs_below level high twig)
  pub enough : HasSpares order level spares

-- the same of a child that is such a node
pub record CanPutBelow (order block : ℕ) (spares : List (Vec Child Global)) (child : Child) : Type 0 where
  pub level : ℕ
  pub high : ℕ
  pub shaped : IsChild order (suc level) high child
  pub from : low_of child ≤ block
  pub to : block < high
  pub is_open : IsOpen block (stubs (suc level) high child)
  pub enough : HasSpares order (suc level) spares

-- the node has the place more, and perhaps one child more than may be
pub record IsTwigPut (order level least low high : ℕ) (stub : Stub) (old new : Twig) : Type 0 where
  pub shaped : IsTwig order level least (order + 1) low high new
  pub puts : Puts low high stub (stubs_below level high old) (stubs_below level high new)

-- a child of this level has the place more, alone or with what was cut off it
abbrev pub IsChildPut : ℕ → ℕ → ℕ → Stub → Child → Child → Option Child → Type 0
IsChildPut order level high stub old new None =
    (low_of new ≡ low_of old) × IsChild order level high new × Puts (low_of old) high stub (stubs level high old) (stubs level high new)
IsChildPut order level high stub old new (Some part) =
    (low_of new ≡ low_of old) × (low_of old < low_of part) × (low_of part < high) × IsChild order level (low_of part) new × IsChild order level high part
    × Puts (low_of old) high stub (stubs level high old) (stubs level (low_of part) new ++ stubs level high part)

-- of two neighbours one has a child fewer than it must have
abbrev pub OneShort : ℕ → ℕ → ℕ → Type 0
OneShort order left right = ((left + 1 ≡ order / 2) × (order / 2 ≤ right) × (right ≤ order)) ⊎ ((right + 1 ≡ order / 2) × (order / 2 ≤ left) × (left ≤ order))

-- a node in memory, with so many children at least
abbrev pub IsGrownBy : ℕ → ℕ → ℕ → ℕ → Child-F Child Twig → Type 0
IsGrownBy order level least high (Kept low addr key) = ⊥
IsGrownBy order level least high (Grown low twig) = IsTwig order level least order low high twig

abbrev pub IsGrown : ℕ → ℕ → ℕ → ℕ → Child → Type 0
IsGrown order level least high child = IsGrownBy order level least high (out-Child child)

-- how many children a child has that is in memory
abbrev pub width_in : Child-F Child Twig → ℕ
width_in (Kept low addr key) = 0
width_in (Grown low twig) = length (children_of twig)

abbrev pub width_of : Child → ℕ
width_of child = width_in (out-Child child)

-- the room of a node's list
abbrev pub room_of : Twig → ℕ
room_of twig = vec_capacity (out-Twig twig).children

-- it has room for one child more than may be
abbrev pub HasRoom : ℕ → Twig → Type 0
HasRoom order twig = order < room_of twig

-- the room of the list of a child that is in memory
abbrev pub room_in : Child-F Child Twig → ℕ
room_in (Kept low addr key) = 0
room_in (Grown low twig) = room_of twig

abbrev pub child_room : Child → ℕ
child_room child = room_in (out-Child child)

-- the rooms of the nodes in memory that a child is made of, all together
abbrev pub rooms_in : (Child → ℕ) → Child-F Child Twig → ℕ
rooms_in below (Kept low addr key) = 0
rooms_in below (Grown low twig) = room_of twig + sum_by below (children_of twig)

unfoldable pub rooms : ℕ → Child → ℕ
rooms zero child = 0
rooms (suc level) child = rooms_in (rooms level) (out-Child child)

-- those of the nodes below a node, over children of this level
abbrev pub rooms_below : ℕ → Twig → ℕ
rooms_below level twig = sum_by (rooms level) (children_of twig)

-- those of lists
abbrev pub list_rooms : List (Vec Child Global) → ℕ
list_rooms lists = sum_by (λ list. vec_capacity list) lists

-- lists were taken from the end of others, and these have as much room for lists as before
pub record TakesLists (old new : Vec (Vec Child Global) Global) : Type 0 where
  pub taken : List (Vec Child Global)
  pub all : old.items ≡ new.items ++ taken
  pub room : vec_capacity new ≡ vec_capacity old

-- the last one was taken, and a child in memory has its room
pub record TakesRoom (old new : Vec (Vec Child Global) Global) (child : Child) : Type 0 where
  pub last : Vec Child Global
  pub all : old.items ≡ new.items ++ last ∷ []
  pub room : vec_capacity new ≡ vec_capacity old
  pub has : child_room child ≡ vec_capacity last

-- two neighbours in memory, over children of some level, of which one is short
pub record CanMend (order : ℕ) (left right : Child) : Type 0 where
  pub level : ℕ
  pub high : ℕ
  pub on_left : IsGrown order level 0 (low_of right) left
  pub on_right : IsGrown order level 0 high right
  pub short : OneShort order (width_of left) (width_of right)

-- children of this level that stand in the place of two neighbours, up to their bound
pub record IsMended (order level high : ℕ) (left right : Child) (news : List Child) : Type 0 where
  pub begins : start_by low_of news high ≡ low_of left
  pub each : EachBy low_of (IsChild order level) high news
  pub same : stubs_under level high news ≡ stubs level (low_of right) left ++ stubs level high right
  pub none_more : sum_by (nodes level) news ≤ nodes level left + nodes level right
  pub no_more_room : sum_by (rooms level) news ≤ rooms level left + rooms level right
