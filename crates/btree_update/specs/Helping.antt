-- How neighbours that are held for a removal come into the tree.
use Rattle.std.specs.Prelude.{◌≡◌, ℕ, suc, ◌+◌, ◌<◌, ◌≤◌, List, [], ◌∷◌, ◌++◌, Option, None, Some, Bool, IsTrue, length, take, drop, vec_capacity}
use Rattle.btree_twigs.specs.declared.twigs.Child.{Child, Child-F, out-Child}
use Rattle.btree_twigs.specs.declared.twigs.Child.TheOpen.{Kept, Grown}
use Rattle.btree_twigs.specs.declared.twigs.Twig.{Twig, out-Twig}
use Rattle.btree_twigs.specs.Stubs.{Stub, low_of, level_of, children_of, stubs, stubs_below, nodes, nodes_below}
use Rattle.btree_twigs.specs.Shape.{IsChild, IsTwig}
use Rattle.btree_twigs.specs.Updates.{IsOpen, width_of}
use Rattle.btree_twigs.specs.Removal.{below_in, Helps}
use Rattle.btree_twigs.specs.Top.{IsTop}
use Rattle.btree_update.specs.Held.{Bound, AreBelow, AnyRead}
use Rattle.btree_update.specs.GroveTree.{want_of}
use Rattle.btree_update.specs.Opens.{Fitting, GivesChild, GivesBelow}
use Rattle.btree_update.specs.Beside.{IsReadWhere, HelpsBelow, HelpsFrom}

-- a node is put in the place of a child on the medium, whose address is gone then
abbrev pub IsPutBy : Child-F Child Twig → Child → Twig → List ℕ → List ℕ → Type 0
IsPutBy (Kept low addr key) new node gone more = (out-Child new ≡ Grown low node) × (more ≡ gone ++ addr ∷ [])
IsPutBy (Grown low twig) new node gone more = (out-Child new ≡ Grown low twig) × (more ≡ gone)

-- the neighbour of the child before a place takes a node
pub record TakesHelp (at : ℕ) (node : Twig) (old new : Twig) (gone more : List ℕ) : Type 0 where
  pub i : ℕ
  pub next : at < length (children_of old) → i ≡ at
  pub last : at ≡ length (children_of old) → i + 2 ≡ at
  pub within : i < length (children_of old)
  pub child : Child
  pub was : children_of old ≡ take i (children_of old) ++ child ∷ drop (suc i) (children_of old)
  pub other : Child
  pub now : children_of new ≡ take i (children_of old) ++ other ∷ drop (suc i) (children_of old)
  pub put : IsPutBy (out-Child child) other node gone more
  pub level_is : level_of new ≡ level_of old
  pub room : vec_capacity (out-Twig new).children ≡ vec_capacity (out-Twig old).children

-- or there is none to take
abbrev pub IsHelpTaken : ℕ → Option Twig → Twig → Twig → List ℕ → List ℕ → Type 0
IsHelpTaken at None old new gone more = (new ≡ old) × (more ≡ gone)
IsHelpTaken at (Some node) old new gone more = TakesHelp at node old new gone more

-- a place for which a neighbour's node is held, which is there
abbrev pub MayHelp : List (List ℕ) → ℕ → (Stub → Bool) → Stub → Type 0
MayHelp pages order may = Fitting pages (want_of order) (λ s. IsTrue (may s))

-- a node whose way to a block is in memory, with what a removal may need beside it
pub record CanHelp (level block : ℕ) (beside : List (Option Twig)) (twig : Twig) : Type 0 where
  pub order : ℕ
  pub least : ℕ
  pub low : ℕ
  pub high : ℕ
  pub four : 4 ≤ order
  pub two : 1 ≤ level → 2 ≤ least
  pub shaped : IsTwig order level least order low high twig
  pub from : low ≤ block
  pub to : block < high
  pub is_open : IsOpen block (stubs_below level high twig)
  pub held : List Twig
  pub loses : ℕ
  pub helps : HelpsBelow AnyRead order block level high twig held beside loses

-- the same of a child that is such a node
pub record CanHelpWay (level block : ℕ) (beside : List (Option Twig)) (child : Child) : Type 0 where
  pub order : ℕ
  pub below : ℕ
  pub level_is : level ≡ suc below
  pub high : ℕ
  pub four : 4 ≤ order
  pub shaped : IsChild order (suc below) high child
  pub from : low_of child ≤ block
  pub to : block < high
  pub is_open : IsOpen block (stubs (suc below) high child)
  pub held : List Twig
  pub loses : ℕ
  pub helps : HelpsFrom AnyRead order block below high child held beside loses

-- each neighbour that is to help out below the node is in memory, and the node is shaped as before
pub record HelpedOut (order level least low high block loses : ℕ) (old new : Twig) (beside : List (Option Twig)) (gone more : List ℕ) : Type 0 where
  pub shaped : IsTwig order level least order low high new
  pub is_open : IsOpen block (stubs_below level high new)
  pub helps : Helps order block level (children_of new) loses
  pub wide : length (children_of new) ≡ length (children_of old)
  pub below : (most : Bound) → AreBelow most (stubs_below level high old) → AreBelow most (stubs_below level high new)
  pub few : nodes_below level new ≤ nodes_below level old + level
  pub gives : (pages : List (List ℕ)) (may : Stub → Bool) (held : List Twig) (loses : ℕ) → HelpsBelow (IsReadWhere pages may order) order block level high old held beside loses →
      GivesBelow pages order (MayHelp pages order may) level high old new gone more

-- the same of a child that is such a node
pub record HelpedWay (order below high block loses : ℕ) (old new : Child) (beside : List (Option Twig)) (gone more : List ℕ) : Type 0 where
  pub low_is : low_of new ≡ low_of old
  pub shaped : IsChild order (suc below) high new
  pub is_open : IsOpen block (stubs (suc below) high new)
  pub helps : Helps order block below (below_in (out-Child new)) loses
  pub wide : width_of new ≡ width_of old
  pub below_it : (most : Bound) → AreBelow most (stubs (suc below) high old) → AreBelow most (stubs (suc below) high new)
  pub few : nodes (suc below) new ≤ nodes (suc below) old + below
  pub gives : (pages : List (List ℕ)) (may : Stub → Bool) (held : List Twig) (loses : ℕ) → HelpsFrom (IsReadWhere pages may order) order block below high old held beside loses →
      GivesChild pages order (MayHelp pages order may) (suc below) high old new gone more

-- a root in memory whose way to a block is in memory, with what a removal may need beside it
pub record CanHelpRoot (level block : ℕ) (beside : List (Option Twig)) (top : Child) : Type 0 where
  pub order : ℕ
  pub below : ℕ
  pub level_is : level ≡ suc below
  pub high : ℕ
  pub four : 4 ≤ order
  pub shaped : IsTop order below high top
  pub to : block < high
  pub is_open : IsOpen block (stubs (suc below) high top)
  pub held : List Twig
  pub loses : ℕ
  pub helps : HelpsFrom AnyRead order block below high top held beside loses

-- each neighbour that is to help out below the root is in memory
pub record HelpedRoot (order below high block loses : ℕ) (old new : Child) (beside : List (Option Twig)) (gone more : List ℕ) : Type 0 where
  pub shaped : IsTop order below high new
  pub is_open : IsOpen block (stubs (suc below) high new)
  pub helps : Helps order block below (below_in (out-Child new)) loses
  pub below_it : (most : Bound) → AreBelow most (stubs (suc below) high old) → AreBelow most (stubs (suc below) high new)
  pub few : nodes (suc below) new ≤ nodes (suc below) old + below
  pub gives : (pages : List (List ℕ)) (may : Stub → Bool) (held : List Twig) (loses : ℕ) → HelpsFrom (IsReadWhere pages may order) order block below high old held beside loses →
      GivesChild pages order (MayHelp pages order may) (suc below) high old new gone more
