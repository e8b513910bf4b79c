-- The root of a tree that is partly in memory.
use Rattle.std.specs.Prelude.{◌≡◌, ℕ, suc, ◌<◌, List}
use Rattle.page_store.specs.Tree.{Mapped}
use Rattle.btree_twigs.specs.declared.twigs.Child.{Child, Child-F, out-Child}
use Rattle.btree_twigs.specs.declared.twigs.Child.TheOpen.{Kept, Grown}
use Rattle.btree_twigs.specs.declared.twigs.Twig.{Twig}
use Rattle.btree_twigs.specs.Stubs.{Stub, stubs}
use Rattle.btree_twigs.specs.Shape.{IsTwig}
use Rattle.btree_twigs.specs.Updates.{IsOpen}
use Rattle.btree_twigs.specs.Top.{IsTop, top_least}
use Rattle.btree_update.specs.GroveTree.{MapsFrom}
use Rattle.btree_update.specs.Held.{HeldFrom, AnyRead}

-- a root begins at 0; in memory it may have as few children as a root
abbrev pub IsRootBy : ℕ → ℕ → ℕ → Child-F Child Twig → Type 0
IsRootBy order below high (Kept low addr key) = low ≡ 0
IsRootBy order below high (Grown low twig) = (low ≡ 0) × IsTwig order below (top_least below) order 0 high twig

-- a root over children of this level, up to a bound
abbrev pub IsRoot : ℕ → ℕ → ℕ → Child → Type 0
IsRoot order below high child = IsRootBy order below high (out-Child child)

-- for each place on the way to the block that isn't in memory, the root's first, its node is held, the topmost last
abbrev pub HeldRoot : (ℕ → Stub → Twig → Type 0) → ℕ → ℕ → ℕ → ℕ → Child → List Twig → Type 0
HeldRoot Reads order block below high child held = HeldFrom Reads order (top_least below) block below high child held

-- below a root there are these mapped blocks, in order
abbrev pub RootMaps : List (List ℕ) → ℕ → ℕ → ℕ → Child → List Mapped → Type 0
RootMaps pages order below high child mapped = MapsFrom pages order (top_least below) below high child mapped

-- a root whose way to the block can be opened
pub record CanOpenRoot (level block : ℕ) (held : List Twig) (top : Child) : Type 0 where
  pub order : ℕ
  pub below : ℕ
  pub level_is : level ≡ suc below
  pub high : ℕ
  pub shaped : IsRoot order below high top
  pub to : block < high
  pub at_hand : HeldRoot AnyRead order block below high top held

-- the root is in memory, and so is the way to the block
pub record IsRootOpened (order below block high : ℕ) (new : Child) : Type 0 where
  pub shaped : IsTop order below high new
  pub is_open : IsOpen block (stubs (suc below) high new)
