-- The tree of which some nodes are in memory, over readable pages.
use Rattle.std.specs.Prelude.{◌≡◌, ◌==◌, ℕ, zero, suc, ◌/◌, List, [], ◌∷◌, if◌then◌else◌}
use Rattle.std.specs.List.{AllZip}
use Rattle.node_codec.specs.declared.body.Entry.{Entry}
use Rattle.page_store.specs.declared.wants.Want.{Want}
use Rattle.page_store.specs.Tree.{Parts, Mapped, Subtree, joined, bound_of}
use Rattle.btree_twigs.specs.declared.twigs.Child.{Child, Child-F, out-Child}
use Rattle.btree_twigs.specs.declared.twigs.Child.TheOpen.{Kept, Grown}
use Rattle.btree_twigs.specs.declared.twigs.Twig.{Twig}
use Rattle.btree_twigs.specs.Stubs.{Stub, datum, stubs_below}
use Rattle.btree_twigs.specs.Shape.{IsTwig}

-- what is wanted at a place below the nodes in memory
abbrev pub want_of : ℕ → Stub → Want
want_of order stub = record { addr = stub.addr; level = stub.level; low = stub.low; high = stub.high; least = order / 2; most = order }

-- what is wanted at a place whose node has so many children at least
abbrev pub want_at : ℕ → ℕ → ℕ → ℕ → ℕ → ℕ → Want
want_at order level low high addr least = record { addr = addr; level = level; low = low; high = high; least = least; most = order }

-- how many children a node at a level has at least, below a root at another; a root's own node may have fewer
abbrev pub least_at : ℕ → ℕ → ℕ → ℕ
least_at order top level = if level == top then (if top == 1 then 0 else 2) else order / 2

-- what is wanted at a place of a tree whose root is at this level
abbrev pub want_in : ℕ → ℕ → Stub → Want
want_in order top s = want_at order s.level s.low s.high s.addr (least_at order top s.level)

-- at each of these places there is what is wanted, and it has these parts
abbrev pub HasEach : List (List ℕ) → ℕ → List Stub → List Parts → Type 0
HasEach pages order = AllZip (λ s p. Subtree pages order s.level (want_of order s) s.key p)

-- below these places there are these mapped blocks, in order
pub record Maps (pages : List (List ℕ)) (order : ℕ) (stubs : List Stub) (mapped : List Mapped) : Type 0 where
  pub each : List Parts
  pub has : HasEach pages order stubs each
  pub is : mapped ≡ (joined each).mapped

abbrev pub MapsIn : List (List ℕ) → ℕ → ℕ → ℕ → ℕ → Child-F Child Twig → List Mapped → Type 0
MapsIn pages order least below high (Kept low addr key) mapped = (parts : Parts) × Subtree pages order (suc below) (want_at order (suc below) low high addr least) key parts × (mapped ≡ parts.mapped)
MapsIn pages order least below high (Grown low twig) mapped = Maps pages order (stubs_below below high twig) mapped

-- below a child over children of this level, whose node has so many at least, there are these mapped blocks, in order
abbrev pub MapsFrom : List (List ℕ) → ℕ → ℕ → ℕ → ℕ → Child → List Mapped → Type 0
MapsFrom pages order least below high child mapped = MapsIn pages order least below high (out-Child child) mapped

-- what is wanted of a root at a level: a leaf may be empty, an inner node has two entries at least
abbrev pub top_want : ℕ → ℕ → ℕ → ℕ → Want
top_want order blocks level addr = record { addr = addr; level = level; low = 0; high = blocks; least = (if level == 1 then 0 else 2); most = order }

-- the tree below a root child that is a node in memory: its shape, and the parts of the places below it
pub record IsTopTwig (pages : List (List ℕ)) (order blocks level : ℕ) (twig : Twig) (parts : Parts) : Type 0 where
  pub below : ℕ
  pub level_is : level ≡ suc below
  pub shaped : IsTwig order below (if level == 1 then 0 else 2) order 0 blocks twig
  pub each : List Parts
  pub has : HasEach pages order (stubs_below below blocks twig) each
  pub is : parts ≡ joined each

abbrev pub GroveTreeBy : List (List ℕ) → ℕ → ℕ → ℕ → Child-F Child Twig → Parts → Type 0
GroveTreeBy pages order blocks level (Kept low addr key) parts = Subtree pages order level (top_want order blocks level addr) key parts
GroveTreeBy pages order blocks level (Grown low twig) parts = IsTopTwig pages order blocks level twig parts

-- the tree of a root child: the places of nodes in memory aren't among its parts, since they have no address yet
abbrev pub GroveTree : List (List ℕ) → ℕ → ℕ → ℕ → Child → Parts → Type 0
GroveTree pages order blocks level top = GroveTreeBy pages order blocks level (out-Child top)

-- the places below a node's entries
abbrev pub stubs_at : ℕ → ℕ → List Entry → List Stub
stubs_at level high [] = []
stubs_at zero high (e ∷ es) = datum e.low e.addr e.key ∷ stubs_at zero high es
stubs_at (suc level) high (e ∷ es) = record { level = suc level; low = e.low; high = bound_of es high; addr = e.addr; key = e.key } ∷ stubs_at (suc level) high es
