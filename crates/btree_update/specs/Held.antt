-- Nodes that were read for an update and are held beside the tree, and what the update makes of the way when it takes them.
use Rattle.std.specs.Prelude.{◌≡◌, ℕ, zero, suc, ◌/◌, ◌^◌, ◌<◌, ◌≤◌, List, [], ◌∷◌, ◌++◌, length}
use Rattle.std.specs.List.{AllByRecursion}
use Rattle.node_codec.specs.declared.body.Entry.{Entry}
use Rattle.node_codec.specs.Record.{NodeRecord}
use Rattle.page_store.specs.Places.{IsRecordAt}
use Rattle.btree_twigs.specs.declared.twigs.Child.{Child, Child-F, out-Child}
use Rattle.btree_twigs.specs.declared.twigs.Child.TheOpen.{Kept, Grown}
use Rattle.btree_twigs.specs.declared.twigs.Twig.{Twig}
use Rattle.btree_twigs.specs.Stubs.{Stub, start_by, low_of, children_of, stubs, stubs_below, nodes_below}
use Rattle.btree_twigs.specs.Shape.{IsChild, IsTwig}
use Rattle.btree_twigs.specs.Updates.{IsOpen}
use Rattle.btree_update.specs.Reading.{all_kept}

-- a place at a level, and a node over children of the level below
abbrev pub stub_at : ℕ → ℕ → ℕ → ℕ → List ℕ → Stub
stub_at level low high addr key = record { level = level; low = low; high = high; addr = addr; key = key }

-- what may be said of the places of a tree: their addresses are below this one, and their keys have so many bytes
pub record Bound : Type 0 where
  pub head : ℕ
  pub size : ℕ

abbrev pub bound : ℕ → ℕ → Bound
bound head size = record { head = head; size = size }

abbrev pub AreBelow : Bound → List Stub → Type 0
AreBelow most = AllByRecursion (λ s. (s.addr < most.head) × (length s.key ≡ most.size))

-- the node in memory has the entries of the page at its place as children
pub record IsReadAs (pages : List (List ℕ)) (order below : ℕ) (stub : Stub) (twig : Twig) : Type 0 where
  pub small : stub.addr < 2 ^ 64
  pub entries : List Entry
  pub here : IsRecordAt pages stub.addr stub.key (NodeRecord (suc below) entries)
  pub children : children_of twig ≡ all_kept entries

-- below the child on the way to the block
abbrev pub OnWay : ℕ → (ℕ → Child → Type 0) → ℕ → Twig → Type 0
OnWay block Rest high twig = (front back : List Child) (c : Child) → children_of twig ≡ front ++ c ∷ back → low_of c ≤ block → block < start_by low_of back high →
    Rest (start_by low_of back high) c

-- in memory a child over children of this level has so many of them at least
abbrev pub HasLeast : ℕ → ℕ → ℕ → ℕ → Child-F Child Twig → Type 0
HasLeast order least below high (Kept low addr key) = Unit {0}
HasLeast order least below high (Grown low twig) = IsTwig order below least order low high twig

-- a place, whose node has so many children at least, takes the node that is held last
pub record TakesHeld (Reads : ℕ → Stub → Twig → Type 0) (order least block : ℕ) (Rest : ℕ → Child → List Twig → Type 0) (below low high addr : ℕ) (key : List ℕ) (held : List Twig) : Type 0 where
  pub rest : List Twig
  pub twig : Twig
  pub is : held ≡ rest ++ twig ∷ []
  pub reads : Reads below (stub_at (suc below) low high addr key) twig
  pub shaped : IsTwig order below least order low high twig
  pub bare : nodes_below below twig ≡ 0
  pub lower : AreBelow (bound addr (length key)) (stubs_below below high twig)
  pub on_way : OnWay block (λ high c. Rest high c rest) high twig

abbrev pub HeldIn : (ℕ → Stub → Twig → Type 0) → ℕ → ℕ → ℕ → (ℕ → Child → List Twig → Type 0) → ℕ → ℕ → Child-F Child Twig → List Twig → Type 0
HeldIn Reads order least block Rest below high (Kept low addr key) held = TakesHeld Reads order least block Rest below low high addr key held
HeldIn Reads order least block Rest below high (Grown low twig) held = OnWay block (λ high c. Rest high c held) high twig

-- for each place on the way to the block that isn't in memory its node is held, the topmost last
unfoldable pub HeldFor : (ℕ → Stub → Twig → Type 0) → ℕ → ℕ → ℕ → ℕ → Child → List Twig → Type 0
HeldFor Reads order block zero high child held = Unit {0}
HeldFor Reads order block (suc level) high child held = HeldIn Reads order (order / 2) block (HeldFor Reads order block level) level high (out-Child child) held

-- the same of a child over children of this level whose node has so many at least
abbrev pub HeldFrom : (ℕ → Stub → Twig → Type 0) → ℕ → ℕ → ℕ → ℕ → ℕ → Child → List Twig → Type 0
HeldFrom Reads order least block below high child held = HeldIn Reads order least block (HeldFor Reads order block below) below high (out-Child child) held

-- whatever the pages say
abbrev pub AnyRead : ℕ → Stub → Twig → Type 0
AnyRead below stub twig = Unit {0}

-- a child on the way, whose way can be opened
pub record CanOpen (level block : ℕ) (held : List Twig) (child : Child) : Type 0 where
  pub order : ℕ
  pub high : ℕ
  pub shaped : IsChild order level high child
  pub from : low_of child ≤ block
  pub to : block < high
  pub at_hand : HeldFor AnyRead order block level high child held

-- the way is open, and the child is shaped as before
pub record IsOpened (order level block high : ℕ) (old new : Child) : Type 0 where
  pub low_is : low_of new ≡ low_of old
  pub shaped : IsChild order level high new
  pub is_open : IsOpen block (stubs level high new)

-- what is left when a child takes the node that is held last, where it isn't in memory yet
abbrev pub IsTakenUp : Child-F Child Twig → Child → List Twig → List Twig → Type 0
IsTakenUp (Kept low addr key) new old_held new_held = (twig : Twig) × (old_held ≡ new_held ++ twig ∷ []) × (out-Child new ≡ Grown low twig)
IsTakenUp (Grown low twig) new old_held new_held = (out-Child new ≡ Grown low twig) × (new_held ≡ old_held)

-- and its address is gone, where it was on the medium
abbrev pub IsNoted : Child-F Child Twig → List ℕ → List ℕ → Type 0
IsNoted (Kept low addr key) gone more = more ≡ gone ++ addr ∷ []
IsNoted (Grown low twig) gone more = more ≡ gone

-- it is in memory, or a node is held
abbrev pub IsAtHand : Child-F Child Twig → List Twig → Type 0
IsAtHand (Kept low addr key) held = 0 < length held
IsAtHand (Grown low twig) held = Unit {0}

-- a node on the way, below which the way can be opened
pub record CanOpenBelow (level block : ℕ) (held : List Twig) (twig : Twig) : Type 0 where
  pub order : ℕ
  pub least : ℕ
  pub low : ℕ
  pub high : ℕ
  pub shaped : IsTwig order level least order low high twig
  pub from : low ≤ block
  pub to : block < high
  pub at_hand : OnWay block (λ high c. HeldFor AnyRead order block level high c held) high twig

-- below the node the way is open, and it is shaped as before
pub record IsOpenedBelow (order level least low high block : ℕ) (old new : Twig) : Type 0 where
  pub shaped : IsTwig order level least order low high new
  pub is_open : IsOpen block (stubs_below level high new)
