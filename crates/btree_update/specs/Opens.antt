-- How a tree is opened: nodes on the medium give way to the places below them.
use Rattle.std.specs.Prelude.{◌≡◌, ◌<◌, ◌≤◌, ℕ, suc, List, [], ◌∷◌, ◌++◌, map}
use Rattle.std.specs.List.{AllByRecursion}
use Rattle.node_codec.specs.declared.body.Entry.{Entry}
use Rattle.node_codec.specs.Record.{NodeRecord}
use Rattle.page_store.specs.declared.wants.Want.{Want}
use Rattle.page_store.specs.Places.{FitsAt}
use Rattle.btree_twigs.specs.declared.twigs.Child.{Child}
use Rattle.btree_twigs.specs.declared.twigs.Twig.{Twig}
use Rattle.btree_twigs.specs.Stubs.{Stub, stubs, stubs_below, children_of}
use Rattle.btree_twigs.specs.Levels.{Node, row}
use Rattle.btree_update.specs.Held.{stub_at, IsReadAs}
use Rattle.btree_update.specs.Tells.{node_row, Tells}

-- where nodes were on the medium there are now the places below them, as their pages say; these are the places of those nodes
pub data Opens (pages : List (List ℕ)) (order : ℕ) : List Stub → List Stub → List Stub → Type 0 where
  Same : {old : List Stub} → Opens pages order [] old old
  Here : {below low high addr : ℕ} {key : List ℕ} {twig : Twig} → IsReadAs pages order below (stub_at (suc below) low high addr key) twig →
      Opens pages order (stub_at (suc below) low high addr key ∷ []) (stub_at (suc below) low high addr key ∷ []) (stubs_below below high twig)
  Within : {places old new : List Stub} (front back : List Stub) → Opens pages order places old new →
      Opens pages order places (front ++ (old ++ back)) (front ++ (new ++ back))
  Then : {first second old mid new : List Stub} → Opens pages order first old mid → Opens pages order second mid new →
      Opens pages order (first ++ second) old new

-- a place has the block
abbrev pub HasWay : ℕ → Stub → Type 0
HasWay block stub = (stub.low ≤ block) × (block < stub.high)

-- the page at a place is a node that is wanted there
pub record IsThere (pages : List (List ℕ)) (want : Want) (key : List ℕ) : Type 0 where
  pub entries : List Entry
  pub fits : FitsAt pages want key (NodeRecord want.level entries)

-- such a place, and its node is there
abbrev pub Fitting : List (List ℕ) → (Stub → Want) → (Stub → Type 0) → Stub → Type 0
Fitting pages want May s = May s × IsThere pages (want s) s.key

-- such places are opened, and the addresses of the nodes that gave way come to those that are gone
pub record GivesWay (pages : List (List ℕ)) (order : ℕ) (May : Stub → Type 0) (old new : List Stub) (gone more : List ℕ) : Type 0 where
  pub places : List Stub
  pub opens : Opens pages order places old new
  pub may : AllByRecursion May places
  pub more_is : more ≡ gone ++ map (λ s. s.addr) places

-- they are opened below a child of a level, whose levels stay
pub record GivesChild (pages : List (List ℕ)) (order : ℕ) (May : Stub → Type 0) (level high : ℕ) (old new : Child) (gone more : List ℕ) : Type 0 where
  pub places : GivesWay pages order May (stubs level high old) (stubs level high new) gone more
  pub rows : (medium : Stub → ℕ → List Node) → Tells pages medium (stubs level high old) → (j : ℕ) → row medium j level high new ≡ row medium j level high old

-- and below a node
pub record GivesBelow (pages : List (List ℕ)) (order : ℕ) (May : Stub → Type 0) (level high : ℕ) (old new : Twig) (gone more : List ℕ) : Type 0 where
  pub places : GivesWay pages order May (stubs_below level high old) (stubs_below level high new) gone more
  pub rows : (medium : Stub → ℕ → List Node) → Tells pages medium (stubs_below level high old) → (low j : ℕ) →
      node_row (row medium j level) j level low high (children_of new) ≡ node_row (row medium j level) j level low high (children_of old)
