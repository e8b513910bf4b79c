-- The tree of a root record over readable pages, and what it has.
use Rattle.std.specs.Prelude.{◌≡◌, ◌⊎◌, ℕ, zero, suc, List, [], ◌∷◌, ◌++◌, map}
use Rattle.node_codec.specs.declared.body.Entry.{Entry}
use Rattle.node_codec.specs.Record.{DataRecord, NodeRecord}
use Rattle.root_codec.specs.declared.root.Root.{Root}
use Rattle.sdbt_base.specs.Traces.{TraceEntry, DataOf, NodeOver}
use Rattle.page_store.specs.declared.wants.Want.{Want}
use Rattle.page_store.specs.Places.{FitsAt, NothingFits, root_want, child_want}

-- a place of a tree
pub record Place : Type 0 where
  pub addr : ℕ
  pub key : List ℕ
  pub trace : TraceEntry

-- an entry of a tree: a mapped block, where its data record is, and the content of that
pub record Mapped : Type 0 where
  pub block : ℕ
  pub addr : ℕ
  pub key : List ℕ
  pub content : List ℕ

-- what a tree has: its entries in order, and its places, each node before what is below it
pub record Parts : Type 0 where
  pub mapped : List Mapped
  pub places : List Place

-- what neighbours have, one after the other
abbrev pub joined : List Parts → Parts
joined [] = record { mapped = []; places = [] }
joined (parts ∷ others) = record { mapped = parts.mapped ++ (joined others).mapped; places = parts.places ++ (joined others).places }

-- what a data record has
abbrev pub data_parts : ℕ → List ℕ → ℕ → List ℕ → Parts
data_parts addr key block content = record {
  mapped = record { block = block; addr = addr; key = key; content = content } ∷ [];
  places = record { addr = addr; key = key; trace = DataOf block } ∷ [];
}

-- what a node has, over what is below its entries
abbrev pub node_parts : ℕ → List ℕ → List Entry → Parts → Parts
node_parts addr key entries below = record {
  mapped = below.mapped;
  places = record { addr = addr; key = key; trace = NodeOver (map (λ e. e.addr) entries) } ∷ below.places;
}

-- where a child ends: at the low of the entry that follows, or with the node
abbrev pub bound_of : List Entry → ℕ → ℕ
bound_of [] high = high
bound_of (entry ∷ entries) high = entry.low

-- below each entry stands what is wanted there, and it has these parts
abbrev pub EachChild : (Want → List ℕ → Parts → Type 0) → ℕ → ℕ → ℕ → List Entry → List Parts → Type 0
EachChild Below order level high [] [] = Unit {0}
EachChild Below order level high [] (parts ∷ others) = ⊥
EachChild Below order level high (entry ∷ entries) [] = ⊥
EachChild Below order level high (entry ∷ entries) (parts ∷ others) =
    Below (child_want order level entry (bound_of entries high)) entry.key parts × EachChild Below order level high entries others

-- a data record that fits, and what it has
pub record IsData (pages : List (List ℕ)) (want : Want) (key : List ℕ) (parts : Parts) : Type 0 where
  pub content : List ℕ
  pub fits : FitsAt pages want key (DataRecord want.low content)
  pub has : parts ≡ data_parts want.addr key want.low content

-- a node that fits, over children of this level, and what it has
pub record IsNode (pages : List (List ℕ)) (Below : Want → List ℕ → Parts → Type 0) (order level : ℕ) (want : Want) (key : List ℕ) (parts : Parts) : Type 0 where
  pub entries : List Entry
  pub children : List Parts
  pub fits : FitsAt pages want key (NodeRecord (suc level) entries)
  pub each : EachChild Below order level want.high entries children
  pub has : parts ≡ node_parts want.addr key entries (joined children)

-- from a place of a level on, each place fits, and this is what they have
unfoldable pub Subtree : List (List ℕ) → ℕ → ℕ → Want → List ℕ → Parts → Type 0
Subtree pages order zero = IsData pages
Subtree pages order (suc level) = IsNode pages (Subtree pages order level) order level

-- the tree of a root record over pages: each place fits, and this is what they have
abbrev pub Tree : List (List ℕ) → Root → Parts → Type 0
Tree pages root parts = Subtree pages root.order root.level (root_want root) root.key parts

-- below one of the entries it is so
abbrev pub SomeChild : (Want → List ℕ → Type 0) → ℕ → ℕ → ℕ → List Entry → Type 0
SomeChild Below order level high [] = ⊥
SomeChild Below order level high (entry ∷ entries) =
    Below (child_want order level entry (bound_of entries high)) entry.key ⊎ SomeChild Below order level high entries

-- the place itself doesn't fit
pub record IsMisfit (pages : List (List ℕ)) (addr : ℕ) (want : Want) (key : List ℕ) : Type 0 where
  pub here : addr ≡ want.addr
  pub nothing : NothingFits pages want key

-- a node that fits, and below one of its entries it is so
pub record IsAbove (pages : List (List ℕ)) (Below : Want → List ℕ → Type 0) (order level : ℕ) (want : Want) (key : List ℕ) : Type 0 where
  pub entries : List Entry
  pub fits : FitsAt pages want key (NodeRecord (suc level) entries)
  pub some : SomeChild Below order level want.high entries

-- from a place of a level on, through nodes that fit, a place at this address is reached that doesn't fit
unfoldable pub WrongBelow : List (List ℕ) → ℕ → ℕ → ℕ → Want → List ℕ → Type 0
WrongBelow pages addr order zero want key = IsMisfit pages addr want key
WrongBelow pages addr order (suc level) want key =
    IsMisfit pages addr want key ⊎ IsAbove pages (WrongBelow pages addr order level) order level want key

-- a place at this address is reached from the root through nodes that fit, and doesn't fit
abbrev pub Wrong : List (List ℕ) → Root → ℕ → Type 0
Wrong pages root addr = WrongBelow pages addr root.order root.level (root_want root) root.key
