-- What the nodes of a build are, and which tree they make.
use Rattle.std.specs.Prelude.{◌≡◌, ℕ, zero, suc, ◌+◌, ◌==◌, ◌<◌, if◌then◌else◌, List, [], ◌∷◌, ◌++◌, All, length, map, take, drop, slice_get}
use Rattle.std.specs.List.{AllZip}
use Rattle.std.specs.List.Sorted.{IsPermutation, IsStrictlyIncreasing}
use Rattle.std.specs.Option.{option_map_or}
use Rattle.sdbt_base.specs.Keys.{IsKeyOf}
use Rattle.sdbt_base.specs.Traces.{Traced, DataOf, NodeOver}
use Rattle.node_codec.specs.declared.body.Entry.{Entry}
use Rattle.node_codec.specs.Record.{DataRecord, NodeRecord}
use Rattle.root_codec.specs.declared.root.Root.{Root}
use Rattle.page_store.specs.Places.{IsRecordAt}
use Rattle.page_store.specs.Tree.{Place, Mapped, Parts, Tree}
use Rattle.tree_build.specs.declared.shapes.Span.{Span}
use Rattle.tree_build.specs.Shape.{shape_of, levels_over}

-- the data record of each block is there, under its key, with this content
abbrev pub AreData : List (List ℕ) → List Entry → List (List ℕ) → Type 0
AreData pages records contents = AllZip (λ (e : Entry) content. IsRecordAt pages e.addr e.key (DataRecord e.low content)) records contents

-- items have consecutive addresses, from this one on
abbrev pub AreFrom : ℕ → List Entry → Type 0
AreFrom first [] = Unit {0}
AreFrom first (e ∷ es) = (e.addr ≡ first) × AreFrom (suc first) es

-- the items of a span
abbrev pub children_in : List Entry → Span → List Entry
children_in items s = take s.count (drop s.first items)

-- the low of a node: that of its first child, and 0 of the first leaf
abbrev pub low_of : List Entry → Span → ℕ
low_of items s = if s.first == 0 then 0 else option_map_or (λ (e : Entry). e.low) (slice_get items s.first) 0

-- an item names a node over the items of a span: the record of it is there, under the item's key
pub record IsNodeOver (pages : List (List ℕ)) (items : List Entry) (s : Span) (entry : Entry) : Type 0 where
  pub low : entry.low ≡ low_of items s
  pub node : IsRecordAt pages entry.addr entry.key (NodeRecord s.level (children_in items s))

-- behind the data records come the nodes over them, all of them, in the order in which they are made
abbrev pub AreNodes : List (List ℕ) → ℕ → List Entry → List Entry → Type 0
AreNodes pages order records nodes = AllZip (IsNodeOver pages (records ++ nodes)) (shape_of order (length records)) nodes

-- the places of these data records, and of these nodes
abbrev pub data_place : Entry → Place
data_place e = record { addr = e.addr; key = e.key; trace = DataOf e.low }

abbrev pub node_places : List Entry → List Span → List Entry → List Place
node_places items [] nodes = []
node_places items (s ∷ spans) [] = []
node_places items (s ∷ spans) (e ∷ nodes) =
    record { addr = e.addr; key = e.key; trace = NodeOver (map (λ (c : Entry). c.addr) (children_in items s)) } ∷ node_places items spans nodes

abbrev pub places_of : ℕ → List Entry → List Entry → List Place
places_of order records nodes = map data_place records ++ node_places (records ++ nodes) (shape_of order (length records)) nodes

-- the blocks of these data records, with these contents
abbrev pub mapped_of : List Entry → List (List ℕ) → List Mapped
mapped_of [] contents = []
mapped_of (e ∷ records) [] = []
mapped_of (e ∷ records) (content ∷ contents) = record { block = e.low; addr = e.addr; key = e.key; content = content } ∷ mapped_of records contents

-- data records of blocks of a device, in order of these, of version 2
pub record AreInOrder (blocks : ℕ) (records : List Entry) : Type 0 where
  pub ascend : IsStrictlyIncreasing (map (λ (e : Entry). e.low) records)
  pub lows : All (λ (e : Entry). e.low < blocks) records
  pub keys : All (λ (e : Entry). IsKeyOf 2 e.key) records

-- the root record names the last of these nodes
pub record IsRootOver (order blocks : ℕ) (records nodes : List Entry) (root : Root) : Type 0 where
  pub order_is : root.order ≡ order
  pub blocks_are : root.blocks ≡ blocks
  pub level_is : root.level ≡ levels_over order (length records)
  pub last : (before : List Entry) × (low : ℕ) × (nodes ≡ before ++ record { low = low; addr = root.addr; key = root.key } ∷ [])

-- it has a tree, which maps the blocks of the data records, and whose places are those of these and of the nodes
pub record HasTree (pages : List (List ℕ)) (order : ℕ) (records nodes : List Entry) (contents : List (List ℕ)) (root : Root) : Type 0 where
  pub parts : Parts
  pub tree : Tree pages root parts
  pub mapped : parts.mapped ≡ mapped_of records contents
  pub places : IsPermutation (places_of order records nodes) parts.places

-- what a certificate says of the data records of these blocks, from an address on
abbrev pub data_from : ℕ → List ℕ → List Traced
data_from addr [] = []
data_from addr (block ∷ blocks) = record { addr = addr; trace = DataOf block } ∷ data_from (suc addr) blocks

-- so many consecutive addresses
abbrev pub addrs_from : ℕ → ℕ → List ℕ
addrs_from addr zero = []
addrs_from addr (suc count) = addr ∷ addrs_from (suc addr) count

-- and of the nodes behind them, where the items begin at this one
abbrev pub nodes_from : ℕ → ℕ → List Span → List Traced
nodes_from base addr [] = []
nodes_from base addr (s ∷ spans) = record { addr = addr; trace = NodeOver (addrs_from (base + s.first) s.count) } ∷ nodes_from base (suc addr) spans

-- what a certificate says of all that a build makes over data records of these blocks, from an address on, before anything is sealed
abbrev pub planned : ℕ → ℕ → List ℕ → List Traced
planned order base blocks = data_from base blocks ++ nodes_from base (base + length blocks) (shape_of order (length blocks))

-- as it is said of places
abbrev pub traced_of : Place → Traced
traced_of place = record { addr = place.addr; trace = place.trace }
