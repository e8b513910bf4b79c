-- What readable pages tell of the levels below a place.
use Rattle.std.specs.Prelude.{◌≡◌, ◌==◌, ℕ, zero, suc, List, [], ◌∷◌, if◌then◌else◌, map}
use Rattle.std.specs.List.{AllByRecursion}
use Rattle.node_codec.specs.declared.body.Entry.{Entry}
use Rattle.node_codec.specs.Record.{NodeRecord}
use Rattle.page_store.specs.Places.{IsRecordAt}
use Rattle.btree_twigs.specs.declared.twigs.Child.{Child}
use Rattle.btree_twigs.specs.Stubs.{Stub, low_of}
use Rattle.btree_twigs.specs.Levels.{Node, rows_by, row}
use Rattle.btree_update.specs.GroveTree.{stubs_at}
use Rattle.btree_update.specs.Reading.{all_kept}

-- a node over children of a level: at its own level the node itself, at another what its children have
abbrev pub node_row : (ℕ → Child → List Node) → ℕ → ℕ → ℕ → ℕ → List Child → List Node
node_row below j level low high children = if j == suc level then record { low = low; lows = map low_of children } ∷ [] else rows_by below high children

-- the page at a place is a node, and the place has that node and what is below its entries
pub record IsToldBy (pages : List (List ℕ)) (medium : Stub → ℕ → List Node) (Below : Stub → Type 0) (level : ℕ) (stub : Stub) : Type 0 where
  pub entries : List Entry
  pub here : IsRecordAt pages stub.addr stub.key (NodeRecord (suc level) entries)
  pub rows : (j : ℕ) → medium stub j ≡ node_row (row medium j level) j level stub.low stub.high (all_kept entries)
  pub below : AllByRecursion Below (stubs_at level stub.high entries)

-- at each level below a place the medium has what the pages tell
unfoldable pub IsTold : List (List ℕ) → (Stub → ℕ → List Node) → ℕ → Stub → Type 0
IsTold pages medium zero stub = Unit {0}
IsTold pages medium (suc level) stub = IsToldBy pages medium (IsTold pages medium level) level stub

-- below each of these places
abbrev pub Tells : List (List ℕ) → (Stub → ℕ → List Node) → List Stub → Type 0
Tells pages medium stubs = AllByRecursion (λ s. IsTold pages medium s.level s) stubs
