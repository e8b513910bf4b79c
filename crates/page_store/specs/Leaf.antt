-- A tree of one leaf, in terms of its entries and of the contents of its data records.
use Rattle.std.specs.Prelude.{◌≡◌, ◌≢◌, ◌≤◌, ℕ, List, [], ◌∷◌, Some, All, AllPairs, length, map, slice_get}
use Rattle.std.specs.List.{AllZip, zip}
use Rattle.std.specs.FinMap.{from_entries}
use Rattle.sdbt_base.specs.Keys.{IsKeyOf}
use Rattle.platform.specs.Image.{Image}
use Rattle.node_codec.specs.declared.body.Entry.{Entry}
use Rattle.node_codec.specs.Record.{DataRecord, NodeRecord}
use Rattle.root_codec.specs.declared.root.Root.{Root}
use Rattle.root_codec.specs.RootRecord.{FitsRoot, root_bytes}
use Rattle.sdbt_base.specs.Arrays.{Device}
use Rattle.page_store.specs.Places.{IsRecordAt, FitsAt, root_want}
use Rattle.sdbt_base.specs.Traces.{DataOf}
use Rattle.page_store.specs.Tree.{Place, Mapped, Parts, node_parts}

-- the entries of a leaf, each with the content of its data record
abbrev pub mapped_by : List Entry → List (List ℕ) → List Mapped
mapped_by [] contents = []
mapped_by (entry ∷ entries) [] = []
mapped_by (entry ∷ entries) (content ∷ contents) =
    record { block = entry.low; addr = entry.addr; key = entry.key; content = content } ∷ mapped_by entries contents

-- the places of a leaf's data records
abbrev pub data_places : List Entry → List Place
data_places entries = map (λ e. record { addr = e.addr; key = e.key; trace = DataOf e.low }) entries

-- what a leaf has, over data records of these contents
abbrev pub leaf_parts : ℕ → List ℕ → List Entry → List (List ℕ) → Parts
leaf_parts addr key entries contents = node_parts addr key entries (record { mapped = mapped_by entries contents; places = data_places entries })

-- the root node is a leaf of these entries, and each names the data record of its block, with this content
pub record IsLeaf (pages : List (List ℕ)) (root : Root) (entries : List Entry) (contents : List (List ℕ)) : Type 0 where
  pub leaf : FitsAt pages (root_want root) root.key (NodeRecord 1 entries)
  pub records : AllZip (λ e c. IsRecordAt pages e.addr e.key (DataRecord e.low c)) entries contents

-- the image stands for the device by a root at level 1: a leaf of these entries, and data records of these contents
pub record StandsByLeaf (image : Image) (device : Device) (root : Root) (entries : List Entry) (contents : List (List ℕ)) : Type 0 where
  pub cell : image.cell ≡ Some (root_bytes root)
  pub in_range : FitsRoot root
  pub key : IsKeyOf root.version root.key
  pub version : root.version ≡ device.version
  pub level : root.level ≡ 1
  pub order : root.order ≡ device.order
  pub blocks : root.blocks ≡ device.blocks
  pub number : root.commit ≡ device.number
  pub head : root.head ≤ image.synced
  pub tree : IsLeaf image.readable root entries contents
  pub apart : AllPairs (λ a b. a.addr ≢ b.addr) entries
  pub count : length entries ≡ root.mapped
  pub leaf_recorded : slice_get image.readable root.addr ≡ slice_get image.recorded root.addr
  pub recorded : All (λ e. slice_get image.readable e.addr ≡ slice_get image.recorded e.addr) entries
  pub holds : device.contents ≡ from_entries (zip (map (λ e. e.low) entries) contents)
