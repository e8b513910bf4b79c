-- What the tree of a root at level 1 is: its leaf, and the data records that the leaf names.
use Rattle.std.proofs.Common.{◌≡◌, ℕ, zero, suc, List, [], ◌∷◌, ◌++◌, length, refl, sym, ap, subst, ◌∙◌}
use Rattle.std.specs.List.{AllZip}
use Rattle.node_codec.specs.declared.body.Entry.{Entry}
use Rattle.node_codec.specs.Record.{DataRecord}
use Rattle.root_codec.specs.declared.root.Root.{Root}
use Rattle.page_store.specs.Places.{IsRecordAt, root_want}
use Rattle.sdbt_base.specs.Traces.{DataOf}
use Rattle.page_store.specs.Tree.{Parts, joined, data_parts, node_parts, EachChild, Subtree, Tree}
use Rattle.page_store.specs.Leaf.{mapped_by, data_places, leaf_parts, IsLeaf}
use Rattle.page_store.proofs.RecordLaws.{record_stays}

-- the data records of entries, with these contents
abbrev AreData : List (List ℕ) → List Entry → List (List ℕ) → Type 0
AreData pages entries contents = AllZip (λ (e : Entry) (c : List ℕ). IsRecordAt pages e.addr e.key (DataRecord e.low c)) entries contents

-- what they have, all together
abbrev data_below : List Entry → List (List ℕ) → Parts
data_below entries contents = record { mapped = mapped_by entries contents; places = data_places entries }

-- and each
abbrev children_by : List Entry → List (List ℕ) → List Parts
children_by [] contents = []
children_by (entry ∷ entries) [] = []
children_by (entry ∷ entries) (content ∷ contents) = data_parts entry.addr entry.key entry.low content ∷ children_by entries contents

joined_data : (pages : List (List ℕ)) (entries : List Entry) (contents : List (List ℕ)) → AreData pages entries contents → joined (children_by entries contents) ≡ data_below entries contents
joined_data pages [] [] are = refl
joined_data pages [] (content ∷ contents) are = absurd are
joined_data pages (entry ∷ entries) [] are = absurd are
joined_data pages (entry ∷ entries) (content ∷ contents) are =
    let rest = joined_data pages entries contents are.1 in
    λ i. record {
      mapped = record { block = entry.low; addr = entry.addr; key = entry.key; content = content } ∷ (rest i).mapped;
      places = record { addr = entry.addr; key = entry.key; trace = DataOf entry.low } ∷ (rest i).places;
    }

each_data : (pages : List (List ℕ)) (order high : ℕ) (entries : List Entry) (contents : List (List ℕ)) → AreData pages entries contents → EachChild (Subtree pages order zero) order zero high entries (children_by entries contents)
unfolding Subtree
each_data pages order high [] [] are = tt
each_data pages order high [] (content ∷ contents) are = absurd are
each_data pages order high (entry ∷ entries) [] are = absurd are
each_data pages order high (entry ∷ entries) (content ∷ contents) are =
    (record { content = content; fits = (are.0, (refl, refl)); has = refl }, each_data pages order high entries contents are.1)

-- a leaf and the data records that it names are the tree of a root at level 1
pub leaf_tree : (pages : List (List ℕ)) (root : Root) (entries : List Entry) (contents : List (List ℕ)) → root.level ≡ 1 → IsLeaf pages root entries contents → Tree pages root (leaf_parts root.addr root.key entries contents)
unfolding Subtree
leaf_tree pages root entries contents level is =
    let parts = leaf_parts root.addr root.key entries contents in
    let at_one : Subtree pages root.order (suc zero) (root_want root) root.key parts = record {
      entries = entries;
      children = children_by entries contents;
      fits = is.leaf;
      each = each_data pages root.order root.blocks entries contents is.records;
      has = ap (node_parts root.addr root.key entries) (sym (joined_data pages entries contents is.records));
    } in
    subst (λ (n : ℕ). Subtree pages root.order n (root_want root) root.key parts) (sym level) at_one

data_of_each : (pages : List (List ℕ)) (order high : ℕ) (entries : List Entry) (children : List Parts) → EachChild (Subtree pages order zero) order zero high entries children → (contents : List (List ℕ)) × AreData pages entries contents × (joined children ≡ data_below entries contents)
unfolding Subtree
data_of_each pages order high [] [] each = ([], tt, refl)
data_of_each pages order high [] (parts ∷ children) each = absurd each
data_of_each pages order high (entry ∷ entries) [] each = absurd each
data_of_each pages order high (entry ∷ entries) (parts ∷ children) each =
    let rest = data_of_each pages order high entries children each.1 in (
      each.0.content ∷ rest.0,
      (each.0.fits.0, rest.1),
      λ i. record {
        mapped = (each.0.has i).mapped ++ (rest.2 i).mapped;
        places = (each.0.has i).places ++ (rest.2 i).places;
      },
    )

-- the tree of a root at level 1 is a leaf and the data records that it names
pub tree_leaf : (pages : List (List ℕ)) (root : Root) (parts : Parts) → root.level ≡ 1 → Tree pages root parts → (entries : List Entry) × (contents : List (List ℕ)) × IsLeaf pages root entries contents × (parts ≡ leaf_parts root.addr root.key entries contents)
unfolding Subtree
tree_leaf pages root parts level is =
    let at_one : Subtree pages root.order (suc zero) (root_want root) root.key parts = subst (λ (n : ℕ). Subtree pages root.order n (root_want root) root.key parts) level is in
    let below = data_of_each pages root.order root.blocks at_one.entries at_one.children at_one.each in
    (at_one.entries, below.0, record { leaf = at_one.fits; records = below.1 }, at_one.has ∙ ap (node_parts root.addr root.key at_one.entries) below.2)

-- pages that are added leave data records as they are
pub data_stay : (pages more : List (List ℕ)) (entries : List Entry) (contents : List (List ℕ)) → AllZip (λ e c. IsRecordAt pages e.addr e.key (DataRecord e.low c)) entries contents → AllZip (λ e c. IsRecordAt (pages ++ more) e.addr e.key (DataRecord e.low c)) entries contents
data_stay pages more [] [] are = tt
data_stay pages more [] (content ∷ contents) are = absurd are
data_stay pages more (entry ∷ entries) [] are = absurd are
data_stay pages more (entry ∷ entries) (content ∷ contents) are =
    (record_stays pages more entry.addr entry.key (DataRecord entry.low content) are.0, data_stay pages more entries contents are.1)

-- a leaf has as many entries as there are contents
pub length-mapped_by : (pages : List (List ℕ)) (entries : List Entry) (contents : List (List ℕ)) → AllZip (λ e c. IsRecordAt pages e.addr e.key (DataRecord e.low c)) entries contents → length (mapped_by entries contents) ≡ length entries
length-mapped_by pages [] [] are = refl
length-mapped_by pages [] (content ∷ contents) are = absurd are
length-mapped_by pages (entry ∷ entries) [] are = absurd are
length-mapped_by pages (entry ∷ entries) (content ∷ contents) are = ap suc (length-mapped_by pages entries contents are.1)
