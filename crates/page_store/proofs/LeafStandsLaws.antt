-- What an image with a tree of one leaf stands for, and the leaf that a commit appends.
use Rattle.std.proofs.Common.{◌≡◌, ◌≢◌, ℕ, suc, ◌<◌, ◌≤◌, List, [], ◌∷◌, ◌++◌, map, length, get_or, refl, sym, ap, subst, ◌∙◌, arith}
use Rattle.std.specs.Prelude.{All, AllPairs, ◌==◌, if◌then◌else◌, slice_get}
use Rattle.std.specs.List.{AllZip, zip}
use Rattle.std.specs.FinMap.{from_entries}
use Rattle.std.proofs.lemmas.List.{get_or-map, length-map}
use Rattle.std.proofs.lemmas.List.Elements.{All-nil, All-cons, All-head, All-tail, All-weaker, All-map}
use Rattle.std.proofs.lemmas.List.Kept.{AllPairs-cons}
use Rattle.platform.specs.Image.{Image}
use Rattle.seal_record.specs.Sealing.{masked}
use Rattle.node_codec.specs.declared.body.Entry.{Entry}
use Rattle.node_codec.specs.Record.{DataRecord, NodeRecord, FitsRecord, record_bytes}
use Rattle.root_codec.specs.declared.root.Root.{Root}
use Rattle.root_codec.specs.RootRecord.{FitsRoot}
use Rattle.sdbt_base.specs.Arrays.{Device}
use Rattle.page_store.specs.Places.{IsRecordAt, IsNodeWanted, FitsAt, root_want}
use Rattle.sdbt_base.specs.Traces.{DataOf, NodeOver}
use Rattle.page_store.specs.Tree.{Place, Parts}
use Rattle.page_store.specs.Stands.{pairs_of, StandsBy}
use Rattle.page_store.specs.Leaf.{leaf_parts, IsLeaf, StandsByLeaf}
use Rattle.page_store.proofs.RecordLaws.{one_record, plain_appended}
use Rattle.page_store.proofs.LeafLaws.{leaf_tree, tree_leaf, data_stay, length-mapped_by}

-- the place of a data record
abbrev place_of : Entry → Place
place_of entry = record { addr = entry.addr; key = entry.key; trace = DataOf entry.low }

-- the place of a leaf
abbrev leaf_place : Root → List Entry → Place
leaf_place root entries = record { addr = root.addr; key = root.key; trace = NodeOver (map (λ e. e.addr) entries) }

All-unmap : {A B : Type 0} (P : B → Type 0) (f : A → B) (xs : List A) → All P (map f xs) → All (λ x. P (f x)) xs
All-unmap P f [] all = All-nil (λ x. P (f x))
All-unmap P f (x ∷ xs) all = All-cons (λ y. P (f y)) x xs (All-head P (f x) (map f xs) all) (All-unmap P f xs (All-tail P (f x) (map f xs) all))

address_at : (entries : List Entry) (i : ℕ) (place : Place) (entry : Entry) → i < length entries → (get_or (map place_of entries) i place).addr ≡ (get_or entries i entry).addr
address_at entries i place entry inside = ap (λ (p : Place). p.addr) (get_or-map place_of entries i entry place inside)

places_apart : (entries : List Entry) → AllPairs (λ a b. a.addr ≢ b.addr) entries → AllPairs (λ p q. p.addr ≢ q.addr) (map place_of entries)
places_apart entries apart i j place below inside same =
    let none : Entry = record { low = 0; addr = 0; key = [] } in
    let within : j < length entries = omega (arith, inside, length-map entries place_of) in
    apart i j none below within (sym (address_at entries i place none (omega arith)) ∙ same ∙ address_at entries j place none within)

entries_apart : (entries : List Entry) → AllPairs (λ p q. p.addr ≢ q.addr) (map place_of entries) → AllPairs (λ a b. a.addr ≢ b.addr) entries
entries_apart entries apart i j entry below inside same =
    let none : Place = place_of entry in
    apart i j none below (omega (arith, length-map entries place_of)) (address_at entries i none entry (omega arith) ∙ same ∙ sym (address_at entries j none entry inside))

-- the blocks of a leaf, each with its content
pub pairs_of_leaf : (addr : ℕ) (key : List ℕ) (entries : List Entry) (contents : List (List ℕ)) → pairs_of (leaf_parts addr key entries contents) ≡ zip (map (λ e. e.low) entries) contents
pairs_of_leaf addr key [] contents = refl
pairs_of_leaf addr key (entry ∷ entries) [] = refl
pairs_of_leaf addr key (entry ∷ entries) (content ∷ contents) = let rest = pairs_of_leaf addr key entries contents in λ i. (entry.low, content) ∷ rest i

-- ---- one leaf, both ways

pub stands_by_leaf : (image : Image) (device : Device) (root : Root) (entries : List Entry) (contents : List (List ℕ)) → StandsByLeaf image device root entries contents → StandsBy image device root (leaf_parts root.addr root.key entries contents)
stands_by_leaf image device root entries contents stands =
    let below : All (λ e. e.addr < root.addr) entries = stands.tree.leaf.0.in_range.0.below in
    record {
      cell = stands.cell;
      in_range = stands.in_range;
      key = stands.key;
      version = stands.version;
      order = stands.order;
      blocks = stands.blocks;
      number = stands.number;
      head = stands.head;
      tree = leaf_tree image.readable root entries contents stands.level stands.tree;
      apart = AllPairs-cons (λ (p : Place) (q : Place). p.addr ≢ q.addr) (leaf_place root entries) (map place_of entries)
          (All-map (λ (q : Place). root.addr ≢ q.addr) place_of entries (All-weaker (λ (e : Entry). e.addr < root.addr) (λ (e : Entry). root.addr ≢ e.addr) (λ e lower. omega arith) entries below))
          (places_apart entries stands.apart);
      count = length-mapped_by image.readable entries contents stands.tree.records ∙ stands.count;
      below = All-cons (λ (p : Place). p.addr < root.head) (leaf_place root entries) (map place_of entries) stands.in_range.addr
          (All-map (λ (p : Place). p.addr < root.head) place_of entries (All-weaker (λ (e : Entry). e.addr < root.addr) (λ (e : Entry). e.addr < root.head) (λ e lower. omega (arith, stands.in_range.addr)) entries below));
      recorded = All-cons (λ (p : Place). slice_get image.readable p.addr ≡ slice_get image.recorded p.addr) (leaf_place root entries) (map place_of entries) stands.leaf_recorded
          (All-map (λ (p : Place). slice_get image.readable p.addr ≡ slice_get image.recorded p.addr) place_of entries stands.recorded);
      contents = stands.holds ∙ ap from_entries (sym (pairs_of_leaf root.addr root.key entries contents));
    }

pub leaf_of_stands : (image : Image) (device : Device) (root : Root) (parts : Parts) → root.level ≡ 1 → StandsBy image device root parts → (entries : List Entry) × (contents : List (List ℕ)) × StandsByLeaf image device root entries contents × (parts ≡ leaf_parts root.addr root.key entries contents)
leaf_of_stands image device root parts level stands =
    let (entries, contents, leaf, same) = tree_leaf image.readable root parts level stands.tree in
    let all = subst (λ (p : Parts). StandsBy image device root p) same stands in (
      entries,
      contents,
      record {
        cell = stands.cell;
        in_range = stands.in_range;
        key = stands.key;
        version = stands.version;
        level = level;
        order = stands.order;
        blocks = stands.blocks;
        number = stands.number;
        head = stands.head;
        tree = leaf;
        apart = entries_apart entries (λ i j place below inside. all.apart (suc i) (suc j) place (omega arith) (omega (arith, inside)));
        count = sym (length-mapped_by image.readable entries contents leaf.records) ∙ all.count;
        leaf_recorded = All-head (λ (p : Place). slice_get image.readable p.addr ≡ slice_get image.recorded p.addr) (leaf_place root entries) (map place_of entries) all.recorded;
        recorded = All-unmap (λ (p : Place). slice_get image.readable p.addr ≡ slice_get image.recorded p.addr) place_of entries (All-tail (λ (p : Place). slice_get image.readable p.addr ≡ slice_get image.recorded p.addr) (leaf_place root entries) (map place_of entries) all.recorded);
        holds = all.contents ∙ ap from_entries (pairs_of_leaf root.addr root.key entries contents);
      },
      same,
    )

-- the leaf that is read is the leaf of the tree
pub leaf_found : (pages : List (List ℕ)) (root : Root) (entries read : List Entry) (contents : List (List ℕ)) → FitsRoot root → IsLeaf pages root entries contents → FitsAt pages (root_want root) root.key (NodeRecord 1 read) → read ≡ entries
leaf_found pages root entries read contents fits leaf is =
    let value : NodeRecord 1 read ≡ NodeRecord 1 entries = one_record pages root.addr root.key _ _ (omega (arith, fits.addr, fits.head)) is.0 leaf.leaf.0 in
    cc

-- ---- a commit

-- entries that a root at level 1 may have
pub leaf_wanted : (root : Root) (entries : List Entry) → root.level ≡ 1 → length entries ≤ root.order → All (λ e. e.low < root.blocks) entries → IsNodeWanted (root_want root) 1 entries
leaf_wanted root entries level most lows = record {
  same_level = sym level;
  least = subst (λ (n : ℕ). (if n == 1 then 0 else 2) ≤ length entries) (sym level) (omega arith);
  most = most;
  from_low = λ k d inside. omega arith;
  below_high = lows;
  first = λ inner. absurd (omega (arith, inner));
}

-- a leaf that is sealed and appended behind its data records is the tree of its root, whose key has no digest
pub leaf_appended : (pages : List (List ℕ)) (root : Root) (entries : List Entry) (contents : List (List ℕ)) → FitsRoot root → length root.key ≡ 32 → root.addr ≡ length pages → FitsRecord 1 root.addr (NodeRecord 1 entries) → IsNodeWanted (root_want root) 1 entries → AllZip (λ e c. IsRecordAt pages e.addr e.key (DataRecord e.low c)) entries contents → IsLeaf (pages ++ masked root.key (record_bytes 1 root.addr (NodeRecord 1 entries)) ∷ []) root entries contents
leaf_appended pages root entries contents fits plain at in_range wanted records = record {
  leaf = (plain_appended pages root.addr root.key (NodeRecord 1 entries) (omega (arith, fits.addr, fits.head)) at plain in_range, wanted);
  records = data_stay pages (masked root.key (record_bytes 1 root.addr (NodeRecord 1 entries)) ∷ []) entries contents records;
}
