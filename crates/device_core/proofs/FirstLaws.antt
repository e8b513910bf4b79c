-- The first root record of a device, and the empty leaf that it names.
use Rattle.std.proofs.Common.{◌≡◌, ◌∙◌, ap, inl, ◌+◌, ◌%◌, ◌<◌, ◌≤◌, ◌^◌, ℕ, List, [], ◌∷◌, Some, refl, sym, arith, length, length-append}
use Rattle.std.specs.Prelude.{slice_get}
use Rattle.std.proofs.lemmas.List.Elements.{All-nil}
use Rattle.sdbt_base.specs.Bytes.{IsBytes}
use Rattle.sdbt_base.specs.Keys.{key_size, IsKeyOf}
use Rattle.sdbt_base.specs.Arrays.{new_device}
use Rattle.platform.specs.Image.{Image, IsWhole, with_page, with_cell, all_synced}
use Rattle.seal_record.specs.Sealing.{masked}
use Rattle.node_codec.specs.declared.body.Entry.{Entry}
use Rattle.node_codec.specs.Record.{NodeRecord, FitsNode, FitsRecord, record_bytes}
use Rattle.root_codec.specs.declared.root.Root.{Root}
use Rattle.root_codec.specs.RootRecord.{FitsRoot, root_bytes}
use Rattle.page_store.specs.Tree.{Parts}
use Rattle.page_store.specs.Leaf.{StandsByLeaf, leaf_parts}
use Rattle.page_store.specs.Stands.{StandsBy}
use Rattle.page_store.proofs.RecordLaws.{slice_get-end}
use Rattle.page_store.proofs.LeafStandsLaws.{stands_by_leaf, leaf_wanted, leaf_appended}

-- the root record of a new device of so many blocks: it names an empty leaf, which is the last page
pub record IsFirst (root : Root) (blocks order : ℕ) : Type 0 where
  pub fits : FitsRoot root
  pub version : root.version ≡ 1
  pub key : IsKeyOf root.version root.key
  pub order_is : root.order ≡ order
  pub level : root.level ≡ 1
  pub blocks_are : root.blocks ≡ blocks
  pub commit : root.commit ≡ 0
  pub mapped : root.mapped ≡ 0
  pub head : root.head ≡ root.addr + 1

-- the one of an empty leaf at this address, under this key
abbrev pub first_root : ℕ → ℕ → ℕ → List ℕ → Root
first_root blocks order addr key = record { version = 1; order = order; level = 1; blocks = blocks; commit = 0; addr = addr; key = key; mapped = 0; head = addr + 1 }

pub is_first : (blocks order addr : ℕ) (key : List ℕ) → 1 ≤ blocks → blocks ≤ 1048576 → 4 ≤ order → order ≤ 64 → order % 2 ≡ 0 → addr < 2 ^ 32 → IsBytes 32 key → IsFirst (first_root blocks order addr key) blocks order
is_first blocks order addr key some_blocks most_blocks least most even room sized = record {
  fits = record {
    version = inl refl;
    order_even = even;
    order_least = least;
    order_most = most;
    level_least = omega arith;
    level_most = omega arith;
    blocks_least = some_blocks;
    blocks_most = most_blocks;
    commit = omega arith;
    addr = omega arith;
    mapped = omega arith;
    head = omega (arith, room);
    sized = sized.0;
  };
  version = refl;
  key = sized;
  order_is = refl;
  level = refl;
  blocks_are = refl;
  commit = refl;
  mapped = refl;
  head = refl;
}

-- the page of that leaf
abbrev pub leaf_page : Root → List ℕ
leaf_page root = masked root.key (record_bytes 1 root.addr (NodeRecord 1 []))

-- an image with every page synced, and the root record
abbrev pub with_root : Image → Root → Image
with_root image root = with_cell (all_synced image) (Some (root_bytes root))

-- the same with the leaf appended before
abbrev pub with_leaf : Image → Root → Image
with_leaf image root = with_root (with_page image (leaf_page root) (leaf_page root)) root

-- what the tree has: the leaf
abbrev pub parts_of : Root → Parts
parts_of root = leaf_parts root.addr root.key [] []

pub no_entries_fit : (addr : ℕ) → FitsNode 1 addr 1 []
no_entries_fit addr = record {
  version_known = inl refl;
  level_least = omega arith;
  level_most = omega arith;
  count = omega arith;
  ascend = λ k inside. absurd (omega (arith, inside));
  lows = All-nil (λ (e : Entry). e.low < 1048576);
  below = All-nil (λ (e : Entry). e.addr < addr);
  sized = All-nil (λ (e : Entry). length e.key ≡ 32);
}

pub leaf_in_range : (addr : ℕ) → FitsRecord 1 addr (NodeRecord 1 [])
leaf_in_range addr = (no_entries_fit addr, All-nil (λ (e : Entry). IsBytes 32 e.key))

first_leaf : (image : Image) (root : Root) (blocks order : ℕ) → IsWhole image → IsFirst root blocks order → root.addr ≡ length image.recorded → StandsByLeaf (with_leaf image root) (new_device blocks order) root [] []
first_leaf image root blocks order whole first at = record {
  cell = refl;
  in_range = first.fits;
  key = first.key;
  version = first.version;
  level = first.level;
  order = first.order_is;
  blocks = first.blocks_are;
  number = first.commit;
  head = omega (arith, length-append image.recorded (leaf_page root ∷ []), at, first.head);
  tree = leaf_appended image.readable root [] [] first.fits (first.fits.sized ∙ ap key_size first.version) (at ∙ sym whole.as_many) (leaf_in_range root.addr) (leaf_wanted root [] first.level (omega arith) (All-nil (λ (e : Entry). e.low < root.blocks))) tt;
  apart = λ i j d before within. absurd (omega (arith, within));
  count = sym first.mapped;
  leaf_recorded = slice_get-end image.readable (leaf_page root) root.addr (at ∙ sym whole.as_many) ∙ sym (slice_get-end image.recorded (leaf_page root) root.addr at);
  recorded = All-nil (λ (e : Entry). slice_get (with_leaf image root).readable e.addr ≡ slice_get (with_leaf image root).recorded e.addr);
  holds = refl;
}

-- the image with the leaf and the root record stands for the new device
pub first_stands : (image : Image) (root : Root) (blocks order : ℕ) → IsWhole image → IsFirst root blocks order → root.addr ≡ length image.recorded → StandsBy (with_leaf image root) (new_device blocks order) root (parts_of root)
first_stands image root blocks order whole first at = stands_by_leaf (with_leaf image root) (new_device blocks order) root [] [] (first_leaf image root blocks order whole first at)
