-- How nodes in memory are sealed: in post-order, each after all that is below it, at consecutive addresses.
use Rattle.std.specs.Prelude.{◌≡◌, ℕ, zero, suc, ◌+◌, List, [], ◌∷◌, ◌++◌, length, map}
use Rattle.sdbt_base.specs.Keys.{version_of, IsKeyOf}
use Rattle.platform.specs.Image.{Image}
use Rattle.seal_record.specs.Sealing.{masked}
use Rattle.node_codec.specs.declared.body.Entry.{Entry}
use Rattle.node_codec.specs.Record.{NodeRecord, record_bytes}
use Rattle.page_digest.specs.Digest.{FitsDigest}
use Rattle.btree_twigs.specs.declared.twigs.Child.{Child, Child-F, out-Child}
use Rattle.btree_twigs.specs.declared.twigs.Child.TheOpen.{Kept, Grown}
use Rattle.btree_twigs.specs.declared.twigs.Twig.{Twig}
use Rattle.btree_twigs.specs.Stubs.{children_of}

-- a sealed node: its address, the key of its page, and what its record says
pub record Sealed : Type 0 where
  pub addr : ℕ
  pub key : List ℕ
  pub level : ℕ
  pub entries : List Entry

-- its page: the node's record, of the version of its key, under this key
abbrev pub page_of : Sealed → List ℕ
page_of node = masked node.key (record_bytes (version_of node.key) node.addr (NodeRecord node.level node.entries))

-- the image with the pages of these nodes more
abbrev pub with_nodes : Image → List Sealed → Image
with_nodes image nodes = record image { recorded = image.recorded ++ map page_of nodes; readable = image.readable ++ map page_of nodes }

-- what was sealed of a first child, and then of the others
pub record SealsCons (One : List Sealed → Entry → Type 0) (Rest : ℕ → List Sealed → List Entry → Type 0) (first : ℕ) (nodes : List Sealed) (entries : List Entry) : Type 0 where
  pub here : List Sealed
  pub rest : List Sealed
  pub entry : Entry
  pub others : List Entry
  pub one : One here entry
  pub more : Rest (first + length here) rest others
  pub nodes_are : nodes ≡ here ++ rest
  pub entries_are : entries ≡ entry ∷ others

-- children were sealed from left to right, and these entries name them
abbrev pub SealsEach : {C : Type 0} → (ℕ → C → List Sealed → Entry → Type 0) → ℕ → List C → List Sealed → List Entry → Type 0
SealsEach Below first [] nodes entries = (nodes ≡ []) × (entries ≡ [])
SealsEach Below first (c ∷ cs) nodes entries = SealsCons (Below first c) (λ first. SealsEach Below first cs) first nodes entries

-- a node over these children was sealed right after them, at this address under this key, which in version 2 names the digest of its page
pub record SealsNode {C : Type 0} (version : ℕ) (Below : ℕ → C → List Sealed → Entry → Type 0) (level first : ℕ) (cs : List C) (nodes : List Sealed) (addr : ℕ) (key : List ℕ) : Type 0 where
  pub entries : List Entry
  pub below : List Sealed
  pub each : SealsEach Below first cs below entries
  pub addr_is : addr ≡ first + length below
  pub key_is : IsKeyOf version key
  pub digested : FitsDigest key (page_of (record { addr = addr; key = key; level = suc level; entries = entries }))
  pub is : nodes ≡ below ++ record { addr = addr; key = key; level = suc level; entries = entries } ∷ []

-- for a child on the medium nothing is sealed: its entry names it as before
pub record SealsKept (version low addr : ℕ) (key : List ℕ) (nodes : List Sealed) (entry : Entry) : Type 0 where
  pub none : nodes ≡ []
  pub key_is : IsKeyOf version key
  pub entry_is : entry ≡ record { low = low; addr = addr; key = key }

-- a child in memory was sealed with all below it, and the entry has its lower bound, address and key
pub record SealsGrown {C : Type 0} (version : ℕ) (Below : ℕ → C → List Sealed → Entry → Type 0) (level first low : ℕ) (cs : List C) (nodes : List Sealed) (entry : Entry) : Type 0 where
  pub low_is : entry.low ≡ low
  pub node : SealsNode version Below level first cs nodes entry.addr entry.key

-- of a child of a leaf, which is a data record
abbrev pub SealsDatum : {C T : Type 0} → ℕ → Child-F C T → List Sealed → Entry → Type 0
SealsDatum version (Kept low addr key) nodes entry = SealsKept version low addr key nodes entry
SealsDatum version (Grown low twig) nodes entry = ⊥

-- of a child of an inner node
abbrev pub SealsIn : ℕ → (ℕ → Child → List Sealed → Entry → Type 0) → ℕ → ℕ → Child-F Child Twig → List Sealed → Entry → Type 0
SealsIn version Below level first (Kept low addr key) nodes entry = SealsKept version low addr key nodes entry
SealsIn version Below level first (Grown low twig) nodes entry = SealsGrown version Below level first low (children_of twig) nodes entry

-- these nodes were sealed in this version of a child of this level, in post-order at the addresses from the first on, and this entry names it
unfoldable pub Seals : ℕ → ℕ → ℕ → Child → List Sealed → Entry → Type 0
Seals version zero first child nodes entry = SealsDatum version (out-Child child) nodes entry
Seals version (suc level) first child nodes entry = SealsIn version (Seals version level) level first (out-Child child) nodes entry
