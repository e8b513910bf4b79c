-- The tree that sealed nodes and what is below them make.
use Rattle.std.specs.Prelude.{◌≡◌, ℕ, suc, List, [], ◌∷◌, ◌++◌, Contains, length, map}
use Rattle.std.specs.List.{AllByRecursion}
use Rattle.std.specs.List.Sorted.{IsPermutation}
use Rattle.sdbt_base.specs.Keys.{bare, key_size, version_of}
use Rattle.sdbt_base.specs.Traces.{NodeOver}
use Rattle.node_codec.specs.declared.body.Entry.{Entry}
use Rattle.node_codec.specs.Record.{NodeRecord, FitsRecord}
use Rattle.page_digest.specs.Digest.{FitsDigest}
use Rattle.page_store.specs.Places.{IsRecordAt}
use Rattle.page_store.specs.Tree.{Parts, Place, joined}
use Rattle.btree_twigs.specs.Stubs.{Stub}
use Rattle.shadow_commit.specs.Sealed.{Sealed, page_of}

-- the page of a sealed node is there
abbrev pub IsNodeAt : List (List ℕ) → Sealed → Type 0
IsNodeAt pages n = IsRecordAt pages n.addr n.key (NodeRecord n.level n.entries)

-- a sealed node as a place of a tree
abbrev pub place_of : Sealed → Place
place_of n = record { addr = n.addr; key = n.key; trace = NodeOver (map (λ (e : Entry). e.addr) n.entries) }

-- a tree maps what the parts below the nodes in memory map, in their order; its places are the sealed nodes and those of these parts
pub record AreParts (ns : List Sealed) (each : List Parts) (parts : Parts) : Type 0 where
  pub mapped : parts.mapped ≡ (joined each).mapped
  pub places : IsPermutation (map place_of ns ++ (joined each).places) parts.places

-- nodes have consecutive addresses
abbrev pub AreFrom : ℕ → List Sealed → Type 0
AreFrom first [] = Unit {0}
AreFrom first (n ∷ ns) = (n.addr ≡ first) × AreFrom (suc first) ns

-- a sealed node's record is in range, and its key is one of the version, with the digest of the node's page where it has one
pub record Fits (version : ℕ) (n : Sealed) : Type 0 where
  pub in_range : FitsRecord (version_of n.key) n.addr (NodeRecord n.level n.entries)
  pub sized : length n.key ≡ key_size version
  pub digested : FitsDigest n.key (page_of n)

-- nodes have consecutive addresses, and their records are in range and of this version
pub record AreInOrder (version first : ℕ) (ns : List Sealed) : Type 0 where
  pub from : AreFrom first ns
  pub fits : AllByRecursion (Fits version) ns

-- every key in a node's entries is, without its digest, one of these, or that of a node before it
abbrev pub KeysAreFrom : List (List ℕ) → List Sealed → Type 0
KeysAreFrom keys [] = Unit {0}
KeysAreFrom keys (n ∷ ns) = AllByRecursion (λ (e : Entry). Contains keys (bare e.key)) n.entries × KeysAreFrom (keys ++ bare n.key ∷ []) ns

-- the keys of places, without digests
abbrev pub keys_at : List Stub → List (List ℕ)
keys_at places = map (λ (s : Stub). bare s.key) places

-- nodes of a version in order, and every key in their entries is that of one of these places or of a node before
pub record AreNodesOver (version first : ℕ) (places : List Stub) (ns : List Sealed) : Type 0 where
  pub order : AreInOrder version first ns
  pub keys : KeysAreFrom (keys_at places) ns
