-- What a record says, and its one spelling.
use Rattle.std.specs.Prelude.{◌≡◌, ℕ, ◌+◌, ◌-◌, ◌*◌, ◌<◌, ◌≤◌, List, [], ◌∷◌, ◌++◌, All, length, map, replicate, codes}
use Rattle.std.specs.Int.{w16, w64, to_be_bytes}
use Rattle.std.specs.List.{concat, flat_map}
use Rattle.std.specs.List.Sorted.{IsStrictlyIncreasing}
use Rattle.sdbt_base.specs.Bytes.{IsBytes}
use Rattle.sdbt_base.specs.Keys.{key_size, entry_size, most_entries, IsKeyOf}
use Rattle.record_versions.specs.Versions.{IsVersion}
use Rattle.node_codec.specs.declared.body.Entry.{Entry}
use Rattle.node_codec.specs.declared.body.Body.{Body}
use Rattle.node_codec.specs.declared.body.Body.TheVariants as bodies

-- the value of a record: a data record of a block and its content, or a node of a level and its entries
pub data Record : Type 0 where
  DataRecord : (block : ℕ) (content : List ℕ) → Record
  NodeRecord : (level : ℕ) (entries : List Entry) → Record

-- the value that a body stands for, with the bytes behind the head
abbrev pub value_of : Body → List ℕ → Record
value_of (bodies.Block block) payload = DataRecord block payload
value_of (bodies.Node node) payload = NodeRecord node.level node.entries.items

-- the version of a body: that of the node. A data record is the same in both
abbrev pub version_in : Body → ℕ
version_in (bodies.Block block) = 1
version_in (bodies.Node node) = node.version

-- a body of this version
abbrev pub IsOfVersion : ℕ → Body → Type 0
IsOfVersion version (bodies.Block block) = Unit {0}
IsOfVersion version (bodies.Node node) = node.version ≡ version

-- the fields of a record's head, in order
unfoldable pub head_fields : ℕ → ℕ → ℕ → ℕ → ℕ → List (List ℕ)
head_fields addr kind level count block =
    codes "SDBTREC1" ∷ to_be_bytes w64 addr ∷ (kind ∷ []) ∷ (level ∷ []) ∷ to_be_bytes w16 count ∷ replicate 4 0 ∷ to_be_bytes w64 block ∷ []

-- the 32 bytes of a record's head
abbrev pub head_bytes : ℕ → ℕ → ℕ → ℕ → ℕ → List ℕ
head_bytes addr kind level count block = concat (head_fields addr kind level count block)

-- the fields of an entry, in order
unfoldable pub entry_fields : Entry → List (List ℕ)
entry_fields entry = to_be_bytes w64 entry.low ∷ to_be_bytes w64 entry.addr ∷ entry.key ∷ []

-- the bytes of an entry: 48, and in version 2 80
abbrev pub entry_bytes : Entry → List ℕ
entry_bytes entry = concat (entry_fields entry)

-- the 4,096 bytes of a node's entries: behind them all is zero
abbrev pub entries_bytes : ℕ → List Entry → List ℕ
entries_bytes version entries = flat_map entry_bytes entries ++ replicate (4096 - entry_size version * length entries) 0

-- the kind of a node
abbrev pub kind_of_node : ℕ → ℕ
kind_of_node version = version + 1

-- the 4,128 bytes of the record of an address with a value, in a version
unfoldable pub record_bytes : ℕ → ℕ → Record → List ℕ
record_bytes version addr (DataRecord block content) = head_bytes addr 1 0 0 block ++ content
record_bytes version addr (NodeRecord level entries) = head_bytes addr (kind_of_node version) level (length entries) 0 ++ entries_bytes version entries

-- the keys have as many bytes as those of the version: digests exactly in version 2
abbrev pub AreSized : ℕ → List Entry → Type 0
AreSized version entries = All (λ e. length e.key ≡ key_size version) entries

-- a node's version, level and entries are in range, at an address
pub record FitsNode (version addr level : ℕ) (entries : List Entry) : Type 0 where
  pub version_known : IsVersion version
  pub level_least : 1 ≤ level
  pub level_most : level ≤ 20
  pub count : length entries ≤ most_entries version
  pub ascend : IsStrictlyIncreasing (map (λ e. e.low) entries)
  pub lows : All (λ e. e.low < 1048576) entries
  pub below : All (λ e. e.addr < addr) entries
  pub sized : AreSized version entries

-- a value is in range, at an address
abbrev pub FitsRecord : ℕ → ℕ → Record → Type 0
FitsRecord version addr (DataRecord block content) = (block < 1048576) × IsBytes 4096 content
FitsRecord version addr (NodeRecord level entries) = FitsNode version addr level entries × All (λ e. IsKeyOf version e.key) entries
