-- The parts of a record, as the code reads and writes them.
use Rattle.std.specs.Prelude.{◌≡◌, ℕ, ◌+◌, ◌^◌, ◌<◌, ◌≤◌, List, [], ◌∷◌, All, length, map, take, drop, replicate, codes}
use Rattle.std.specs.List.Sorted.{IsStrictlyIncreasing}
use Rattle.std.specs.Int.{w16, w64, to_be_bytes}
use Rattle.sdbt_base.specs.Keys.{key_size, most_entries, IsKeyOf}
use Rattle.node_codec.specs.declared.body.Entry.{Entry}
use Rattle.node_codec.specs.declared.head.Head.{Head}
use Rattle.node_codec.specs.Record.{Record, DataRecord, NodeRecord, head_bytes, entries_bytes, kind_of_node}

-- so many bytes, from a place on
abbrev pub part : ℕ → ℕ → List ℕ → List ℕ
part at size bytes = take size (drop at bytes)

-- the 32 bytes of a head
abbrev pub bytes_of_head : Head → List ℕ
bytes_of_head head = head_bytes head.addr head.kind head.level head.count head.block

-- the fields that are the same in each head
pub record IsFramed (bytes : List ℕ) : Type 0 where
  pub stamp : part 0 8 bytes ≡ codes "SDBTREC1"
  pub gap : part 20 4 bytes ≡ replicate 4 0

-- each other field is that of the head
pub record SpellsHead (bytes : List ℕ) (head : Head) : Type 0 where
  pub addr : part 8 8 bytes ≡ to_be_bytes w64 head.addr
  pub kind : part 16 1 bytes ≡ head.kind ∷ []
  pub level : part 17 1 bytes ≡ head.level ∷ []
  pub count : part 18 2 bytes ≡ to_be_bytes w16 head.count
  pub block : part 24 8 bytes ≡ to_be_bytes w64 head.block
  pub addr_below : head.addr < 2 ^ 64
  pub count_below : head.count < 2 ^ 16
  pub block_below : head.block < 2 ^ 64

-- what a machine can hold of an entry
pub record IsEntry (version : ℕ) (entry : Entry) : Type 0 where
  pub low : entry.low < 2 ^ 64
  pub addr : entry.addr < 2 ^ 64
  pub key : IsKeyOf version entry.key

-- the head is that of a data record at an address
pub record IsDataHead (own : ℕ) (head : Head) : Type 0 where
  pub addr : head.addr ≡ own
  pub kind : head.kind ≡ 1
  pub level : head.level ≡ 0
  pub count : head.count ≡ 0
  pub block : head.block < 1048576

-- the head is that of a node of a version at an address
pub record IsNodeHead (version own : ℕ) (head : Head) : Type 0 where
  pub addr : head.addr ≡ own
  pub kind : head.kind ≡ kind_of_node version
  pub level_least : 1 ≤ head.level
  pub level_most : head.level ≤ 20
  pub count : head.count ≤ most_entries version
  pub block : head.block ≡ 0

-- the entries are those of a node of a version at an address
pub record FitsEntries (version addr : ℕ) (entries : List Entry) : Type 0 where
  pub ascend : IsStrictlyIncreasing (map (λ e. e.low) entries)
  pub lows : All (λ e. e.low < 1048576) entries
  pub below : All (λ e. e.addr < addr) entries
  pub keys : All (λ e. IsKeyOf version e.key) entries

-- the head and the payload are those of a value at an address
abbrev pub HasParts : ℕ → ℕ → List ℕ → List ℕ → Record → Type 0
HasParts version addr front payload (DataRecord block content) = (front ≡ head_bytes addr 1 0 0 block) × (payload ≡ content)
HasParts version addr front payload (NodeRecord level entries) = (front ≡ head_bytes addr (kind_of_node version) level (length entries) 0) × (payload ≡ entries_bytes version entries)

-- an entry is one of a node of a version at an address, beside its neighbours
pub record IsWithin (version addr : ℕ) (entry : Entry) : Type 0 where
  pub low : entry.low < 1048576
  pub below : entry.addr < addr
  pub sized : length entry.key ≡ key_size version

-- the entries are in range, and their lows ascend strictly from a number on
unfoldable pub RangeFrom : ℕ → ℕ → ℕ → List Entry → Type 0
RangeFrom version addr least [] = Unit {0}
RangeFrom version addr least (entry ∷ entries) = (least ≤ entry.low) × IsWithin version addr entry × RangeFrom version addr (entry.low + 1) entries
