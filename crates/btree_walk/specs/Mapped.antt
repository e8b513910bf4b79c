-- What a tree maps a block to, and what a listing of it has.
use Rattle.std.specs.Prelude.{◌≡◌, ◌≢◌, ◌<◌, ◌≤◌, ℕ, List, Option, None, Some, Bool, true, false, All, Contains, map}
use Rattle.std.specs.List.{filter}
use Rattle.sdbt_base.specs.Traces.{TraceEntry, DataOf, NodeOver}
use Rattle.node_codec.specs.declared.body.Entry.{Entry}
use Rattle.page_store.specs.Tree.{Place, Mapped}

-- a mapped block, as the entry of its data record has it
abbrev pub mapped_as : Entry → List ℕ → Mapped
mapped_as entry content = record { block = entry.low; addr = entry.addr; key = entry.key; content = content }

-- the entry of a tree for a block, or none
abbrev pub IsMappedAs : List Mapped → ℕ → Option Entry → Type 0
IsMappedAs mapped block None = All (λ m. m.block ≢ block) mapped
IsMappedAs mapped block (Some entry) = (entry.low ≡ block) × ((content : List ℕ) × Contains mapped (mapped_as entry content))

-- a mapped block, with where its data record is and under which key
abbrev pub entry_of : Mapped → Entry
entry_of m = record { low = m.block; addr = m.addr; key = m.key }

abbrev pub is_node : TraceEntry → Bool
is_node (DataOf block) = false
is_node (NodeOver children) = true

-- the addresses of the nodes among places, in order
abbrev pub node_addrs : List Place → List ℕ
node_addrs places = map (λ p. p.addr) (filter (λ p. is_node p.trace) places)

-- no page is, under one key, at two places of these
abbrev pub ApartByKey : Place → Place → Type 0
ApartByKey one other = ¬ ((one.addr ≡ other.addr) × (one.key ≡ other.key))

-- an entry of a lower block than another
abbrev pub ComesBefore : Entry → Entry → Type 0
ComesBefore one other = one.low < other.low

-- an entry of a block within bounds, whose data record lies below an address
pub record IsListedWithin (low high addr : ℕ) (entry : Entry) : Type 0 where
  pub from : low ≤ entry.low
  pub to : entry.low < high
  pub under : entry.addr < addr
