-- What is told of a page that was opened, and in which order.
use Rattle.std.specs.Prelude.{◌≡◌, ◌==◌, ◌<◌, ◌⊎◌, ◌↔◌, ◌||◌, Bool, ℕ, List, AllPairs, Contains, length}
use Rattle.std.specs.List.{filter}
use Rattle.key_graph.specs.Opening.{kind_of, block_of}
use Rattle.seizure.specs.declared.opened.Opened.{Opened}

-- what is told of a body at an address
abbrev pub told_of : ℕ → List ℕ → Opened
told_of addr body = record { addr = addr; kind = kind_of body; block = block_of body }

-- how many of them are of a kind
abbrev pub count_of_kind : ℕ → List Opened → ℕ
count_of_kind kind opened = length (filter (λ o. o.kind == kind) opened)

-- the kind of a node, in either version
abbrev pub is_node_kind : ℕ → Bool
is_node_kind kind = (kind == 2) || (kind == 3)

-- how many of them are nodes
abbrev pub count_of_nodes : List Opened → ℕ
count_of_nodes opened = length (filter (λ o. is_node_kind o.kind) opened)

-- one comes before another: by address, then by kind, then by block field
abbrev pub IsBefore : Opened → Opened → Type 0
IsBefore one next =
    (one.addr < next.addr)
    ⊎ ((one.addr ≡ next.addr) × ((one.kind < next.kind) ⊎ ((one.kind ≡ next.kind) × (one.block < next.block))))

-- a list has the items of another, each once, in order
pub record IsOrderOf (given list : List Opened) : Type 0 where
  pub same : (item : Opened) → Contains list item ↔ Contains given item
  pub ascends : AllPairs IsBefore list
