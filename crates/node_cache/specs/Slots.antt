-- The slots behind a cache: which node stands in which, and in which order they were used.
use Rattle.std.specs.Prelude.{◌≡◌, ◌≢◌, ◌<◌, ◌⊎◌, ℕ, List, [], ◌∷◌, Option, None, Some, All, IsSome, length, nat_eq, replicate, slice_get}
use Rattle.std.specs.List.{IsDistinct}
use Rattle.std.specs.Map.{keys_of, lookup}
use Rattle.lru.specs.LruCache.{last_entry}
use Rattle.node_cache.specs.declared.slots.CachedNode.{CachedNode}

-- nothing is left of a node: its key is zeros, and it has no entries
pub record IsWipedOut (kept : CachedNode) : Type 0 where
  pub key : kept.key ≡ replicate 32 0
  pub entries : kept.node.entries.items ≡ []

-- the nodes in slots, in their order
abbrev pub nodes_in : List (ℕ × Option CachedNode) → List CachedNode
nodes_in [] = []
nodes_in ((number, None) ∷ slots) = nodes_in slots
nodes_in ((number, Some node) ∷ slots) = node ∷ nodes_in slots

-- the address of the node in a slot
abbrev pub address_in : Option CachedNode → Option ℕ
address_in None = None
address_in (Some node) = Some node.addr

-- behind an empty slot no node stands
abbrev pub IsFullFirst : List (ℕ × Option CachedNode) → Type 0
IsFullFirst [] = Unit {0}
IsFullFirst ((number, None) ∷ slots) = nodes_in slots ≡ []
IsFullFirst ((number, Some node) ∷ slots) = IsFullFirst slots

-- no two nodes have one address
abbrev pub AreApart : List CachedNode → Type 0
AreApart [] = Unit {0}
AreApart (node ∷ others) = All (λ other. other.addr ≢ node.addr) others × AreApart others

-- numbered slots in the order of their use, and for each number the address of the node that stands there
pub record IsTied (slots : List (ℕ × Option CachedNode)) (addrs : List (Option ℕ)) : Type 0 where
  pub listed : All (λ slot. slice_get addrs slot.0 ≡ Some (address_in slot.1)) slots
  pub each : (number : ℕ) → number < length addrs → IsSome (lookup (nat_eq number) slots)
  pub apart : AreApart (nodes_in slots)
  pub full_first : IsFullFirst slots
  pub count : length slots ≡ length addrs

-- no node of this address stands in a slot
abbrev pub IsUnlisted : List (Option ℕ) → ℕ → Type 0
IsUnlisted addrs addr = (number : ℕ) → slice_get addrs number ≢ Some (Some addr)

-- the slots have numbers of their own, and the last one has this
pub record IsLeastUsed (slots : List (ℕ × Option CachedNode)) (number : ℕ) : Type 0 where
  pub content : Option CachedNode
  pub is : last_entry slots ≡ Some (number, content)
  pub distinct : IsDistinct nat_eq (keys_of slots)

-- the slot that a node of an address is to have: its own, or the one that was used least
abbrev pub IsSlotFor : List (ℕ × Option CachedNode) → List (Option ℕ) → ℕ → ℕ → Type 0
IsSlotFor slots addrs addr number =
    (slice_get addrs number ≡ Some (Some addr)) ⊎ (IsUnlisted addrs addr × IsLeastUsed slots number)
