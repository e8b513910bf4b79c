-- Where a block lies among the entries of a node.
use Rattle.std.specs.Prelude.{◌≡◌, ◌≢◌, ◌<◌, ◌≤◌, ◌-◌, ℕ, List, ◌∷◌, ◌++◌, Option, None, Some, All, Contains}
use Rattle.node_codec.specs.declared.body.Entry.{Entry}
use Rattle.page_store.specs.declared.wants.Want.{Want}
use Rattle.page_store.specs.Places.{child_want}
use Rattle.page_store.specs.Tree.{bound_of}
use Rattle.btree_walk.specs.declared.turns.Turn.{Turn}
use Rattle.btree_walk.specs.declared.turns.Turn.TheVariants.{Found, Below}

-- the entry of a node below which a block lies, and where that ends: with the low of the entry that follows, or with the node
pub record IsWay (entries : List Entry) (high block : ℕ) (entry : Entry) (bound : ℕ) : Type 0 where
  pub before : List Entry
  pub after : List Entry
  pub split : entries ≡ before ++ entry ∷ after
  pub ends : bound ≡ bound_of after high
  pub from : entry.low ≤ block
  pub below : block < bound

-- the entry of a leaf for a block, or none
abbrev pub IsEntryOf : List Entry → ℕ → Option Entry → Type 0
IsEntryOf entries block None = All (λ e. e.low ≢ block) entries
IsEntryOf entries block (Some entry) = Contains entries entry × (entry.low ≡ block)

-- the way of a block goes below this entry of an inner node
pub record GoesBelow (want : Want) (entries : List Entry) (block : ℕ) (next : Want) (key : List ℕ) : Type 0 where
  pub entry : Entry
  pub bound : ℕ
  pub inner : 2 ≤ want.level
  pub way : IsWay entries want.high block entry bound
  pub next_is : next ≡ child_want want.most (want.level - 1) entry bound
  pub key_is : key ≡ entry.key

-- what a node says of a block: its entry, where the node is a leaf, or where to look next
abbrev pub IsTurn : Want → List Entry → ℕ → Turn → Type 0
IsTurn want entries block (Found found) = (want.level ≡ 1) × IsEntryOf entries block found
IsTurn want entries block (Below next key) = GoesBelow want entries block next key
