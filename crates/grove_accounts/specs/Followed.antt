-- Where the places of a tree with changes come from, whatever the pages are: from its root record's tree, or they are data records that came after it.
use Rattle.std.specs.Prelude.{◌≡◌, ◌⊎◌, ◌≤◌, ℕ, suc, List, ◌∷◌, ◌++◌}
use Rattle.std.specs.List.{AllByRecursion}
use Rattle.node_codec.specs.declared.body.Entry.{Entry}
use Rattle.node_codec.specs.Record.{DataRecord, NodeRecord}
use Rattle.root_codec.specs.declared.root.Root.{Root}
use Rattle.page_store.specs.declared.wants.Want.{Want}
use Rattle.page_store.specs.Places.{FitsAt, IsRecordAt, root_want, child_want}
use Rattle.page_store.specs.Tree.{bound_of}
use Rattle.btree_twigs.specs.Stubs.{Stub}
use Rattle.btree_update.specs.declared.groves.Grove.{Grove}
use Rattle.btree_update.specs.GroveTree.{want_at, least_at}
use Rattle.btree_update.specs.Groves.{places_of}
use Rattle.grove_accounts.specs.Certs.{IsOwnStub}

-- a place of a root record's tree: it is reached from the root through nodes that fit
pub data IsReached (pages : List (List ℕ)) (root : Root) : Want → List ℕ → Type 0 where
  AtRoot : IsReached pages root (root_want root) root.key
  AtEntry : {want : Want} {key : List ℕ} (level : ℕ) (front : List Entry) (e : Entry) (back : List Entry) → IsReached pages root want key → FitsAt pages want key (NodeRecord (suc level) (front ++ e ∷ back)) →
      IsReached pages root (child_want root.order level e (bound_of back want.high)) e.key

-- a place of a tree whose root is at this level is one of the root record's tree; a data record has one block, wherever the next entry begins
pub record ComesFrom (pages : List (List ℕ)) (root : Root) (top : ℕ) (s : Stub) : Type 0 where
  pub high : ℕ
  pub ends : 1 ≤ s.level → high ≡ s.high
  pub reached : IsReached pages root (want_at root.order s.level s.low high s.addr (least_at root.order top s.level)) s.key

-- a data record that came after a root record with this head is there
pub record IsOwnRecord (pages : List (List ℕ)) (head : ℕ) (s : Stub) : Type 0 where
  pub own : IsOwnStub head s
  pub content : List ℕ
  pub there : IsRecordAt pages s.addr s.key (DataRecord s.low content)

-- a place is the one or the other
abbrev pub Follows : List (List ℕ) → Root → ℕ → Stub → Type 0
Follows pages root top s = ComesFrom pages root top s ⊎ IsOwnRecord pages root.head s

-- a tree is the one of a root record with changes, so far as these pages say
pub record FollowsTree (pages : List (List ℕ)) (root : Root) (grove : Grove) : Type 0 where
  pub order : grove.order ≡ root.order
  pub blocks : grove.blocks ≡ root.blocks
  pub head : grove.head ≡ root.head
  pub each : AllByRecursion (Follows pages root grove.level) (places_of grove)
