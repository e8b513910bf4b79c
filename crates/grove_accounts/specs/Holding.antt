-- What a tree that is partly in memory is over an image.
use Rattle.std.specs.Prelude.{◌≡◌, ◌≢◌, ◌<◌, ℕ, suc, List, [], All, AllPairs, length, slice_get}
use Rattle.sdbt_base.specs.Traces.{DataOf}
use Rattle.sdbt_base.specs.declared.lists.Unkept.{Unkept}
use Rattle.platform.specs.Image.{Image, IsEarlier}
use Rattle.node_codec.specs.Record.{DataRecord}
use Rattle.root_codec.specs.declared.root.Root.{Root}
use Rattle.page_store.specs.Places.{IsRecordAt}
use Rattle.page_store.specs.Tree.{Parts, Place, joined}
use Rattle.btree_twigs.specs.declared.twigs.Child.TheVariants.{Kept}
use Rattle.btree_twigs.specs.Stubs.{Stub}
use Rattle.btree_update.specs.declared.groves.Grove.{Grove}
use Rattle.btree_update.specs.Groves.{IsSound, Goes, places_of}
use Rattle.grove_accounts.specs.Below.{GroveHas}
use Rattle.grove_accounts.specs.Accounts.{Accounts}

-- each of these places is a page of its own that reads as it was recorded, and account is kept of what was let go of over the committed ones
pub record IsAccounted (image : Image) (head : ℕ) (committed places : List Place) (gone : List ℕ) (never : List Unkept) : Type 0 where
  pub apart : AllPairs (λ p q. p.addr ≢ q.addr) places
  pub below : All (λ p. p.addr < length image.recorded) places
  pub recorded : All (λ p. slice_get image.readable p.addr ≡ slice_get image.recorded p.addr) places
  pub accounts : Accounts head (length image.recorded) committed places gone never

-- the grove is the tree of a root record, whose committed tree has these places, with changes: these parts stand below its places on the medium
pub record HoldsTree (image : Image) (root : Root) (committed : List Place) (grove : Grove) (each : List Parts) : Type 0 where
  pub sound : IsSound grove
  pub order : grove.order ≡ root.order
  pub blocks : grove.blocks ≡ root.blocks
  pub head : grove.head ≡ root.head
  pub within : All (λ p. p.addr < root.head) committed
  pub has : GroveHas image.readable grove each
  pub accounted : IsAccounted image root.head committed (joined each).places grove.gone.items grove.never.items

-- a place of a data record
abbrev pub data_place : ℕ → ℕ → List ℕ → Place
data_place block addr key = record { addr = addr; key = key; trace = DataOf block }

-- a page came, which reads as it was recorded, and is the block's data record under the key
pub record Arrives (image later : Image) (block addr : ℕ) (key content : List ℕ) : Type 0 where
  pub earlier : IsEarlier image later
  pub one : length later.recorded ≡ suc (length image.recorded)
  pub new : addr ≡ length image.recorded
  pub there : IsRecordAt later.readable addr key (DataRecord block content)
  pub same : slice_get later.readable addr ≡ slice_get later.recorded addr

-- an update that was ready opened such places of the old tree, and made this of them
abbrev pub Turns : List (List ℕ) → ℕ → (Stub → Type 0) → (List Stub → Type 0) → Grove → Grove → Type 0
Turns pages block May Makes old new =
    Goes pages old.order old.level old.head block May Makes (places_of old) old.gone.items new.gone.items old.never.items new.never.items

-- a tree of the same size
pub record IsSameSize (old new : Grove) : Type 0 where
  pub sound : IsSound new
  pub order : new.order ≡ old.order
  pub blocks : new.blocks ≡ old.blocks
  pub head : new.head ≡ old.head

-- the root of a root record's tree as a place on the medium
abbrev pub root_stub : Root → Stub
root_stub root = record { level = root.level; low = 0; high = root.blocks; addr = root.addr; key = root.key }

-- the tree of a root record, with no node in memory, and nothing let go of
pub record IsTreeOf (root : Root) (grove : Grove) : Type 0 where
  pub sound : IsSound grove
  pub order : grove.order ≡ root.order
  pub blocks : grove.blocks ≡ root.blocks
  pub head : grove.head ≡ root.head
  pub level : grove.level ≡ root.level
  pub top : grove.top ≡ Kept 0 root.addr root.key
  pub none_gone : grove.gone.items ≡ []
  pub none_never : grove.never.items ≡ []
