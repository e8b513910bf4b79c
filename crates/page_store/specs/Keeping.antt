-- What a call does to the keys that an image keeps.
use Rattle.std.specs.Prelude.{◌≡◌, ◌<◌, ◌≤◌, ℕ, List, ◌++◌, Option, Some, All, Contains, length, slice_get}
use Rattle.std.specs.Option.{option_map}
use Rattle.sdbt_base.specs.Keys.{bare}
use Rattle.platform.specs.Image.{Image}
use Rattle.platform.specs.History.{History, Extends, During}
use Rattle.seal_record.specs.Sealing.{masked}
use Rattle.node_codec.specs.Record.{Record, DataRecord, NodeRecord, FitsRecord, record_bytes}
use Rattle.sdbt_base.specs.Arrays.{Device}
use Rattle.page_store.specs.Stands.{Stands}
use Rattle.page_store.specs.Kept.{Kept}

-- the keys drawn now are those drawn before and these
abbrev pub DrewAll : Option (List (List ℕ)) → List (List ℕ) → Option (List (List ℕ)) → Type 0
DrewAll drawn keys drawn_now = drawn_now ≡ option_map (λ before. before ++ keys) drawn

-- the page is a record of its address, in any version, sealed under the key at this position of the list
pub record IsSealedRecord (keys : List (List ℕ)) (position addr : ℕ) (page : List ℕ) : Type 0 where
  pub key : List ℕ
  pub listed : slice_get keys position ≡ Some key
  pub version : ℕ
  pub value : Record
  pub in_range : FitsRecord version addr value
  pub spelled : masked key page ≡ record_bytes version addr value

-- a page of the later image that isn't one of the earlier
abbrev pub IsAdded : Image → Image → ℕ → Type 0
IsAdded before after addr = (length before.recorded ≤ addr) × (addr < length after.recorded)

-- each page that was added is a record of its address, sealed under a key at a position of its own
pub record HandedOver (keys : List (List ℕ)) (before after : Image) : Type 0 where
  pub position : ℕ → ℕ
  pub sealed : (addr : ℕ) (page : List ℕ) → IsAdded before after addr → slice_get after.recorded addr ≡ Some page → IsSealedRecord keys (position addr) addr page
  pub apart : (one other : ℕ) → IsAdded before after one → IsAdded before after other → position one ≡ position other → one ≡ other

-- each moment keeps the old keys with those that grew, and this holds of all of them at the end
pub record Keeps (keys grew : List (List ℕ)) (old new : History) (Done : List (List ℕ) → Type 0) : Type 0 where
  pub kept : During old new (Kept (keys ++ grew))
  pub done : Done (keys ++ grew)

-- a call drew some keys, and sealed each page that it handed over under one of them, on any image; and with them each moment of
-- the call keeps what the image from before kept, where it was ready for that
pub record KeepsKeys (tells : Type 0) (drawn drawn_now : Option (List (List ℕ))) (old new : History) (Ready Done : List (List ℕ) → Type 0) : Type 0 where
  pub grew : List (List ℕ)
  pub drew : DrewAll drawn grew drawn_now
  pub extends : tells → Extends old new
  pub handed : tells → HandedOver grew old.present new.present
  pub keeps : tells → (keys : List (List ℕ)) → Kept keys old.present → Ready keys → Keeps keys grew old new Done

-- every key that a record holds is listed, without its digest
abbrev pub ListsKeys : List (List ℕ) → Record → Type 0
ListsKeys keys (DataRecord block content) = Unit {0}
ListsKeys keys (NodeRecord level entries) = All (λ e. Contains keys (bare e.key)) entries

-- the image stands, and the record that its next page is to be has no key that isn't listed
pub record IsNextRecord (image : Image) (value : Record) (keys : List (List ℕ)) : Type 0 where
  pub device : Option Device
  pub stands : Stands image device
  pub listed : ListsKeys keys value
