-- What the pages of a run disclose to whoever has the root record's key.
use Rattle.std.specs.Prelude.{◌≤◌, ◌↔◌, ◌++◌, ℕ, List, Option, All, Contains, map}
use Rattle.sdbt_base.specs.Keys.{bare}
use Rattle.platform.specs.History.{History, image_at, moment}
use Rattle.root_codec.specs.declared.root.Root.{Root}
use Rattle.key_graph.specs.Chains.{Reached, KeyPremises}
use Rattle.page_store.specs.Kept.{IsRootOf, Kept}
use Rattle.page_store.specs.Floors.{IsInTree}
use Rattle.page_store.specs.Keeping.{DrewAll, HandedOver}
use Rattle.page_store.specs.Disclosing.{DisclosesBy}
use Rattle.device_terms.specs.Served.{IsServedImage}
use Rattle.sdbt_base.specs.Arrays.{Device}
use Rattle.page_store.specs.Stands.{Stands}

-- a root record that was seized at a moment
pub record Taken : Type 0 where
  pub at : ℕ
  pub root : Root

-- it was in the cell then; and the moment is none before that of old, and none after another one
pub record WasTaken (old new : History) (until : ℕ) (taken : Taken) : Type 0 where
  pub from : moment old ≤ taken.at
  pub before : taken.at ≤ until
  pub is : IsRootOf (image_at new taken.at) taken.root

-- the address is one of the tree of the moment of one of them
pub record IsOfOne (new : History) (all : List Taken) (addr : ℕ) : Type 0 where
  pub taken : Taken
  pub one : Contains all taken
  pub has : IsInTree (image_at new taken.at) addr

-- chains of opening from the keys of root records that were seized at some moments, without their digests, end, over the
-- pages of each later moment, at exactly the addresses of the trees of those moments: of a page whose life held no seizure
-- they never do
abbrev pub ReachesUnion : History → History → Type 0
ReachesUnion old new =
    (until : ℕ) → until ≤ moment new → (all : List Taken) → All (WasTaken old new until) all
    → (addr : ℕ) → Reached (map (λ t. bare t.root.key) all) (image_at new until).recorded addr ↔ IsOfOne new all addr

-- a run drew some keys, and each page that it handed over is a record sealed under one of them, on any image; and over an image that stands
-- for a device which can be served, with each list of keys that this image keeps, it discloses its trees and no more; so do, under the premises on
-- keys, the root records of several moments
pub record DisclosesTree (tells : Type 0) (drawn drawn_now : Option (List (List ℕ))) (old new : History) : Type 0 where
  pub grew : List (List ℕ)
  pub drew : DrewAll drawn grew drawn_now
  pub handed : tells → HandedOver grew old.present new.present
  pub only : tells → (device : Option Device) → Stands old.present device → IsServedImage old.present
      → (keys : List (List ℕ)) → Kept keys old.present → DisclosesBy keys grew old new
  pub several : tells → (device : Option Device) → Stands old.present device → IsServedImage old.present
      → (keys : List (List ℕ)) → Kept keys old.present → KeyPremises (keys ++ grew) new.present.recorded → ReachesUnion old new
