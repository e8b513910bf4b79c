-- To which moments of a run the replies to `seize` lines belong.
use Rattle.std.specs.Prelude.{◌≡◌, ℕ, ◌≤◌, List, [], ◌∷◌, ◌++◌, Option, None, Some, length}
use Rattle.std.specs.FinMap as map
use Rattle.platform.specs.Image.{Image}
use Rattle.platform.specs.History.{History, image_at, moment}
use Rattle.seizure.specs.Report.{Seized, IsSeizure, Begins}
use Rattle.seizure.specs.Opened.{count_of_kind, count_of_nodes}
use Rattle.key_graph.specs.Chains.{KeyPremises}
use Rattle.page_store.specs.Kept.{Kept}
use Rattle.page_store.specs.Keeping.{DrewAll}
use Rattle.device_terms.specs.Served.{IsServedImage}
use Rattle.sdbt_base.specs.Arrays.{Device}
use Rattle.script_lang.specs.Replies.{Reply}
use Rattle.script_lang.specs.Replies as replies
use Rattle.device_cli.specs.Pages.{Standing, TurnOn}
use Rattle.device_cli.specs.Represents.{StandsFor}

-- what a seizure of the image counts: its pages, and the nodes and the data records at which chains of opening from the key of the root
-- record in its cell end, over its readable pages
pub record IsCounted (image : Image) (pages nodes blocks : ℕ) : Type 0 where
  pub roots : List (List ℕ)
  pub begins : Begins (length image.recorded) image.cell [] roots
  pub seized : Seized
  pub exact : IsSeizure roots image.readable seized
  pub pages_are : pages ≡ seized.pages
  pub nodes_are : nodes ≡ count_of_nodes seized.opened
  pub blocks_are : blocks ≡ count_of_kind 1 seized.opened

-- the image stands for the device and has so many pages, and this is what a seizure of it counts
pub record IsSeized (device : Option Device) (pages : ℕ) (image : Image) (told nodes blocks : ℕ) : Type 0 where
  pub stands : StandsFor image device
  pub counted : IsCounted image told nodes blocks
  pub as_many : told ≡ pages

-- a reply to a `seize` line belongs to the image
abbrev pub IsToldOf : Option Device → ℕ → Image → Reply → Type 0
IsToldOf device pages image (replies.Seized told nodes blocks) = IsSeized device pages image told nodes blocks
IsToldOf device pages image _ = Unit {0}

-- the reply belongs to a moment, which is not before this one
pub record Saw (history : History) (from : ℕ) (device : Option Device) (pages : ℕ) (reply : Reply) : Type 0 where
  pub at : ℕ
  pub later : from ≤ at
  pub within : at ≤ moment history
  pub told : IsToldOf device pages (image_at history at) reply

-- these replies belong to the first of these lines, as in `AnswersOn`; and they belong to moments that ascend in the order of the lines: at that of
-- a `seize` line the image stands for the device in the state that this line meets, and has as many pages as it meets
abbrev pub SeenOn : ℕ → History → ℕ → Standing → List (List ℕ) → List Reply → Standing → Type 0
SeenOn capacity history from old lines [] new = new ≡ old
SeenOn capacity history from old [] (reply ∷ replies) new = ⊥
SeenOn capacity history from old (line ∷ lines) (reply ∷ replies) new =
    (saw : Saw history from old.state.device old.pages reply) × (mid : Standing) × TurnOn capacity old line reply mid
    × SeenOn capacity history saw.at mid lines replies new

-- how many blocks the device's map has
abbrev pub mapped_of : Option Device → ℕ
mapped_of None = 0
mapped_of (Some device) = map.len device.contents

-- at each moment from the one of old to the one of new at which the image stands for a device, and a read of each page gives what was handed over, a
-- seizure counts as many data records as the device's map has blocks
abbrev pub CountsMaps : History → History → Type 0
CountsMaps old new =
    (i : ℕ) → moment old ≤ i → i ≤ moment new → (device : Option Device) → StandsFor (image_at new i) device → (image_at new i).readable ≡ (image_at new i).recorded
    → (pages nodes blocks : ℕ) → IsCounted (image_at new i) pages nodes blocks → blocks ≡ mapped_of device

-- a run drew some keys; and over an image that stands for a device which can be served, with each list of keys that this image keeps, seizures at the
-- moments of the run count the maps of the devices, under the premises on all of these keys
pub record SeizesMaps (tells : Type 0) (drawn drawn_now : Option (List (List ℕ))) (old new : History) : Type 0 where
  pub grew : List (List ℕ)
  pub drew : DrewAll drawn grew drawn_now
  pub only : tells → (device : Option Device) → StandsFor old.present device → IsServedImage old.present
      → (keys : List (List ℕ)) → Kept keys old.present → KeyPremises (keys ++ grew) new.present.recorded → CountsMaps old new
