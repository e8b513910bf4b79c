-- What is left of a volume that was destroyed.
use Rattle.std.specs.Prelude.{◌≤◌, ◌++◌, ℕ, List, [], ◌∷◌, Some, Contains}
use Rattle.sdbt_base.specs.Keys.{bare}
use Rattle.platform.specs.Image.{Image}
use Rattle.platform.specs.History.{History, image_at, moment}
use Rattle.key_graph.specs.Chains.{KeyPremises}
use Rattle.node_codec.specs.Record.{DataRecord}
use Rattle.page_store.specs.Disclosing.{DisclosesBy}
use Rattle.page_store.specs.Floors.{IsReached}
use Rattle.page_store.specs.Places.{IsRecordAt}
use Rattle.page_store.specs.Stands.{Stands}
use Rattle.device_course.specs.Held.{Held}
use Rattle.volume_lines.specs.Replies.{Reply}
use Rattle.volume_terms.specs.Destroyed.{IfDestroyed, IsFreeUntilTaken, LeavesNothing}
use Rattle.volume_terms.specs.Volumes.{IsBlockOf}
use Rattle.volume_desk.specs.Turns.{IsOfAll}

-- the page at the address is, under one of these keys, with whatever digest, a data record of the block
pub record IsDataPage (keys : List (List ℕ)) (pages : List (List ℕ)) (addr block : ℕ) : Type 0 where
  pub key : List ℕ
  pub listed : Contains keys (bare key)
  pub content : List ℕ
  pub is : IsRecordAt pages addr key (DataRecord block content)

-- no data page of the block that there is in one image is reached in another
abbrev pub ReachesNone : List (List ℕ) → ℕ → Image → Image → Type 0
ReachesNone keys block before later = (addr : ℕ) → IsDataPage keys before.recorded addr block → IsReached later addr → ⊥

-- the moment at which a volume was destroyed: the image stands for the device behind it, and its root record is of all the pages that there are
pub record IsEnd (old new : History) (after : Held) (at : ℕ) : Type 0 where
  pub from : moment old ≤ at
  pub to : at ≤ moment new
  pub stands : Stands (image_at new at) (Some after.device)
  pub all : IsOfAll (image_at new at)

-- a line destroyed a volume: what it left; when its commit ended; that each block of the volume is free from then on until a volume has it again; and that no data page of it that there
-- was then is reached then or later. Here these keys are such with which the run discloses its trees, and the premises on keys hold
pub record IsDestroyed (old new : History) (before : Held) (line : List ℕ) (after : Held) (states : List Held) : Type 0 where
  pub leaves : LeavesNothing before line after
  pub at : ℕ
  pub ends : IsEnd old new after at
  pub free : (block : ℕ) → IsBlockOf leaves.v block → IsFreeUntilTaken block states
  pub never : (keys grew : List (List ℕ)) → DisclosesBy keys grew old new → KeyPremises (keys ++ grew) new.present.recorded → (block : ℕ) → IsBlockOf leaves.v block
      → (later : ℕ) → at ≤ later → later ≤ moment new → ReachesNone (keys ++ grew) block (image_at new at) (image_at new later)

-- so did each line whose reply says so; behind the lines these states are ahead
abbrev pub AreDestroyed : History → History → Held → List (List ℕ) → List Reply → List Held → List Held → Type 0
AreDestroyed old new entry (line ∷ lines) (reply ∷ replies) (state ∷ states) ahead =
    IfDestroyed reply (IsDestroyed old new entry line state (states ++ ahead)) × AreDestroyed old new state lines replies states ahead
AreDestroyed old new entry [] replies states ahead = Unit {0}
AreDestroyed old new entry (line ∷ lines) [] states ahead = Unit {0}
AreDestroyed old new entry (line ∷ lines) (reply ∷ replies) [] ahead = Unit {0}
