-- A run over the files that a loss of power left of another one.
use Rattle.std.specs.Prelude.{◌≡◌, ◌≤◌, ◌<◌, ◌↔◌, ◌⊎◌, ◌∷◌, [], ◌++◌, ◌+◌, ℕ, min, List, Option, All, Contains, length}
use Rattle.sdbt_base.specs.Arrays.{State, Device, closed}
use Rattle.sdbt_base.specs.Keys.{bare}
use Rattle.platform.specs.Image.{Image}
use Rattle.platform.specs.History.{History, During, image_at, moment}
use Rattle.root_codec.specs.declared.root.Root.{Root}
use Rattle.key_graph.specs.Chains.{Reached}
use Rattle.page_store.specs.Kept.{IsRootOf, Kept}
use Rattle.page_store.specs.Keeping.{DrewAll, HandedOver}
use Rattle.page_store.specs.Floors.{IsInTree, floor_of}
use Rattle.page_store.specs.Disclosing.{DisclosesTrees}
use Rattle.device_terms.specs.Served.{IsServedImage}
use Rattle.sdbt_base.specs.Counts.{Counts}
use Rattle.script_lang.specs.Replies.{Reply}
use Rattle.device_cli.specs.World.{World}
use Rattle.device_cli.specs.Represents.{StandsFor}
use Rattle.device_cli.specs.Ran.{AnswersScript}
use Rattle.two_runs.specs.TwoRuns.{GoesOnFrom, HasCause}
use Rattle.folder_platform.specs.Files.{Files}
use Rattle.folder_platform.specs.Loss.{AreLeft, IsLeftAt, opened}
use Rattle.folder_runs.specs.Chains.{ReachedOver, ReachedFirst, PremisesOver}

-- ---- answers

-- whatever run is opened over what is left at one moment goes on from the device after so many of these replies
abbrev pub Resumes : State → List (List ℕ) → List Reply → World → ℕ → ℕ → Type 0
Resumes entry lines replies mid i mark =
    (left : Files) (cut new : World) (status : ℕ) (given given_now written written_now : Option (List ℕ)) → AreLeft (image_at mid.history i) left → cut.history.present ≡ opened left
    → (run : AnswersScript (Unit {0}) cut new status given given_now written written_now)
    → GoesOnFrom entry lines replies mark cut new status run.lines run.replies run.part

-- where the power is lost at any moment of a run, whatever run is opened over the files that are left goes on from a device which that run
-- passed, each later moment from the same or a later one; at the exit from the one after all of its replies, or after those and one more
pub record GoesOnOver (entry : State) (lines : List (List ℕ)) (replies : List Reply) (old mid : World) : Type 0 where
  pub ahead : List Reply
  pub one_ahead : length ahead ≤ 1
  pub mark : ℕ → ℕ
  pub rises : (i j : ℕ) → i ≤ j → mark i ≤ mark j
  pub within : (i : ℕ) → mark i ≤ length replies + length ahead
  pub each : (i : ℕ) → moment old.history ≤ i → i ≤ moment mid.history → Resumes entry lines (replies ++ ahead) mid i (mark i)
  pub exit : ℕ
  pub from : length replies ≤ exit
  pub at_exit : Resumes entry lines (replies ++ ahead) mid (moment mid.history) exit

-- both runs answer their scripts; and whatever run comes after the first one goes on from what is left of it
pub record RunsOver (old mid cut new : World) (first second : ℕ) (left left_now other other_now written written_now : Option (List ℕ)) : Type 0 where
  pub written_then : Option (List ℕ)
  pub one : AnswersScript (Unit {0}) old mid first left left_now written written_then
  pub two : AnswersScript (Unit {0}) cut new second other other_now written_then written_now
  pub goes_on : (there : Option Device) → StandsFor old.history.present there → IsServedImage old.history.present
      → GoesOnOver (closed there) one.lines one.replies old mid

-- each run ends with a status that names an object only where the count of faults of that object rose, and that of no other; at 0 none rose: of the
-- tape, the output and the ledger, which both runs have, from what it was between them, or to that
pub record HaveCausesOver (first second : ℕ) (before : Counts) (platform input restarted other : ℕ) (now : Counts) : Type 0 where
  pub between : Counts
  pub one : HasCause first before (record between { platform = platform; input = input })
  pub two : HasCause second (record between { platform = restarted; input = other }) now

-- ---- ledgers

-- the files are what is left where the power is lost at the exit of a run: by the image of then, or, where that is told, by the image of a moment since when no page was
-- handed over, whose root record is found
abbrev pub AreLeftAtExit : Type 0 → History → History → Files → Type 0
AreLeftAtExit tells old new left = AreLeft new.present left ⊎ (tells × IsLeftAt old new new.present.recorded left)

-- ---- what pages disclose

-- one run was opened over the files that are left at one moment of another
pub record IsOpenedAfter (old mid cut : History) (at : ℕ) (left : Files) : Type 0 where
  pub from : moment old ≤ at
  pub to : at ≤ moment mid
  pub are : AreLeft (image_at mid at) left
  pub opened : cut.present ≡ opened left

-- the keys reach, over the pages of both runs, what they reached over those from before them
abbrev pub ReachNoMoreOver : List (List ℕ) → List (List ℕ) → Image → Image → Type 0
ReachNoMoreOver keys first before after =
    (roots : List (List ℕ)) → All (Contains keys) roots → (addr : ℕ) → ReachedOver roots first after.recorded addr ↔ Reached roots before.recorded addr

-- What two runs disclose, of which the second was opened over what is left at one moment of the first. Chains go over all pages: those
-- handed over in the first run until then, lost ones too, and those that the second found and handed over.
pub record DisclosesOver (keys one : List (List ℕ)) (at : ℕ) (old mid cut new : History) : Type 0 where
  pub first : DisclosesTrees keys old mid
  pub second : DisclosesTrees (keys ++ one) cut new
  -- the key in the cell at a moment of either run reaches exactly the tree of that moment
  pub still : (i j : ℕ) → moment old ≤ i → i ≤ at → moment cut ≤ j → j ≤ moment new → (root : Root) → IsRootOf (image_at mid i) root
      → (addr : ℕ) → ReachedOver (bare root.key ∷ []) (image_at mid at).recorded (image_at new j).recorded addr ↔ IsInTree (image_at mid i) addr
  pub exact : (i j : ℕ) → moment cut ≤ i → i ≤ j → j ≤ moment new → (root : Root) → IsRootOf (image_at new i) root
      → (addr : ℕ) → ReachedOver (bare root.key ∷ []) (image_at mid at).recorded (image_at new j).recorded addr ↔ IsInTree (image_at new i) addr
  -- of the pages of the first run the second one's keys reach none that was lost, and none that was deleted at a moment of the first
  pub lost : (j : ℕ) → moment cut ≤ j → j ≤ moment new → (root : Root) → IsRootOf (image_at new j) root
      → (addr : ℕ) → ReachedFirst (bare root.key ∷ []) (image_at mid at).recorded (image_at new j).recorded addr → addr < length cut.present.recorded
  pub deleted : (i j : ℕ) → moment old ≤ i → i ≤ at → moment cut ≤ j → j ≤ moment new → (root : Root) → IsRootOf (image_at new j) root
      → (addr : ℕ) → ReachedFirst (bare root.key ∷ []) (image_at mid at).recorded (image_at new j).recorded addr → addr < floor_of old mid i → IsInTree (image_at mid i) addr
  -- floors of the first run are no higher than those of the second, but for pages that were lost
  pub floors : (i j : ℕ) → moment old ≤ i → i ≤ at → moment cut ≤ j → j ≤ moment new → min (floor_of old mid i) (length cut.present.recorded) ≤ floor_of cut new j
  -- the keys from before both runs reach what they reached before them
  pub no_more : During cut new (ReachNoMoreOver keys (image_at mid at).recorded old.present)

-- each run drew some keys, and each page that it handed over is a record sealed under one of those; where the image at the start stands for a
-- device which can be served, the two runs disclose their trees and no more, under the premises on the keys that this image keeps with
-- all that were drawn, which are kept at the end
pub record DisclosesRuns (drawn drawn_now : Option (List (List ℕ))) (at : ℕ) (old mid cut new : History) : Type 0 where
  pub one : List (List ℕ)
  pub two : List (List ℕ)
  pub drew : DrewAll drawn (one ++ two) drawn_now
  pub handed_first : HandedOver one old.present mid.present
  pub handed_second : HandedOver two cut.present new.present
  pub kept : (device : Option Device) → StandsFor old.present device → IsServedImage old.present
      → (keys : List (List ℕ)) → Kept keys old.present → Kept ((keys ++ one) ++ two) new.present
  pub only : (device : Option Device) → StandsFor old.present device → IsServedImage old.present
      → (keys : List (List ℕ)) → Kept keys old.present → PremisesOver ((keys ++ one) ++ two) mid.present.recorded new.present.recorded
      → DisclosesOver keys one at old mid cut new
