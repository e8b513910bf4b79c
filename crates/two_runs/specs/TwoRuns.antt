-- Two runs with a loss of power between them.
use Rattle.std.specs.Prelude.{◌≢◌, ℕ, ◌+◌, ◌≤◌, List, ◌++◌, Option, length}
use Rattle.platform.specs.Image.{MayLeave}
use Rattle.platform.specs.History.{History, image_at, moment}
use Rattle.power_loss.specs.Loss.{Tore}
use Rattle.key_graph.specs.Chains.{KeyPremises}
use Rattle.page_store.specs.Kept.{Kept}
use Rattle.page_store.specs.Keeping.{DrewAll, HandedOver}
use Rattle.page_store.specs.Disclosing.{DisclosesOn}
use Rattle.sdbt_base.specs.Arrays.{State, Device, closed}
use Rattle.script_lang.specs.Answers.{IsMark}
use Rattle.script_lang.specs.Replies.{Reply}
use Rattle.device_terms.specs.Served.{IsServedImage}
use Rattle.session_calls.specs.Handed.{IsBlamedAt}
use Rattle.sdbt_base.specs.Counts.{Counts}
use Rattle.device_cli.specs.World.{World}
use Rattle.device_cli.specs.Represents.{StandsFor}
use Rattle.device_cli.specs.Ran.{AnswersScript, AnswersFrom}

-- what a loss of power left stands for the device after so many of these replies; the run over it answers from that
-- device on, without a session
pub record GoesOnFrom (entry : State) (lines : List (List ℕ)) (replies : List Reply) (mark : ℕ) (cut new : World) (status : ℕ) (others : List (List ℕ)) (answers : List Reply) (part : List ℕ) : Type 0 where
  pub between : Option Device
  pub is_mark : IsMark entry lines replies mark between
  pub stands : StandsFor cut.history.present between
  pub answered : AnswersFrom cut new status (closed between) others answers part

-- where the power is lost at the exit of a run, the next one goes on from the device after all of its replies, or after
-- those and one more
pub record GoesOn (entry : State) (lines : List (List ℕ)) (replies : List Reply) (cut new : World) (status : ℕ) (others : List (List ℕ)) (answers : List Reply) (part : List ℕ) : Type 0 where
  pub ahead : List Reply
  pub one_ahead : length ahead ≤ 1
  pub mark : ℕ
  pub from : length replies ≤ mark
  pub goes : GoesOnFrom entry lines (replies ++ ahead) mark cut new status others answers part

-- a run over what is left when the power is lost at one moment of another
abbrev pub Resumes : State → List (List ℕ) → List Reply → World → ℕ → ℕ → Type 0
Resumes entry lines replies mid i mark =
    (cut new : World) (status : ℕ) (left left_now written written_now : Option (List ℕ)) → MayLeave (image_at mid.history i) cut.history.present
    → (run : AnswersScript (Unit {0}) cut new status left left_now written written_now)
    → GoesOnFrom entry lines replies mark cut new status run.lines run.replies run.part

-- where the power is lost at any moment of a run, whatever run comes next goes on from a device which that run passed,
-- each later moment from the same or a later one
pub record GoesOnAnywhere (entry : State) (lines : List (List ℕ)) (replies : List Reply) (old mid : World) : Type 0 where
  pub ahead : List Reply
  pub one_ahead : length ahead ≤ 1
  pub mark : ℕ → ℕ
  pub rises : (i j : ℕ) → i ≤ j → mark i ≤ mark j
  pub within : (i : ℕ) → mark i ≤ length replies + length ahead
  pub each : (i : ℕ) → moment old.history ≤ i → i ≤ moment mid.history → Resumes entry lines (replies ++ ahead) mid i (mark i)

-- a run that was given no words ends with a status that names an object only where the count of faults of that object rose, and that of no other; at 0 none rose
pub record HasCause (status : ℕ) (before now : Counts) : Type 0 where
  pub words : status ≢ 2
  pub blame : IsBlamedAt status before now

-- the same of two runs, each with an input of its own
pub record HaveCauses (first second : ℕ) (before now : Counts) (other other_now : ℕ) : Type 0 where
  pub between : Counts
  pub one : HasCause first before between
  pub two : HasCause second (record between { input = other }) (record now { input = other_now })

-- each run drew some keys, and each page that it handed over is a record sealed under one of those; where the image at the start stands for a device which can be
-- served, the two runs disclose their trees and no more, under the premises on the keys that this image keeps with all that were drawn, which
-- are kept at the end
pub record DisclosesTwice (drawn drawn_now : Option (List (List ℕ))) (old mid cut new : History) : Type 0 where
  pub one : List (List ℕ)
  pub two : List (List ℕ)
  pub drew : DrewAll drawn (one ++ two) drawn_now
  pub handed_first : HandedOver one old.present mid.present
  pub handed_second : HandedOver two cut.present new.present
  pub kept : (device : Option Device) → StandsFor old.present device → IsServedImage old.present
      → (keys : List (List ℕ)) → Kept keys old.present → Kept ((keys ++ one) ++ two) new.present
  pub only : (device : Option Device) → StandsFor old.present device → IsServedImage old.present
      → (keys : List (List ℕ)) → Kept keys old.present → KeyPremises ((keys ++ one) ++ two) new.present.recorded → DisclosesOn keys one old mid cut new

-- the first run answers its script and ends; the power is lost; over what is left the second run answers its own
pub record TwoRuns (torn : List ℕ) (drawn drawn_now : Option (List (List ℕ))) (old new : World) (first second : ℕ) (left left_now other other_now written written_now : Option (List ℕ)) : Type 0 where
  pub mid : World
  pub cut : World
  pub written_then : Option (List ℕ)
  pub one : AnswersScript (Unit {0}) old mid first left left_now written written_then
  pub lost : Tore torn mid.history.present cut.history.present
  pub two : AnswersScript (Unit {0}) cut new second other other_now written_then written_now
  pub goes_on : (there : Option Device) → StandsFor old.history.present there → IsServedImage old.history.present
      → GoesOn (closed there) one.lines one.replies cut new second two.lines two.replies two.part
  pub discloses : DisclosesTwice drawn drawn_now old.history mid.history cut.history new.history
  -- the same, had the power been lost at any other moment of the first run
  pub anywhere : (there : Option Device) → StandsFor old.history.present there → IsServedImage old.history.present
      → GoesOnAnywhere (closed there) one.lines one.replies old mid
