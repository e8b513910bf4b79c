-- What is promised of every part of a run over a device, whoever it serves.
use Rattle.std.specs.Prelude.{◌≡◌, ℕ, List, Option, None, Some, length}
use Rattle.platform.specs.History.{History, During}
use Rattle.platform.specs.Runs.{Passes}
use Rattle.sdbt_base.specs.Arrays.{Device, State, closed}
use Rattle.page_store.specs.Stands.{Stands}
use Rattle.page_store.specs.Kept.{Kept}
use Rattle.page_store.specs.Keeping.{DrewAll, HandedOver}
use Rattle.page_store.specs.Disclosing.{DisclosesBy}
use Rattle.device_terms.specs.Served.{IsServedImage}
use Rattle.device_session.specs.Sessions.{Session}
use Rattle.device_course.specs.Certified.{Certified}
use Rattle.device_course.specs.Fitting.{LeavesFitting}
use Rattle.device_course.specs.Marks.{HasMark, last_mark}
use Rattle.device_course.specs.Keys.{KeepsOn}
use Rattle.device_course.specs.States.{Outside, IsAt, IsListed, IsLater}

-- from the state `entry` these devices were made: at each moment a loss of power leaves the device at the start or one of them, in their order, and at
-- the end the last; and the session is in the state `exit` then
pub record Made (old new : History) (after : Option Session) (entry : State) (marks : List (Option Device)) (exit : State) : Type 0 where
  pub passes : Passes old new (HasMark entry.device marks) (length marks)
  pub last : exit.device ≡ last_mark entry.device marks
  pub exits : IsAt new.present after exit

-- the device came to be these others in their order, and is this one at the end
abbrev pub MadeBetween : History → History → Device → List (Option Device) → Device → Type 0
MadeBetween old new first marks last = Made old new None (closed (Some first)) marks (closed (Some last))

-- a part of a run that began with this session in the state `entry`, and ended with that one in the state `exit`: it made these devices, added pages
-- only, and kept what is to be kept. Of an entry of the ledger it put a part only where it can't go on
pub record Part (Going : Type 0) (old new : Outside) (before after : Option Session) (entry : State) (marks : List (Option Device)) (exit : State) : Type 0 where
  pub made : Made old.history new.history after entry marks exit
  pub later : IsLater old new
  pub on : KeepsOn (Unit {0}) old.drawn new.drawn old.written new.written before old.history new.history Going (IsListed after new.history.present)

-- such a part, after which the run goes on
abbrev pub Course : Outside → Outside → Option Session → Option Session → State → List (Option Device) → State → Type 0
Course = Part (Unit {0})

-- a part after which the run may have stopped
abbrev pub Ended : Outside → Outside → Option Session → Option Session → State → List (Option Device) → State → Type 0
Ended = Part ⊥

-- what is promised of a whole run that began on a device and made these others, whoever it served: at each moment a loss of power leaves
-- one of them, in their order, and at the end the last; chains of opening reach exactly the tree of each moment, and never what was deleted; and the ledger
-- got a certificate for each root record that came into the cell, with which each ledger that fitted the image at the start fits what is left at the end
pub record Promised (old new : Outside) (device : Option Device) (marks : List (Option Device)) : Type 0 where
  pub passes : Passes old.history new.history (HasMark device marks) (length marks)
  pub stands : Stands new.history.present (last_mark device marks)
  pub serves : During old.history new.history IsServedImage
  pub later : IsLater old new
  pub grew : List (List ℕ)
  pub drew : DrewAll old.drawn grew new.drawn
  pub handed : HandedOver grew old.history.present new.history.present
  pub discloses : (keys : List (List ℕ)) → Kept keys old.history.present → DisclosesBy keys grew old.history new.history
  pub certified : Certified (Unit {0}) old.written new.written old.history new.history ⊥
  pub fits : LeavesFitting old.written new.written old.history.present old.history new.history
