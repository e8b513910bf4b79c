-- What a program over a device promises beside its answers: what it keeps of the ledger and of the cell.
use Rattle.std.specs.Prelude.{◌≡◌, ◌≤◌, ℕ, List, Option}
use Rattle.platform.specs.History.{History, During}
use Rattle.sdbt_base.specs.Arrays.{Device}
use Rattle.page_store.specs.Stands.{Stands}
use Rattle.device_terms.specs.Served.{IsServedImage}
use Rattle.device_course.specs.Certified.{Certified}
use Rattle.device_course.specs.Fitting.{LeavesFitting}
use Rattle.device_course.specs.States.{Outside}

-- the ledger got the entry of a certificate for each root record that came into the cell, in their order, and behind them at most a part of one more: none where all is done. With
-- them each ledger that the checker accepted for the image at the start is one that it accepts for what is left at the end, whichever root record is found
pub record KeepsLedger (tells : Type 0) (entries entries_now : Option (List ℕ)) (old new : History) (Done : Type 0) : Type 0 where
  pub certified : Certified tells entries entries_now old new Done
  pub fits : tells → (there : Option Device) → Stands old.present there → IsServedImage old.present → LeavesFitting entries entries_now old.present old new

-- a cell that can be served is one at each moment, and pages are only added
pub record Stays (tells : Type 0) (old new : Outside) : Type 0 where
  pub served : tells → IsServedImage old.history.present → During old.history new.history IsServedImage
  pub head : old.head ≤ new.head
  pub capacity : new.capacity ≡ old.capacity
