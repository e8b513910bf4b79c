-- A whole run, whatever it served.
use Rattle.std.specs.Prelude.{Option, None, List}
use Rattle.sdbt_base.specs.Arrays.{Device, closed}
use Rattle.page_store.specs.Stands.{Stands}
use Rattle.device_terms.specs.Served.{IsServedImage}
use Rattle.device_course.specs.Course.{Made}
use Rattle.device_course.specs.Keys.{KeepsOn}
use Rattle.device_course.specs.Marks.{last_mark}
use Rattle.device_course.specs.States.{Outside, IsLater}

-- pages were only added; keys were kept, and the ledger got what belongs to the root records that came into the cell; and from the device that there was the run made others
pub record Spans (tells : Type 0) (old new : Outside) (Going : Type 0) : Type 0 where
  pub later : IsLater old new
  pub keeps : KeepsOn tells old.drawn new.drawn old.written new.written None old.history new.history Going (λ keys. Unit {0})
  pub made : tells → (there : Option Device) → Stands old.history.present there → IsServedImage old.history.present
      → (marks : List (Option Device)) × Made old.history new.history None (closed there) marks (closed (last_mark there marks))
