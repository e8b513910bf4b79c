-- What a part of a run keeps of an image: its keys, what is deleted, and that its cell can be served; and what it puts to the ledger.
use Rattle.std.specs.Prelude.{ℕ, List, Option}
use Rattle.platform.specs.History.{History, During}
use Rattle.page_store.specs.Kept.{Kept}
use Rattle.page_store.specs.Keeping.{KeepsKeys}
use Rattle.page_store.specs.Floors.{KeepsDeleted}
use Rattle.sdbt_base.specs.Arrays.{State}
use Rattle.device_terms.specs.Served.{IsServedImage}
use Rattle.device_session.specs.Sessions.{Session}
use Rattle.device_course.specs.Certified.{Certified}
use Rattle.device_course.specs.Fitting.{KeepsFitting}
use Rattle.device_course.specs.States.{IsListed, IsAt}

-- a part of a run that began with this session: on any image each page that was handed over is a record sealed under a key that was drawn; each
-- moment keeps what the image from before kept, with these keys; what was deleted stays so; a cell that can be served is one at each moment; and the ledger
-- got an entry for each root record that came into the cell, and a part of one more only where the run stopped; and from each state that the start
-- stood for, each ledger that fitted the image goes on to fit it
pub record KeepsOn (tells : Type 0) (drawn drawn_now : Option (List (List ℕ))) (written written_now : Option (List ℕ)) (session : Option Session) (old new : History) (Going : Type 0) (Done : List (List ℕ) → Type 0) : Type 0 where
  pub keys : KeepsKeys tells drawn drawn_now old new (IsListed session old.present) Done
  pub deleted : tells → (keys : List (List ℕ)) → Kept keys old.present → IsListed session old.present keys → KeepsDeleted old new
  pub serves : tells → IsServedImage old.present → During old new IsServedImage
  pub certified : Certified tells written written_now old new Going
  pub fits : tells → (entry : State) → IsAt old.present session entry → KeepsFitting written written_now old new
