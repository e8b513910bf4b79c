-- What the program promises, by the words that it is given.
use Rattle.std.specs.Prelude.{◌≡◌, ◌↔◌, ◌⊎◌, ℕ, List, Option}
use Rattle.sdbt_base.specs.Arrays.{Device, closed}
use Rattle.sdbt_base.specs.Told.{Gave, Got}
use Rattle.platform.specs.History.{History}
use Rattle.device_terms.specs.Served.{IsServedImage}
use Rattle.device_cli.specs.Causes.{HasCalled, HasLacked, IsOf}
use Rattle.device_cli.specs.Drawing.{DrewUntil}
use Rattle.device_cli.specs.Given.{HasBadRecord}
use Rattle.device_cli.specs.Handed.{Handed}
use Rattle.device_cli.specs.Pages.{IfNext}
use Rattle.device_cli.specs.Ran.{AnswersScript, IsAmple, IsComplete}
use Rattle.device_course.specs.Reaching.{DisclosesTree}
use Rattle.line_run.specs.Puts.{damage_line}
use Rattle.device_cli.specs.Represents.{StandsFor}
use Rattle.session_calls.specs.Handed.{IsBlamedAt}
use Rattle.device_cli.specs.Run.{IsStatus, Took}
use Rattle.sdbt_base.specs.Counts.{NoneRose}
use Rattle.device_cli.specs.Seen.{SeizesMaps, mapped_of}
use Rattle.session_calls.specs.Cells.{IsUntouched}
use Rattle.session_calls.specs.declared.stops.DeviceStop.TheVariants as device
use Rattle.device_cli.specs.Words.{AreWords, AreServingWords, AreLineWords, AreCheckWords, AreSeizeWords, AreSomeWorkWords, records_of}

-- which words each status belongs to: 3 and 12 to those that take input, 6, 7 and 9 to those that serve lines, 10 to the word `check`
pub record IsStatusOf (words : List (List ℕ)) (status : ℕ) : Type 0 where
  pub input : (status ≡ 3) ⊎ (status ≡ 12) → AreServingWords words
  pub lines : (status ≡ 6) ⊎ (status ≡ 7) ⊎ (status ≡ 9) → AreLineWords words
  pub refused : status ≡ 10 → AreCheckWords words

-- the exit status is one that there is, and 2 exactly where the words are none of the forms; one that names a fault comes only where the count of that object rose, and
-- that of no other, and at each other status, so at 0, all counts are as they were; and what was taken of the input is as the status says: 0 and 3 before its limit, and 12 at it. The words `seize` and `work` say that nothing is
pub record Exits {S R I O L : Type 0} (words : List (List ℕ)) (status : ℕ) (old new : Handed S R I O L) : Type 0 where
  pub is : IsStatus status
  pub forms : (status ≡ 2) ↔ ¬ (AreWords words)
  pub of_words : IsStatusOf words status
  pub blame : IsBlamedAt status old.counts new.counts
  pub taken : (AreSeizeWords words → ⊥) → (AreSomeWorkWords words → ⊥) → (taken : List ℕ) × Gave old.left taken new.left × Took status taken new.left

-- 8 comes only where the cell at the start is full and can't be served, or, with the word `seize`, a root record behind it is none; for a run and a check exactly at such a
-- cell, unless that could not be told or not be said. At 8, and over such a cell whatever the status, all is as it was but for what is said of it; at 2 all is
pub record Refuses {S R I O L : Type 0} (tells : Type 0) (words : List (List ℕ)) (status : ℕ) (old new : Handed S R I O L) : Type 0 where
  pub bad_root_only : tells → status ≡ 8 → IsServedImage old.world.history.present → AreSeizeWords words × HasBadRecord old.world.head (records_of words)
  pub bad_root : tells → (IsServedImage old.world.history.present → ⊥) → AreServingWords words → (status ≡ 8) ⊎ (status ≡ 4) ⊎ (status ≡ 5)
  pub untouched : tells → (status ≡ 8) ⊎ (IsServedImage old.world.history.present → ⊥)
      → IsUntouched old.tape new.tape old.input new.input old.ledger new.ledger old.world.head new.world.head old.world.history new.world.history
  pub said : tells → status ≡ 8 → Got old.written (damage_line device.BadRoot) new.written
  pub other_words : status ≡ 2 → (new.platform ≡ old.platform) × (new.tape ≡ old.tape) × (new.input ≡ old.input) × (new.output ≡ old.output) × (new.ledger ≡ old.ledger)

-- a run: the bytes put are the lines of replies, one for each line in turn, and perhaps a part behind them; on a device that stands they are the replies of an array of
-- blocks, and at each moment a loss of power leaves a device that they passed. With room for 42 pages a line and for each upgrade, a short input and no fault each line has its reply,
-- unless no memory is given to one that takes some, and is not refused
pub record ServesScript {S R I O L : Type 0} (tells : Type 0) (status : ℕ) (old new : Handed S R I O L) : Type 0 where
  pub answers : AnswersScript tells old.world new.world status old.left new.left old.written new.written
  -- no line draws a key but a `format`, `write`, `commit` or `upgrade` that is done, of which a write draws one; and perhaps one of these that was cut short
  pub drew : DrewUntil old.drawn answers.lines answers.replies new.drawn
  -- the platform failed at a line that calls it, or at the look at the cell before the first one, and then nothing is taken
  pub no_platform : status ≡ 5 → (new.input ≡ old.input) ⊎ IfNext answers.replies answers.lines (IsOf (HasCalled tells new.world.history.present))
  pub complete : tells → (there : Option Device) → StandsFor old.world.history.present there → IsServedImage old.world.history.present
      → (text : List ℕ) → IsAmple old.left text (mapped_of there) old.world.head old.world.capacity → NoneRose old.counts new.counts
      → ((status ≡ 11) × IfNext answers.replies answers.lines (IsOf (HasLacked tells new.world.history.present new.world.head new.world.capacity))) ⊎ ((status ≡ 0) × IsComplete (closed there) text old.written new.written)

-- chains of opening from the root key reach at each moment exactly the device's records, and what was deleted never; and under the premises on keys a seizure counts at each
-- moment exactly the blocks of the device's map: so the replies to `seize` lines do, which belong to such moments
pub record Forgets (tells : Type 0) (drawn drawn_now : Option (List (List ℕ))) (old new : History) : Type 0 where
  pub discloses : DisclosesTree tells drawn drawn_now old new
  pub seizes : SeizesMaps tells drawn drawn_now old new
