-- What the server promises of a run.
use Rattle.std.proofs.Common.{inl, inr}
use Rattle.std.specs.Prelude.{◌≡◌, ◌≢◌, ◌≤◌, ◌+◌, ◌*◌, ◌⊎◌, ◌↔◌, ◌^◌, ℕ, List, [], All, length, Option, None, Some, Result, Ok, Err}
use Rattle.sdbt_base.specs.Told.{Gave}
use Rattle.device_course.specs.States.{Outside}
use Rattle.session_calls.specs.Handed.{Handed, IsBlamedAt}
use Rattle.device_terms.specs.Served.{IsServedImage}
use Rattle.sdbt_base.specs.Counts.{NoneRose}
use Rattle.sdbt_base.specs.Arrays.{Device}
use Rattle.page_store.specs.Stands.{Stands}
use Rattle.device_course.specs.Held.{Held}
use Rattle.nbd_core.specs.Ample.{IsServedOut, changed_in}
use Rattle.nbd_core.specs.Exchanges.{Exchange}
use Rattle.nbd_core.specs.Halts.{status_at}
use Rattle.nbd_core.specs.Room.{Room}
use Rattle.nbd_core.specs.Turns.{IsStart}
use Rattle.nbd_core.specs.declared.haggling.Agreed.{Agreed}
use Rattle.nbd_core.specs.declared.haggling.Agreed.TheVariants as agreed
use Rattle.nbd_core.specs.declared.stop.Stop.{Stop}
use Rattle.nbd_core.specs.Running.{GoesOn, Talks, Untouched}
use Rattle.nbd_core.specs.declared.halts.Halt.{Halt}
use Rattle.nbd_core.specs.declared.halts.Halt.TheVariants as halts
use Rattle.nbd_core.specs.Changes.{Tally, tally as counted}

-- the exit status of a run that ends so
abbrev pub exit_of : Result (Unit {0}) Halt → ℕ
exit_of (Ok done) = 0
exit_of (Err halt) = status_at halt

-- the statuses that there are
abbrev pub IsStatus : ℕ → Type 0
IsStatus status =
    (status ≡ 0) ⊎ (status ≡ 2) ⊎ (status ≡ 3) ⊎ (status ≡ 4) ⊎ (status ≡ 5) ⊎ (status ≡ 6) ⊎ (status ≡ 7) ⊎ (status ≡ 8) ⊎ (status ≡ 10) ⊎ (status ≡ 11) ⊎ (status ≡ 12) ⊎ (status ≡ 14)

-- what was taken when a run ended with this exit status: 2^40 bytes at most; all of them at 12, and none
-- where words are given
pub record Took (status : ℕ) (taken : List ℕ) : Type 0 where
  pub most : length taken ≤ 2 ^ 40
  pub limit : status ≡ 12 → length taken ≡ 2 ^ 40
  pub nothing : status ≡ 2 → taken ≡ []

-- the exit status is one that there is, and 2 exactly where words are given; one that names a fault
-- comes only where the count of that object alone rose, and each other one where none did
pub record Exits {S R I O L : Type 0} (words : List (List ℕ)) (status : ℕ) (old new : Handed S R I O L) : Type 0 where
  pub is : IsStatus status
  pub refused : (status ≡ 2) ↔ (words ≢ [])
  pub blame : IsBlamedAt status old.counts new.counts
  pub taken : (bytes : List ℕ) × Gave old.left bytes new.left × Took status bytes

-- all is as it was, at each moment
abbrev pub IsAsBefore : {S R I O L : Type 0} → Type 0 → Handed S R I O L → Handed S R I O L → Type 0
IsAsBefore tells old new = Untouched tells old.tape new.tape old.input new.input old.output new.output old.ledger new.ledger old.outside.head new.outside.head old.outside.history new.outside.history

-- 8 comes exactly where the cell at the start is full and can't be served, and 10 where it is empty,
-- unless the platform failed; then all is as it was, and nothing was said. At 2 all is
pub record Refuses {S R I O L : Type 0} (tells : Type 0) (words : List (List ℕ)) (status : ℕ) (old new : Handed S R I O L) : Type 0 where
  pub other_words : status ≡ 2 → (new.platform ≡ old.platform) × (new.tape ≡ old.tape) × (new.input ≡ old.input) × (new.output ≡ old.output) × (new.ledger ≡ old.ledger)
  pub bad_root_only : tells → status ≡ 8 → (IsServedImage old.outside.history.present → ⊥) × IsAsBefore tells old new
  pub bad_root : tells → (IsServedImage old.outside.history.present → ⊥) → words ≡ [] → (status ≡ 8) ⊎ (status ≡ 5)
  pub no_device : tells → old.outside.history.present.cell ≡ None → words ≡ [] → ((status ≡ 10) × IsAsBefore tells old new) ⊎ (status ≡ 5)

-- the requests that came in what was said, with their replies
abbrev pub exchanges_behind : (From : Held → Type 0) (tells : Type 0) (tally : Tally) (before after : Outside) (size : ℕ) (agreed : Result Agreed Stop) (room : Room) (left left_now written written_now : Option (List ℕ)) (ending : Result (Unit {0}) Halt)
    → GoesOn From tells tally before after size agreed room left left_now written written_now ending → List Exchange
exchanges_behind From tells tally before after size (Ok agreed.Requests) room left left_now written written_now ending (last, served) = served.exchanges
exchanges_behind From tells tally before after size (Ok agreed.Nothing) room left left_now written written_now ending goes_on = []
exchanges_behind From tells tally before after size (Err stop) room left left_now written written_now ending goes_on = []

abbrev pub exchanges_in : (tells : Type 0) (tally : Tally) (before after : Outside) (left left_now written written_now : Option (List ℕ)) (ending : Result (Unit {0}) Halt) → Talks tells tally before after left left_now written written_now ending → List Exchange
exchanges_in tells tally before after left left_now written written_now ending (inl silent) = []
exchanges_in tells tally before after left left_now written written_now ending (inr there) =
    let conversed = there.conversed in
    exchanges_behind (IsStart tells before) tells tally before after there.size conversed.agreed conversed.room conversed.left_then left_now conversed.written_then written_now ending conversed.goes_on

-- the run did all that it was asked for, as far as memory was given: each request is done that its head
-- doesn't refuse
pub record IsComplete (size : ℕ) (status : ℕ) (exchanges : List Exchange) : Type 0 where
  pub ends : (status ≡ 0) ⊎ (status ≡ 11)
  pub done : All (IsServedOut size) exchanges

-- what was said: nothing, or the greeting and the answers to the options that came, and what goes on
-- from there; the cell was looked at twice at most before, and the platform had synced or changed it so often where the run began and where it ended. A run completes over an image that stands for a
-- device, if no count of faults rises, the client sends nothing that is none of its words, fewer bytes come
-- than may be taken, and 42 pages are free for each block that its requests change
pub record Serving {S R I O L : Type 0} (tells : Type 0) (status changes changes_now : ℕ) (old new : Handed S R I O L) : Type 0 where
  pub ending : Result (Unit {0}) Halt
  pub status_is : status ≡ exit_of ending
  pub no_device : tells → ending ≡ Err halts.NoDevice → old.outside.history.present.cell ≡ None
  pub talks : Talks tells (counted 2 changes changes_now) old.outside new.outside old.left new.left old.written new.written ending
  pub complete : tells → (there : Device) → Stands old.outside.history.present (Some there) → IsServedImage old.outside.history.present → NoneRose old.counts new.counts → status ≢ 12 → status ≢ 14
      → old.outside.head + 42 * changed_in (4096 * there.blocks) (exchanges_in tells (counted 2 changes changes_now) old.outside new.outside old.left new.left old.written new.written ending talks) ≤ old.outside.capacity
      → IsComplete (4096 * there.blocks) status (exchanges_in tells (counted 2 changes changes_now) old.outside new.outside old.left new.left old.written new.written ending talks)
