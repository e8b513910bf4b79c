-- A run that completes.
use Rattle.std.proofs.Common.{◌≡◌, ◌≢◌, ◌≤◌, ◌+◌, ◌*◌, ◌∙◌, ℕ, List, [], Option, None, Some, Result, Ok, Err, inl, inr, refl, sym, ap, subst, arith}
use Rattle.std.specs.Prelude.{◌⊎◌, All}
use Rattle.sdbt_base.specs.Arrays.{Device, session_on}
use Rattle.sdbt_base.specs.Counts.{Counts, NoneRose}
use Rattle.page_store.specs.Stands.{Stands}
use Rattle.device_terms.specs.Served.{IsServedImage}
use Rattle.device_course.specs.States.{Outside}
use Rattle.device_course.specs.Held.{Held}
use Rattle.nbd_core.specs.Ample.{IsServedOut, changed_in}
use Rattle.nbd_core.specs.Exchanges.{Exchange}
use Rattle.nbd_core.specs.Halts.{Blames}
use Rattle.nbd_core.specs.Program.{IsComplete, exchanges_behind, exchanges_in, exit_of}
use Rattle.nbd_core.specs.Room.{Room}
use Rattle.nbd_core.specs.Running.{GoesOn, IsEarly, Looked, Talks}
use Rattle.nbd_core.specs.Turns.{IsStart}
use Rattle.nbd_core.specs.declared.haggling.Agreed.{Agreed}
use Rattle.nbd_core.specs.declared.haggling.Agreed.TheVariants as agreed
use Rattle.nbd_core.specs.declared.stop.Stop.{Stop}
use Rattle.nbd_core.specs.declared.stop.Stop.TheVariants as stops
use Rattle.nbd_core.specs.declared.halts.Halt.{Halt}
use Rattle.nbd_core.specs.declared.halts.Halt.TheVariants as halts
use Rattle.nbd_core.specs.Changes.{Tally}

-- an end with nothing to blame
ends_of : (before now : Counts) (ending : Result (Unit {0}) Halt) → Blames before now ending → NoneRose before now → exit_of ending ≢ 12 → exit_of ending ≢ 14 → ending ≢ Err halts.BadRoot → ending ≢ Err halts.NoDevice → ending ≢ Err halts.Unfinished
    → (exit_of ending ≡ 0) ⊎ (exit_of ending ≡ 11)
ends_of before now (Ok done) blames none limit broken root device unfinished = inl refl
ends_of before now (Err (halts.Client stops.Source)) blames none limit broken root device unfinished = absurd (none.input blames.cause.0)
ends_of before now (Err (halts.Client stops.Sink)) blames none limit broken root device unfinished = absurd (none.output blames.cause.0)
ends_of before now (Err (halts.Client stops.Limit)) blames none limit broken root device unfinished = absurd (limit refl)
ends_of before now (Err (halts.Client stops.Broken)) blames none limit broken root device unfinished = absurd (broken refl)
ends_of before now (Err halts.Platform) blames none limit broken root device unfinished = absurd (none.platform blames.cause.0)
ends_of before now (Err halts.Tape) blames none limit broken root device unfinished = absurd (none.tape blames.cause.0)
ends_of before now (Err halts.Ledger) blames none limit broken root device unfinished = absurd (none.ledger blames.cause.0)
ends_of before now (Err halts.BadRoot) blames none limit broken root device unfinished = absurd (root refl)
ends_of before now (Err halts.NoDevice) blames none limit broken root device unfinished = absurd (device refl)
ends_of before now (Err halts.Unfinished) blames none limit broken root device unfinished = absurd (unfinished refl)
ends_of before now (Err halts.Memory) blames none limit broken root device unfinished = inr refl

-- all requests with a reply were done, and a disconnect was not refused
record Done (size : ℕ) (ending : Result (Unit {0}) Halt) (exchanges : List Exchange) : Type 0 where
  done : All (IsServedOut size) exchanges
  ends : ending ≢ Err halts.Unfinished

no_requests : (size : ℕ) (ending : Result (Unit {0}) Halt) → ending ≢ Err halts.Unfinished → Done size ending []
no_requests size ending ends = record { done = λ k d below. absurd (omega (arith, below)); ends = ends }

done_behind : (From : Held → Type 0) (tells : Type 0) (count : Tally) (before after : Outside) (there : Device) (result_of : Result Agreed Stop) (room : Room) (left left_now written written_now : Option (List ℕ)) (ending : Result (Unit {0}) Halt) (entry : Held) → From entry
    → entry.device ≡ there → entry.pages ≡ before.head → entry.updates ≡ 0 → (goes_on : GoesOn From tells count before after (4096 * there.blocks) result_of room left left_now written written_now ending)
    → before.head + 42 * changed_in (4096 * there.blocks) (exchanges_behind From tells count before after (4096 * there.blocks) result_of room left left_now written written_now ending goes_on) ≤ before.capacity
    → Done (4096 * there.blocks) ending (exchanges_behind From tells count before after (4096 * there.blocks) result_of room left left_now written written_now ending goes_on)
done_behind From tells count before after there (Ok agreed.Requests) room left left_now written written_now ending entry from is pages updates (last, served) free =
    let all = served.complete entry from (ap (λ (d : Device). 4096 * d.blocks) (sym is)) (omega (arith, free, pages, updates)) in
    record { done = all.done; ends = all.ends }
done_behind From tells count before after there (Ok agreed.Nothing) room left left_now written written_now ending entry from is pages updates (same, unput, ended, stayed) free = no_requests (4096 * there.blocks) ending (λ unfinished. cc)
done_behind From tells count before after there (Err stop) room left left_now written written_now ending entry from is pages updates (same, unput, ended, stayed) free = no_requests (4096 * there.blocks) ending (λ unfinished. cc)

early_finished : (ending : Result (Unit {0}) Halt) → IsEarly ending → ending ≢ Err halts.Unfinished
early_finished ending early is = subst IsEarly is early

done_in : (tells : Type 0) (count : Tally) (before after : Outside) (there : Device) (left left_now written written_now : Option (List ℕ)) (ending : Result (Unit {0}) Halt) (talks : Talks tells count before after left left_now written written_now ending) → tells
    → Stands before.history.present (Some there) → IsServedImage before.history.present
    → before.head + 42 * changed_in (4096 * there.blocks) (exchanges_in tells count before after left left_now written written_now ending talks) ≤ before.capacity
    → Done (4096 * there.blocks) ending (exchanges_in tells count before after left left_now written written_now ending talks)
done_in tells count before after there left left_now written written_now ending (inl silent) told stands served free = no_requests (4096 * there.blocks) ending (early_finished ending silent.early)
done_in tells count before after there left left_now written written_now ending (inr conversation) told stands served free =
    let conversed = conversation.conversed in
    sized conversation.size (conversation.is told there stands) conversed.agreed conversed.room conversed.left_then conversed.written_then conversed.goes_on free
  where
    sized : (size : ℕ) → size ≡ 4096 * there.blocks → (result_of : Result Agreed Stop) (room : Room) (left_then written_then : Option (List ℕ)) (goes_on : GoesOn (IsStart tells before) tells count before after size result_of room left_then left_now written_then written_now ending)
        → before.head + 42 * changed_in (4096 * there.blocks) (exchanges_behind (IsStart tells before) tells count before after size result_of room left_then left_now written_then written_now ending goes_on) ≤ before.capacity
        → Done (4096 * there.blocks) ending (exchanges_behind (IsStart tells before) tells count before after size result_of room left_then left_now written_then written_now ending goes_on)
    sized size is result_of room left_then written_then goes_on room_left =
        (subst
        (λ (n : ℕ). (g : GoesOn (IsStart tells before) tells count before after n result_of room left_then left_now written_then written_now ending)
        → before.head + 42 * changed_in (4096 * there.blocks) (exchanges_behind (IsStart tells before) tells count before after n result_of room left_then left_now written_then written_now ending g) ≤ before.capacity
        → Done (4096 * there.blocks) ending (exchanges_behind (IsStart tells before) tells count before after n result_of room left_then left_now written_then written_now ending g))
        (sym is)
        (λ g f. done_behind (IsStart tells before) tells count before after there result_of room left_then left_now written_then written_now ending
        (record { device = there; session = session_on there; pages = before.head; updates = 0 }) (record { told = told; stands = stands; served = served; session = refl; pages = refl; updates = refl }) refl refl refl g f))
        goes_on room_left

pub completes : {Nothing : Type 0} (tells : Type 0) (count : Tally) (before after : Outside) (counts_before counts_now : Counts) (status : ℕ) (left left_now written written_now : Option (List ℕ)) (ending : Result (Unit {0}) Halt) (talks : Talks tells count before after left left_now written written_now ending)
    → status ≡ exit_of ending → Blames counts_before counts_now ending → Looked tells before.history.present Nothing ending → tells → (there : Device) → Stands before.history.present (Some there) → IsServedImage before.history.present
    → NoneRose counts_before counts_now → status ≢ 12 → status ≢ 14
    → before.head + 42 * changed_in (4096 * there.blocks) (exchanges_in tells count before after left left_now written written_now ending talks) ≤ before.capacity
    → IsComplete (4096 * there.blocks) status (exchanges_in tells count before after left left_now written written_now ending talks)
completes tells count before after counts_before counts_now status left left_now written written_now ending talks is blames looked told there stands served none limit broken free =
    let all = done_in tells count before after there left left_now written written_now ending talks told stands served free in
    let ends = ends_of counts_before counts_now ending blames none (λ e. limit (is ∙ e)) (λ e. broken (is ∙ e)) (λ e. looked.bad_only told e served) (λ e. empty_stands (looked.empty_only told e)) all.ends in
    record { ends = elim ends [ inl e ↦ inl (is ∙ e) | inr e ↦ inr (is ∙ e) ]; done = all.done }
  where
    empty_stands : before.history.present.cell ≡ None → ⊥
    empty_stands empty = let full = stands.2.cell in let no = sym empty ∙ full in cc
