-- What two runs over volumes do.
use Rattle.std.proofs.Common.{◌≡◌, ◌≢◌, ◌≤◌, ◌<◌, ◌++◌, ℕ, List, [], ◌∷◌, Option, Some, Result, inl, inr, refl, sym, subst, append-nil, length}
use Rattle.std.specs.Prelude.{◌⊎◌}
use Rattle.platform.specs.Image.{Image, MayLeave}
use Rattle.platform.specs.History.{During, History, image_at, moment}
use Rattle.platform.proofs.Moments.{During-now, Extends-earlier}
use Rattle.key_graph.specs.Chains.{KeyPremises}
use Rattle.key_graph.specs.Maps.{AreFirst}
use Rattle.page_store.specs.Disclosing.{DisclosesBy, DisclosesOn}
use Rattle.page_store.specs.Floors.{IsInTree, floor_of}
use Rattle.page_store.specs.Kept.{Kept}
use Rattle.page_store.specs.Stands.{Stands}
use Rattle.page_store.proofs.DisclosingLaws.{discloses_on, first_premises}
use Rattle.page_store.proofs.KeptLaws.{kept_left}
use Rattle.page_store.proofs.StandsLaws.{stands_left}
use Rattle.sdbt_base.specs.Arrays.{Device, session_on}
use Rattle.device_terms.specs.Served.{IsServedCell, IsServedImage}
use Rattle.device_course.specs.Held.{Held}
use Rattle.device_course.specs.Leading.{last_of}
use Rattle.device_course.specs.Reaching.{DisclosesTree}
use Rattle.device_course.specs.States.{Outside}
use Rattle.volume_lines.specs.Replies.{Reply}
use Rattle.volume_terms.specs.Destroyed.{IfDestroyed, IsFree, IsTakenIn, LeavesNothing}
use Rattle.volume_terms.specs.Volumes.{IsBlockOf}
use Rattle.volume_terms.proofs.DestroyedLaws.{free_again, free_or_taken, if_destroyed, stays_free_ahead}
use Rattle.volume_terms.proofs.TableLaws.{not_first}
use Rattle.volumes.specs.Destroyed.{AreDestroyed, IsDestroyed}
use Rattle.volumes.specs.Running.{Serves}
use Rattle.volumes.specs.Starting.{IsStart}
use Rattle.volumes.specs.declared.halts.Halt.{Halt}
use Rattle.volumes.proofs.EndedLaws.{ahead_of, blocks_below}
use Rattle.volumes.proofs.ReachLaws.{below_floor, never_in_tree, premises_then}
use Rattle.volume_runs.specs.Runs.{AllFree, AllStay, EndsWith, IsFreeOn, StayDestroyed, StayFree, StaysDestroyed}

-- ---- what the second run finds

-- a cell that can be served still can
pub served_left : (image left : Image) → MayLeave image left → IsServedImage image → IsServedImage left
served_left image left lost served =
    subst (λ (cell : Option (List ℕ)). IsServedCell cell (length left.recorded)) (sym lost.cell)
    (subst (λ (pages : List (List ℕ)). IsServedCell image.cell (length pages)) (sym lost.recorded) served)

-- the device with which the first run ended, for which its last image stands
pub ended_with : (old mid : Outside) (result : Result (Unit {0}) Halt) (left left_now written written_now : Option (List ℕ)) (serves : Serves (Unit {0}) (IsStart (Unit {0}) old) old mid result left left_now written written_now)
    (entry : Held) (start : IsStart (Unit {0}) old entry)
    → (device : Device) × Stands mid.history.present (Some device) × EndsWith (IsStart (Unit {0}) old) old mid result left left_now written written_now serves entry start device
ended_with old mid result left left_now written written_now (inl (halt, is, silent)) entry start = (entry.device, (silent.stayed entry start).0.exits.there.device, refl)
ended_with old mid result left left_now written written_now (inr (ending, is, answers)) entry start =
    let on = (answers.led entry start).on in ((last_of entry (on.led.states ++ on.ahead)).device, on.led.made.exits.there.device, refl)

-- a session just mounted on it
abbrev pub fresh_on : Outside → Device → Held
fresh_on here device = record { device = device; session = session_on device; pages = here.head; updates = 0 }

pub starts_on : (cut : Outside) (device : Device) → Stands cut.history.present (Some device) → IsServedImage cut.history.present → IsStart (Unit {0}) cut (fresh_on cut device)
starts_on cut device stands served = record { told = tt; stands = stands; served = served; session = refl; pages = refl; updates = refl }

pub start_of : (old : Outside) (device : Device) → Stands old.history.present (Some device) → IsServedImage old.history.present → IsStart (Unit {0}) old (fresh_on old device)
start_of old device stands served = starts_on old device stands served

-- from which the second run begins
pub next_start : (old mid cut : Outside) (result : Result (Unit {0}) Halt) (left left_now written written_now : Option (List ℕ)) (serves : Serves (Unit {0}) (IsStart (Unit {0}) old) old mid result left left_now written written_now)
    (entry : Held) (start : IsStart (Unit {0}) old entry) → MayLeave mid.history.present cut.history.present → IsServedImage cut.history.present
    → (next : Held) × IsStart (Unit {0}) cut next × EndsWith (IsStart (Unit {0}) old) old mid result left left_now written written_now serves entry start next.device
next_start old mid cut result left left_now written written_now serves entry start lost served =
    let ended = ended_with old mid result left left_now written written_now serves entry start in
    (fresh_on cut ended.0, starts_on cut ended.0 (stands_left mid.history.present cut.history.present (Some ended.0) lost ended.1) served, ended.2)

-- ---- blocks that are free

-- in a run
pub free_on : (block : ℕ) (old new : Outside) (result : Result (Unit {0}) Halt) (left left_now written written_now : Option (List ℕ)) (serves : Serves (Unit {0}) (IsStart (Unit {0}) old) old new result left left_now written written_now)
    (entry : Held) (start : IsStart (Unit {0}) old entry) → block ≢ 0 → IsFree block entry → IsFreeOn block (IsStart (Unit {0}) old) old new result left left_now written written_now serves entry start
free_on block old new result left left_now written written_now (inl silent) entry start other free = free
free_on block old new result left left_now written written_now (inr (ending, is, answers)) entry start other free =
    let on = (answers.led entry start).on in (
      free,
      stays_free_ahead old.capacity block entry answers.lines answers.replies on.led.states on.ahead (blocks_below old.history.present entry.device start.stands) other free on.led.leads
          (ahead_of new answers.session answers.table old.capacity (last_of entry on.led.states) answers.lines answers.replies answers.part on.ahead ending on.ends),
    )

-- behind lines
stay_free : (old mid : History) (entry : Held) (lines : List (List ℕ)) (replies : List Reply) (states ahead : List Held) (Later : ℕ → Type 0) → ((block : ℕ) → block ≢ 0 → IsFree block (last_of entry (states ++ ahead)) → Later block)
    → AreDestroyed old mid entry lines replies states ahead → StayFree Later entry lines replies states ahead
stay_free old mid entry [] replies states ahead Later later gone = tt
stay_free old mid entry (line ∷ lines) [] states ahead Later later gone = tt
stay_free old mid entry (line ∷ lines) (reply ∷ replies) [] ahead Later later gone = tt
stay_free old mid entry (line ∷ lines) (reply ∷ replies) (state ∷ states) ahead Later later (one, rest) = (
  if_destroyed reply ((gone : LeavesNothing entry line state) × ((block : ℕ) → IsBlockOf gone.v block → IsTakenIn block (states ++ ahead) ⊎ Later block))
      (λ number is. of_one (subst (λ (r : Reply). IfDestroyed r (IsDestroyed old mid entry line state (states ++ ahead))) is one)),
  stay_free old mid state lines replies states ahead Later later rest,
)
  where
    of_one : IsDestroyed old mid entry line state (states ++ ahead) → (gone : LeavesNothing entry line state) × ((block : ℕ) → IsBlockOf gone.v block → IsTakenIn block (states ++ ahead) ⊎ Later block)
    of_one d = (
      d.leaves,
      λ block has. elim (free_or_taken block state (states ++ ahead) (d.leaves.free block has) (d.free block has)) [
        | inl taken ↦ inl taken
        | inr free ↦ inr (later block (not_first entry.device.blocks d.leaves.table d.leaves.v block d.leaves.tabled.is d.leaves.named.0 has) free)
      ],
    )

-- what is known of the second run, for each start of the first
pub record Goes (old mid : Outside) (result : Result (Unit {0}) Halt) (left left_now written written_now : Option (List ℕ)) (serves : Serves (Unit {0}) (IsStart (Unit {0}) old) old mid result left left_now written written_now)
    (Later : (entry : Held) → IsStart (Unit {0}) old entry → ℕ → Type 0) (entry : Held) (start : IsStart (Unit {0}) old entry) : Type 0 where
  pub next : Held
  pub fresh : next.session ≡ session_on next.device
  pub ends : EndsWith (IsStart (Unit {0}) old) old mid result left left_now written written_now serves entry start next.device
  pub later : (block : ℕ) → block ≢ 0 → IsFree block next → Later entry start block

pub all_free : (old mid : Outside) (result : Result (Unit {0}) Halt) (left left_now written written_now : Option (List ℕ)) (serves : Serves (Unit {0}) (IsStart (Unit {0}) old) old mid result left left_now written written_now)
    (Later : (entry : Held) → IsStart (Unit {0}) old entry → ℕ → Type 0) → ((entry : Held) (start : IsStart (Unit {0}) old entry) → Goes old mid result left left_now written written_now serves Later entry start)
    → AllFree (IsStart (Unit {0}) old) Later old mid result left left_now written written_now serves
all_free old mid result left left_now written written_now (inl silent) Later goes = tt
all_free old mid result left left_now written written_now (inr (ending, is, answers)) Later goes = λ entry from.
    let g = goes entry from in
    let there = answers.led entry from in
    let last : Held = last_of entry (there.on.led.states ++ there.on.ahead) in
    stay_free old.history mid.history entry answers.lines answers.replies there.on.led.states there.on.ahead (Later entry from) (λ block other free. g.later block other (free_again block last g.next g.ends g.fresh free)) there.destroyed

-- ---- what both disclose

-- the premises on keys held at a moment of the first run
premises_first : (mid cut new : History) (keys more : List (List ℕ)) (at : ℕ) → AreFirst mid.present.recorded new.present.recorded → at ≤ moment mid → KeyPremises (keys ++ more) new.present.recorded → KeyPremises keys (image_at mid at).recorded
premises_first mid cut new keys more at ahead to premises =
    let then' : KeyPremises keys mid.present.recorded = first_premises keys more mid.present.recorded new.present.recorded ahead premises in
    premises_then mid keys [] at to (subst (λ (ks : List (List ℕ)). KeyPremises ks mid.present.recorded) (sym (append-nil keys)) then')

stays : (keys grew more : List (List ℕ)) (old mid cut new : History) (before : Held) (line : List ℕ) (after : Held) (states : List Held) → DisclosesOn keys grew old mid cut new → During old mid (Kept (keys ++ grew))
    → AreFirst mid.present.recorded new.present.recorded → KeyPremises ((keys ++ grew) ++ more) new.present.recorded → IsDestroyed old mid before line after states → StaysDestroyed (keys ++ grew) old mid cut new before line after states
stays keys grew more old mid cut new before line after states on kept ahead premises gone = record {
  destroyed = gone;
  never = λ block has later from to addr page reached.
      let listed : List (List ℕ) = keys ++ grew in
      let ends = gone.ends in
      let below : addr < floor_of old mid gone.at = below_floor old mid gone.at after.device listed addr block ends.from ends.stands ends.all page in
      let in_tree : IsInTree (image_at mid gone.at) addr = on.deleted gone.at later ends.from ends.to from to addr reached below in
      never_in_tree listed (image_at mid gone.at) after.device block addr ends.stands (gone.leaves.destroyed.gone block has) (kept.each gone.at ends.from ends.to)
      (premises_first mid cut new listed more gone.at ahead ends.to premises) page in_tree;
}

all_stay : (keys grew more : List (List ℕ)) (old mid cut new : History) (entry : Held) (lines : List (List ℕ)) (replies : List Reply) (states ahead : List Held) → DisclosesOn keys grew old mid cut new → During old mid (Kept (keys ++ grew))
    → AreFirst mid.present.recorded new.present.recorded → KeyPremises ((keys ++ grew) ++ more) new.present.recorded → AreDestroyed old mid entry lines replies states ahead → StayDestroyed (keys ++ grew) old mid cut new entry lines replies states ahead
all_stay keys grew more old mid cut new entry [] replies states ahead on kept first premises gone = tt
all_stay keys grew more old mid cut new entry (line ∷ lines) [] states ahead on kept first premises gone = tt
all_stay keys grew more old mid cut new entry (line ∷ lines) (reply ∷ replies) [] ahead on kept first premises gone = tt
all_stay keys grew more old mid cut new entry (line ∷ lines) (reply ∷ replies) (state ∷ states) ahead on kept first premises (one, rest) = (
  if_destroyed reply (StaysDestroyed (keys ++ grew) old mid cut new entry line state (states ++ ahead))
      (λ number is. stays keys grew more old mid cut new entry line state (states ++ ahead) on kept first premises
      (subst (λ (r : Reply). IfDestroyed r (IsDestroyed old mid entry line state (states ++ ahead))) is one)),
  all_stay keys grew more old mid cut new state lines replies states ahead on kept first premises rest,
)

pub served_stay : (keys grew more : List (List ℕ)) (old mid : Outside) (cut new : History) (result : Result (Unit {0}) Halt) (left left_now written written_now : Option (List ℕ)) (serves : Serves (Unit {0}) (IsStart (Unit {0}) old) old mid result left left_now written written_now)
    → DisclosesOn keys grew old.history mid.history cut new → During old.history mid.history (Kept (keys ++ grew)) → AreFirst mid.history.present.recorded new.present.recorded → KeyPremises ((keys ++ grew) ++ more) new.present.recorded
    → AllStay (keys ++ grew) (IsStart (Unit {0}) old) old mid cut new result left left_now written written_now serves
served_stay keys grew more old mid cut new result left left_now written written_now (inl silent) on kept first premises = tt
served_stay keys grew more old mid cut new result left left_now written written_now (inr (ending, is, answers)) on kept first premises = λ entry from.
    let there = answers.led entry from in
    all_stay keys grew more old.history mid.history cut new entry answers.lines answers.replies there.on.led.states there.on.ahead on kept first premises there.destroyed

-- what each run discloses
pub record Both (keys grew more : List (List ℕ)) (old mid cut new : History) : Type 0 where
  pub one : DisclosesBy keys grew old mid
  pub two : DisclosesBy (keys ++ grew) more cut new
  pub first : AreFirst mid.present.recorded new.present.recorded

pub both_disclose : (drawn between drawn_now : Option (List (List ℕ))) (old mid cut new : History) (one : DisclosesTree (Unit {0}) drawn between old mid) (two : DisclosesTree (Unit {0}) between drawn_now cut new) (there last : Device)
    → MayLeave mid.present cut.present → Stands old.present (Some there) → IsServedImage old.present → Stands mid.present (Some last) → IsServedImage cut.present → (keys : List (List ℕ)) → Kept keys old.present
    → Both keys one.grew two.grew old mid cut new
both_disclose drawn between drawn_now old mid cut new one two there last lost stands served stands_last served_cut keys kept =
    let a : DisclosesBy keys one.grew old mid = one.only tt (Some there) stands served keys kept in
    let after : Kept (keys ++ one.grew) mid.present = During-now old mid (Kept (keys ++ one.grew)) a.kept in
    let b : DisclosesBy (keys ++ one.grew) two.grew cut new =
    two.only tt (Some last) (stands_left mid.present cut.present (Some last) lost stands_last) served_cut (keys ++ one.grew) (kept_left (keys ++ one.grew) mid.present cut.present (Some last) stands_last after lost) in
    record {
      one = a;
      two = b;
      first = subst (λ (pages : List (List ℕ)). AreFirst pages new.present.recorded) lost.recorded (Extends-earlier cut new b.kept.extends).recorded;
    }

pub both_on : (keys grew more : List (List ℕ)) (old mid cut new : History) → Both keys grew more old mid cut new → MayLeave mid.present cut.present → KeyPremises ((keys ++ grew) ++ more) new.present.recorded → DisclosesOn keys grew old mid cut new
both_on keys grew more old mid cut new both lost premises = discloses_on keys grew more old mid cut new both.one both.two lost premises
