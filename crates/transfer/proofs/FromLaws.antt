-- What a run leaves of the platform that a device is moved from.
use Rattle.std.proofs.Common.{◌≡◌, ◌≤◌, ◌⊎◌, ◌-◌, ◌∷◌, ◌∙◌, inl, inr, ℕ, List, [], Option, None, Some, Result, Ok, length, refl, sym, subst, arith}
use Rattle.std.specs.Prelude.{IfOk, IsOk}
use Rattle.sdbt_base.specs.Arrays.{Device, Session as OpenSession, State, closed, mounted, session_on}
use Rattle.platform.specs.declared.platforms.Platform.{Ghosts as PlatformGhosts}
use Rattle.platform.specs.Calls.{Looks}
use Rattle.platform.specs.Image.{Image}
use Rattle.platform.specs.History.{During, History, Turns}
use Rattle.platform.proofs.Moments.{During-now, Turns-after, Turns-not}
use Rattle.page_store.specs.Floors.{Forgets}
use Rattle.page_store.specs.Kept.{Kept}
use Rattle.page_store.specs.Stands.{IsSound, Stands}
use Rattle.page_store.proofs.StandsLaws.{one_device}
use Rattle.device_terms.specs.Served.{IsServedImage}
use Rattle.device_terms.proofs.MomentLaws.{still}
use Rattle.device_course.specs.Course.{Made, Promised}
use Rattle.device_course.specs.Keys.{KeepsOn}
use Rattle.device_course.specs.Marks.{Leaves}
use Rattle.device_course.specs.States.{IsAt, IsLater, IsListed, Outside}
use Rattle.device_course.proofs.CertifiedLaws.{certified_emptied}
use Rattle.device_course.proofs.CourseLaws.{course_ended, promised}
use Rattle.device_course.proofs.KeysLaws.{listed_image, on_done, on_kept, on_look, on_then}
use Rattle.device_course.proofs.MadeLaws.{made_closed, made_stopped, made_then, shut}
use Rattle.device_session.specs.Open.{IsOpen}
use Rattle.device_session.specs.Sessions.{Session}
use Rattle.device_session.proofs.GoingLaws.{forgets_nothing}
use Rattle.session_calls.specs.Along.{Along, Drawn}
use Rattle.session_calls.specs.Carrying.{IsReady}
use Rattle.session_calls.specs.Damage.{IsMounted}
use Rattle.session_calls.specs.Mounts.{IsFound, MountLeads}
use Rattle.session_calls.specs.declared.stops.DeviceStop.{DeviceStop}
use Rattle.session_calls.proofs.CallLaws.{no_draw}
use Rattle.session_calls.proofs.CarryLaws.{stays_at}
use Rattle.session_calls.proofs.SpanLaws.{led_of}
use Rattle.session_calls.proofs.StateLaws.{with_array}
use Rattle.transfer.specs.Program.{FromAlone, LeavesDevice}
use Rattle.transfer.specs.Running.{Clears, alone}

-- ---- a look

-- a session goes on behind a look that isn't its own
pub look_along : {S : Type 0} (P : PlatformGhosts S) (platform platform_now : S) (drawn : Drawn) (session : Session) → IsOpen session (P.head platform) → Looks P platform platform_now → Along P 0 (P.reads platform_now - P.reads platform) platform platform_now drawn drawn session session
look_along P platform platform_now drawn session there_open looks = record {
  is_open = subst (IsOpen session) (sym looks.head) there_open;
  mounted = λ told m. subst (λ (i : Image). IsMounted i session) (sym (looks.image told)) m;
  blocks = refl;
  forgets = forgets_nothing session;
  cell = looks.time;
  capacity = looks.capacity;
  rises = omega (arith, looks.head);
  adds = omega (arith, looks.head);
  needs = omega arith;
  reads = λ told. omega arith;
  changes = looks.changes;
  keeps = λ written. on_look P.tells drawn.keys written (Some session) (P.history platform) (P.history platform_now) (Unit {0}) (IsListed (Some session) (P.history platform_now).present) looks.image looks.time
      (λ told keys kept h. listed_image (Some session) (P.history platform).present (P.history platform_now).present keys (looks.image told) h);
  through = λ told entry at. (entry, subst (λ (i : Image). IsAt i (Some session) entry) (sym (looks.image told)) at);
  fell = record { platform = looks.faults; tape = omega arith; input = omega arith; output = omega arith; ledger = omega arith };
}

-- ---- the clearing

-- from what a clearing says: whatever its answer, behind calls of a session
pub clears_cleared : {S : Type 0} (P : PlatformGhosts S) (few : ℕ) (platform mid platform_now : S) (session now : Session) (Done : Type 0) → Along P 0 few platform mid no_draw no_draw session now
    → (P.tells → (device : Option Device) → Stands (P.history mid).present device → Turns (P.history mid) (P.history platform_now) (Leaves device) (Leaves None))
    → (P.tells → Turns (P.history mid) (P.history platform_now) (λ image. image.cell ≡ (P.history mid).present.cell) (λ image. image.cell ≡ None))
    → (P.tells → length (P.history platform_now).present.recorded ≡ length (P.history mid).present.recorded)
    → (P.tells → (keys : List (List ℕ)) → Kept keys (P.history mid).present → During (P.history mid) (P.history platform_now) (Kept keys))
    → (P.tells → IsSound (P.history mid).present → Forgets (P.history mid) (P.history platform_now))
    → (P.tells → IsServedImage (P.history mid).present → During (P.history mid) (P.history platform_now) IsServedImage)
    → P.head platform_now ≡ P.head mid → P.capacity platform_now ≡ P.capacity mid → (P.tells → Done → Stands (P.history platform_now).present None)
    → Clears P.tells (Some session) (alone P platform) (alone P platform_now) Done
clears_cleared P few platform mid platform_now session now Done along time turns size kept forgets serves head capacity done = record {
  head = head ∙ same_head;
  capacity = capacity ∙ along.capacity;
  turns = λ told. Turns-after first second third (λ image. image.cell ≡ first.present.cell) (λ image. image.cell ≡ None) (along.cell told)
      (subst (λ (cell : Option (List ℕ)). Turns second third (λ image. image.cell ≡ cell) (λ image. image.cell ≡ None)) (During-now first second (λ image. image.cell ≡ first.present.cell) (along.cell told)) (turns told));
  keeps = on_then P.tells None None None None None None (Some session) (Some now) first second third (Unit {0}) (Unit {0}) (λ keys. Unit {0}) tt (along.keeps None)
      (on_kept P.tells None None (Some now) second third (Unit {0}) (λ keys. Unit {0}) (λ told. (turns told).extends) size kept forgets (λ told keys h. tt) serves (certified_emptied P.tells None second third (Unit {0}) turns) turns)
      along.through;
  made = λ told entry at. by told entry at (along.through told entry at);
}
  where
    first : History
    first = P.history platform

    second : History
    second = P.history mid

    third : History
    third = P.history platform_now

    same_head : P.head mid ≡ P.head platform
    same_head = omega (arith, along.rises, along.adds)

    -- over a device with the session's array on it
    go : P.tells → (entry : State) → Stands first.present entry.device → (d : Device) (array : OpenSession) → IsAt second.present (Some now) (mounted d array)
        → ((Done → ⊥) × Made first third None entry [] (closed entry.device)) ⊎ Made first third None entry (None ∷ []) (closed None)
    go told entry stands d array here =
        let one : Made first second (Some now) entry [] (mounted d array) = stays_at first second (Some now) entry (mounted d array) (along.cell told) stands here in
        let served_then : IsServedImage third.present = During-now second third IsServedImage (serves told here.served) in
        elim (made_stopped second third (mounted d array) None here.there.device served_then (time told (Some d) here.there.device))
        as (λ e. ((Done → ⊥) × Made first third None entry [] (closed entry.device)) ⊎ Made first third None entry (None ∷ []) (closed None)) [
          | inl stood ↦ inl (
            λ all. absurd (let is : Some d ≡ None = one_device third.present (Some d) None stood.exits.there.device (done told all) in cc),
            subst (λ (x : Option Device). Made first third None entry [] (closed x)) one.last (made_then first second third (Some now) None entry (mounted d array) (closed (Some d)) [] [] one stood),
          )
          | inr empty ↦ inr (made_then first second third (Some now) None entry (mounted d array) (closed None) [] (None ∷ []) one empty)
        ]

    by : P.tells → (entry : State) → IsAt first.present (Some session) entry → (next : State) × IsAt second.present (Some now) next
        → ((Done → ⊥) × Made first third None entry [] (closed entry.device)) ⊎ Made first third None entry (None ∷ []) (closed None)
    by told entry at (next, there) =
        with_array second.present now next there (λ state. ((Done → ⊥) × Made first third None entry [] (closed entry.device)) ⊎ Made first third None entry (None ∷ []) (closed None)) (go told entry at.there.device)

-- calls of a session alone, behind which the run stopped
pub clears_not : {S : Type 0} (P : PlatformGhosts S) (few : ℕ) (platform platform_now : S) (session now : Session) (Done : Type 0) → (Done → ⊥) → Along P 0 few platform platform_now no_draw no_draw session now → Clears P.tells (Some session) (alone P platform) (alone P platform_now) Done
clears_not P few platform platform_now session now Done never along = record {
  head = omega (arith, along.rises, along.adds);
  capacity = along.capacity;
  turns = λ told. Turns-not (P.history platform) (P.history platform_now) (λ image. image.cell ≡ (P.history platform).present.cell) (λ image. image.cell ≡ None) (along.cell told);
  keeps = on_done P.tells None None None None (Some session) (P.history platform) (P.history platform_now) (Unit {0}) (Unit {0}) (IsListed (Some now) (P.history platform_now).present) (λ keys. Unit {0}) (along.keeps None) (λ going. tt) (λ keys done. tt);
  made = λ told entry at.
      let next = along.through told entry at in
      let one : Made (P.history platform) (P.history platform_now) (Some now) entry [] next.0 = stays_at (P.history platform) (P.history platform_now) (Some now) entry next.0 (along.cell told) at.there.device next.1 in
      inl (never, subst (λ (x : Option Device). Made (P.history platform) (P.history platform_now) None entry [] (closed x)) one.last (made_closed (P.history platform) (P.history platform_now) (Some now) entry next.0 [] one));
}

-- ---- a mount

-- that found no session, or stopped
pub clears_look : {S : Type 0} (P : PlatformGhosts S) (platform platform_now : S) (Done : Type 0) → (Done → ⊥) → Looks P platform platform_now → Clears P.tells None (alone P platform) (alone P platform_now) Done
clears_look P platform platform_now Done never looks = record {
  head = looks.head;
  capacity = looks.capacity;
  turns = λ told. Turns-not (P.history platform) (P.history platform_now) (λ image. image.cell ≡ (P.history platform).present.cell) (λ image. image.cell ≡ None) (looks.time told);
  keeps = on_look P.tells None None None (P.history platform) (P.history platform_now) (Unit {0}) (λ keys. Unit {0}) looks.image looks.time (λ told keys kept h. tt);
  made = λ told entry at.
      let after : IsAt (P.history platform_now).present None (closed entry.device) =
      shut (P.history platform_now).present entry.device (subst (λ (i : Image). Stands i entry.device) (sym (looks.image told)) at.there.device) (subst IsServedImage (sym (looks.image told)) at.served) in
      inl (never, stays_at (P.history platform) (P.history platform_now) None entry (closed entry.device) (looks.time told) at.there.device after);
}

-- that found a session
pub ready_found : {S : Type 0} (P : PlatformGhosts S) (platform mid : S) (session : Session) (result : Result (Option Session) DeviceStop) → result ≡ Ok (Some session) → IfOk result (IsFound P 256 platform mid) → IsReady P.tells (alone P mid) session
ready_found P platform mid session result is finds =
    let found : IsFound P 256 platform mid (Some session) = subst (λ (r : Result (Option Session) DeviceStop). IfOk r (IsFound P 256 platform mid)) is finds in
    record { is_open = found.0.is_open; mounted = found.1 }

pub clears_mounted : {S : Type 0} (P : PlatformGhosts S) (platform mid platform_now : S) (session : Session) (Done : Type 0) (result : Result (Option Session) DeviceStop) → result ≡ Ok (Some session) → Looks P platform mid
    → KeepsOn P.tells None None None None None (P.history platform) (P.history mid) (IsOk result) (λ keys. IfOk result (λ found. IsListed found (P.history mid).present keys))
    → (P.tells → (entry : State) → IsAt (P.history platform).present None entry → MountLeads (P.history mid).present entry result)
    → Clears P.tells (Some session) (alone P mid) (alone P platform_now) Done → Clears P.tells None (alone P platform) (alone P platform_now) Done
clears_mounted P platform mid platform_now session Done result is looks opened leads clears = record {
  head = clears.head ∙ looks.head;
  capacity = clears.capacity ∙ looks.capacity;
  turns = λ told. Turns-after first second third (λ image. image.cell ≡ first.present.cell) (λ image. image.cell ≡ None) (looks.time told)
      (subst (λ (cell : Option (List ℕ)). Turns second third (λ image. image.cell ≡ cell) (λ image. image.cell ≡ None)) (During-now first second (λ image. image.cell ≡ first.present.cell) (looks.time told)) (clears.turns told));
  keeps = on_then P.tells None None None None None None None (Some session) first second third (Unit {0}) (Unit {0}) (λ keys. Unit {0}) tt
      (on_done P.tells None None None None None first second (IsOk {T = Option Session} {E = DeviceStop} (Ok (Some session))) (Unit {0}) (IsListed (Some session) second.present) (IsListed (Some session) second.present)
      (subst (λ (r : Result (Option Session) DeviceStop). KeepsOn P.tells None None None None None first second (IsOk r) (λ keys. IfOk r (λ found. IsListed found second.present keys))) is opened) (λ going. refl) (λ keys h. h))
      clears.keeps
      (λ told entry at.
      let l = led told entry at in
      (mounted l.0 (session_on l.0), l.2));
  made = λ told entry at.
      let l = led told entry at in
      let state : State = mounted l.0 (session_on l.0) in
      let one : Made first second (Some session) entry [] state = stays_at first second (Some session) entry state (looks.time told) at.there.device l.2 in
      elim (clears.made told state l.2) as (λ e. ((Done → ⊥) × Made first third None entry [] (closed entry.device)) ⊎ Made first third None entry (None ∷ []) (closed None)) [
        | inl stood ↦ inl (stood.0, subst (λ (x : Option Device). Made first third None entry [] (closed x)) one.last (made_then first second third (Some session) None entry state (closed (Some l.0)) [] [] one stood.1))
        | inr empty ↦ inr (made_then first second third (Some session) None entry state (closed None) [] (None ∷ []) one empty)
      ];
}
  where
    first : History
    first = P.history platform

    second : History
    second = P.history mid

    third : History
    third = P.history platform_now

    led : P.tells → (entry : State) → IsAt first.present None entry → (there : Device) × (entry ≡ closed (Some there)) × IsAt second.present (Some session) (mounted there (session_on there))
    led told entry at = led_of second.present session entry (subst (MountLeads second.present entry) is (leads told entry at))

-- ---- the whole run

-- less is asked
pub clears_weaker : (tells : Type 0) (before : Option Session) (old new : Outside) (Was Done : Type 0) → (Done → Was) → Clears tells before old new Was → Clears tells before old new Done
clears_weaker tells before old new Was Done was c = record {
  head = c.head;
  capacity = c.capacity;
  turns = c.turns;
  keeps = c.keeps;
  made = λ told entry at. elim (c.made told entry at) as (λ e. ((Done → ⊥) × Made old.history new.history None entry [] (closed entry.device)) ⊎ Made old.history new.history None entry (None ∷ []) (closed None)) [
    | inl stood ↦ inl ((λ all. stood.0 (was all)), stood.1)
    | inr empty ↦ inr empty
  ];
}

pub promised_of : (tells : Type 0) (told : tells) (old new : Outside) (there : Device) (exit : State) (marks : List (Option Device)) → Stands old.history.present (Some there) → IsServedImage old.history.present → IsLater old new
    → KeepsOn tells old.drawn new.drawn old.written new.written None old.history new.history (Unit {0}) (λ keys. Unit {0}) → Made old.history new.history None (closed (Some there)) marks (closed exit.device) → Promised old new (Some there) marks
unfolding course_ended
promised_of tells told old new there exit marks stands served later keeps made =
    promised (Unit {0}) old new None (Some there) (closed exit.device) marks stands served (course_ended tells (Unit {0}) told old new None (closed (Some there)) (closed exit.device) marks (λ keys. Unit {0}) made later keeps)

pub from_alone : (tells : Type 0) (old new : Outside) (status : ℕ) (Done : Type 0) → (status ≡ 0 → Done) → new.head ≤ new.capacity → Clears tells None old new Done → FromAlone tells old new status
from_alone tells old new status Done done room c = record {
  stays = record { served = λ told served. c.keeps.serves told served; head = omega (arith, c.head); capacity = c.capacity };
  pages = c.head;
  turns = c.turns;
  leaves = λ told there stands served. elim (c.made told (closed (Some there)) (shut old.history.present (Some there) stands served)) as (λ e. LeavesDevice old new status there) [
    | inl stood ↦ record {
      marks = [];
      promised = promised_of tells told old new there (closed (Some there)) [] stands served later c.keeps stood.1;
      cleared = inl refl;
      done = λ zero. absurd (stood.0 (done zero));
    }
    | inr empty ↦ record {
      marks = None ∷ [];
      promised = promised_of tells told old new there (closed None) (None ∷ []) stands served later c.keeps empty;
      cleared = inr refl;
      done = λ zero. refl;
    }
  ];
}
  where
    later : IsLater old new
    later = record { capacity = c.capacity; rises = omega (arith, c.head); within = room }

-- no run
pub clears_nothing : {S : Type 0} (P : PlatformGhosts S) (platform : S) (Done : Type 0) → (Done → ⊥) → Clears P.tells None (alone P platform) (alone P platform) Done
clears_nothing P platform Done never = clears_look P platform platform Done never (record {
  image = λ told. refl;
  time = λ told. still (P.history platform);
  head = refl;
  capacity = refl;
  changes = λ told. refl;
  faults = omega arith;
})
