-- What a run leaves of the platform that a device is moved to.
use Rattle.std.proofs.Common.{◌≡◌, ◌≢◌, ◌≤◌, ◌∷◌, ◌++◌, ◌∙◌, inl, inr, ℕ, List, [], Option, None, Some, Result, Ok, Err, refl, sym, ap, subst, arith}
use Rattle.std.specs.Prelude.{IfErr, IfOk, IsOk, ⊤}
use Rattle.sdbt_base.specs.Arrays.{Device, State, closed, mounted, new_device, session_on}
use Rattle.platform.specs.declared.platforms.Platform.{Ghosts as PlatformGhosts}
use Rattle.platform.specs.Calls.{Looks}
use Rattle.platform.specs.Image.{Image}
use Rattle.platform.specs.History.{CellStays, History, Turns}
use Rattle.platform.proofs.Moments.{During-now}
use Rattle.page_store.specs.Stands.{IsSound, Stands}
use Rattle.page_store.proofs.StandsLaws.{one_device}
use Rattle.device_core.specs.Certifying.{IsOfFormat}
use Rattle.device_terms.specs.Certifying.{Certifies}
use Rattle.device_terms.specs.Effects.{Discloses}
use Rattle.device_terms.specs.Served.{IsServedImage}
use Rattle.device_terms.proofs.MomentLaws.{still}
use Rattle.device_course.specs.Course.{Made, Promised}
use Rattle.device_course.specs.Fitting.{PutsBehindPages}
use Rattle.device_course.specs.Keys.{KeepsOn}
use Rattle.device_course.specs.Marks.{Leaves, last_mark}
use Rattle.device_course.specs.States.{IsAt, IsLater, IsListed, Outside}
use Rattle.device_course.proofs.CertifiedLaws.{certified_format, certified_going}
use Rattle.device_course.proofs.CourseLaws.{course_ended, promised}
use Rattle.device_course.proofs.FitsLaws.{fitting_formatted}
use Rattle.device_course.proofs.KeysLaws.{listed_image, on_call, on_done, on_look, on_then}
use Rattle.device_course.proofs.MadeLaws.{made_closed, made_one, made_stopped, made_then, shut}
use Rattle.device_course.proofs.ProgramLaws.{keeps_ledger}
use Rattle.device_course.proofs.ReachingLaws.{discloses}
use Rattle.device_session.specs.Open.{IsOpen, number_of}
use Rattle.device_session.specs.Sessions.{Session}
use Rattle.session_calls.specs.Carrying.{Carries}
use Rattle.session_calls.specs.Damage.{IsMounted}
use Rattle.session_calls.specs.Mounts.{IsFound, MountLeads}
use Rattle.session_calls.specs.declared.stops.DeviceStop.{DeviceStop}
use Rattle.session_calls.proofs.CarryLaws.{stays_at}
use Rattle.transfer.specs.Program.{ToAlone}
use Rattle.session_calls.specs.Spans.{Spans}
use Rattle.transfer.specs.Running.{IsOpened, Opens}

-- ---- a part that only looks

pub spans_look : {S : Type 0} (P : PlatformGhosts S) (old new : Outside) (Going : Type 0) → new.drawn ≡ old.drawn → new.written ≡ old.written → new.head ≡ old.head → new.capacity ≡ old.capacity → new.head ≤ new.capacity
    → (P.tells → new.history.present ≡ old.history.present) → (P.tells → CellStays old.history new.history) → Spans P.tells old new Going
spans_look P old new Going undrawn unput head capacity room same stays = record {
  later = record { capacity = capacity; rises = omega (arith, head); within = room };
  keeps =
      subst (λ (d : Option (List (List ℕ))). KeepsOn P.tells d new.drawn old.written new.written None old.history new.history Going (λ keys. Unit {0})) undrawn
      (subst (λ (w : Option (List ℕ)). KeepsOn P.tells new.drawn new.drawn w new.written None old.history new.history Going (λ keys. Unit {0})) unput
      (on_look P.tells new.drawn new.written None old.history new.history Going (λ keys. Unit {0}) same stays (λ told keys kept h. tt)));
  made = λ told there stands served.
      let after : IsAt new.history.present None (closed there) = shut new.history.present there (subst (λ (i : Image). Stands i there) (sym (same told)) stands) (subst IsServedImage (sym (same told)) served) in
      ([], stays_at old.history new.history None (closed there) (closed there) (stays told) stands after);
}

-- no call
pub spans_not : {S : Type 0} (P : PlatformGhosts S) (here : Outside) (Going : Type 0) → here.head ≤ here.capacity → Spans P.tells here here Going
spans_not P here Going room = spans_look P here here Going refl refl refl refl room (λ told. refl) (λ told. still here.history)

-- less is known of whether the run goes on
pub spans_more : (tells : Type 0) (old new : Outside) (Was Going : Type 0) → (Going → Was) → Spans tells old new Was → Spans tells old new Going
spans_more tells old new Was Going was spans = record {
  later = spans.later;
  keeps = on_done tells old.drawn new.drawn old.written new.written None old.history new.history Was Going (λ keys. Unit {0}) (λ keys. Unit {0}) spans.keeps was (λ keys h. h);
  made = spans.made;
}

-- ---- a session is opened

-- a mount that found none found an empty cell
pub found_none : {S : Type 0} (P : PlatformGhosts S) (platform platform_now : S) (result : Result (Option Session) DeviceStop) → result ≡ Ok None → IfOk result (IsFound P 256 platform platform_now) → P.tells → (P.history platform).present.cell ≡ None
found_none P platform platform_now result is finds = subst (λ (r : Result (Option Session) DeviceStop). IfOk r (IsFound P 256 platform platform_now)) is finds

-- what is done with it
pub spans_opened : (tells : Type 0) (blocks order : ℕ) (old mid new : Outside) (session : Session) (Going : Type 0) → new.head ≤ new.capacity → Opens tells blocks order old mid session → Carries tells mid new session None Going → Spans tells old new Going
spans_opened tells blocks order old mid new session Going room opens carries = record {
  later = record { capacity = carries.capacity ∙ opens.capacity; rises = omega (arith, opens.rises, carries.rises); within = room };
  keeps = on_then tells old.drawn mid.drawn new.drawn old.written mid.written new.written None (Some session) old.history mid.history new.history (Unit {0}) Going (λ keys. Unit {0}) tt opens.keeps carries.keeps
      (λ told entry at. through told entry at);
  made = λ told there stands served.
      let o = opens.made told there stands served in
      let state : State = mounted o.1 (session_on o.1) in
      let m = carries.made told state o.4.exits in
      let all : Made old.history new.history None (closed there) (o.0 ++ m.0) m.1 = made_then old.history mid.history new.history (Some session) None (closed there) state m.1 o.0 m.0 o.4 m.2 in
      let shut_all : Made old.history new.history None (closed there) (o.0 ++ m.0) (closed m.1.device) = made_closed old.history new.history None (closed there) m.1 (o.0 ++ m.0) all in
      (o.0 ++ m.0, subst (λ (d : Option Device). Made old.history new.history None (closed there) (o.0 ++ m.0) (closed d)) all.last shut_all);
}
  where
    through : tells → (entry : State) → IsAt old.history.present None entry → (now : State) × IsAt mid.history.present (Some session) now
    through told entry at =
        let o = opens.made told entry.device at.there.device at.served in
        (mounted o.1 (session_on o.1), o.4.exits)

-- from which state a mount that found a session led to which
led_of : (image : Image) (session : Session) (there : Option Device) → MountLeads image (closed there) (Ok (Some session)) → (d : Device) × (there ≡ Some d) × (number_of session ≡ d.number) × IsAt image (Some session) (mounted d (session_on d))
led_of image session there (d, is, at, number) = (d, ap (λ (s : State). s.device) is, number, at)

pub opens_found : {S : Type 0} (P : PlatformGhosts S) (blocks order : ℕ) (platform platform_now : S) (old new : Outside) (session : Session) (result : Result (Option Session) DeviceStop) → result ≡ Ok (Some session)
    → old.history ≡ P.history platform → new.history ≡ P.history platform_now → old.head ≡ P.head platform → new.head ≡ P.head platform_now → old.capacity ≡ P.capacity platform → new.capacity ≡ P.capacity platform_now → Looks P platform platform_now
    → IfOk result (IsFound P 256 platform platform_now)
    → KeepsOn P.tells old.drawn new.drawn old.written new.written None old.history new.history (IsOk result) (λ keys. IfOk result (λ found. IsListed found new.history.present keys))
    → (P.tells → (entry : State) → IsAt old.history.present None entry → MountLeads new.history.present entry result) → Opens P.tells blocks order old new session
opens_found P blocks order platform platform_now old new session result is was now head head_now room room_now looks finds opened leads = record {
  ready = record {
    is_open = subst (λ (n : ℕ). IsOpen session n) (sym head_now) found.0.is_open;
    mounted = λ told. subst (λ (h : History). IsMounted h.present session) (sym now) (found.1 told);
  };
  capacity = room_now ∙ looks.capacity ∙ sym room;
  rises = omega (arith, head, head_now, looks.head);
  keeps = on_done P.tells old.drawn new.drawn old.written new.written None old.history new.history (IsOk {T = Option Session} {E = DeviceStop} (Ok (Some session))) (Unit {0}) (IsListed (Some session) new.history.present) (IsListed (Some session) new.history.present)
      (subst (λ (r : Result (Option Session) DeviceStop). KeepsOn P.tells old.drawn new.drawn old.written new.written None old.history new.history (IsOk r) (λ keys. IfOk r (λ found. IsListed found new.history.present keys))) is opened) (λ going. refl) (λ keys h. h);
  made = λ told there stands served.
      let l = led_of new.history.present session there (subst (MountLeads new.history.present (closed there)) is (leads told (closed there) (shut old.history.present there stands served))) in
      ([], l.0, inl (l.1, refl), l.2, stays_at old.history new.history (Some session) (closed there) (mounted l.0 (session_on l.0)) (stays told) stands l.3);
}
  where
    found : IsFound P 256 platform platform_now (Some session)
    found = subst (λ (r : Result (Option Session) DeviceStop). IfOk r (IsFound P 256 platform platform_now)) is finds

    stays : P.tells → CellStays old.history new.history
    stays told = subst (λ (h : History). CellStays h new.history) (sym was) (subst (λ (h : History). CellStays (P.history platform) h) (sym now) (looks.time told))

-- ---- a device is made

-- there was none, and now there is one of so many blocks and of this order
pub record Formatted (tells : Type 0) (blocks order : ℕ) (old new : Outside) : Type 0 where
  pub capacity : new.capacity ≡ old.capacity
  pub rises : old.head ≤ new.head
  pub keeps : KeepsOn tells old.drawn new.drawn old.written new.written None old.history new.history (Unit {0}) (IsListed None new.history.present)
  pub made : tells → (there : Option Device) → Stands old.history.present there → IsServedImage old.history.present
      → (there ≡ None) × Made old.history new.history None (closed there) (Some (new_device blocks order) ∷ []) (closed (Some (new_device blocks order)))

-- what a format keeps, whatever its answer
pub format_keeps : {X Y : Type 0} (tells : Type 0) (drawn drawn_now : Option (List (List ℕ))) (written written_now : Option (List ℕ)) (old new : History) (base : ℕ) (result : Result X Y) (Going : Type 0) (Done : List (List ℕ) → Type 0)
    → Discloses tells drawn drawn_now old new (λ keys. IsSound old.present) (λ keys. ⊤) → (tells → old.present.cell ≢ None → CellStays old new) → (tells → IsOk result → old.present.cell ≡ None)
    → Certifies tells written written_now old new base 0 (IsOfFormat old.present new.present) (IsOk result) → (tells → PutsBehindPages written written_now old new) → (Going → IsOk result) → (tells → (keys : List (List ℕ)) → Done keys)
    → KeepsOn tells drawn drawn_now written written_now None old new Going Done
format_keeps tells drawn drawn_now written written_now old new base result Going Done discloses full empty certifies behind going done =
    on_call tells drawn drawn_now written written_now None old new Going (λ keys. IsSound old.present) (λ keys. ⊤) Done discloses.keys (λ told keys h. h) (λ told keys h. discloses.forgets told keys h) (λ told keys more h then'. done told (keys ++ more)) discloses.serves
    (certified_going tells written written_now old new (IsOk result) Going going (certified_format tells written written_now old new base (IsOfFormat old.present new.present) result discloses.turns full empty certifies))
    (fitting_formatted tells written written_now old new None base (IsOk result) (λ told sound. discloses.forgets told [] sound) certifies behind)

-- where the cell is empty there is no device
none_there : (image : Image) (there : Option Device) → image.cell ≡ None → Stands image there → there ≡ None
none_there image there empty stands = one_device image there None stands empty

pub formatted_made : (blocks order : ℕ) (old new : History) (there : Option Device) → old.present.cell ≡ None → Stands old.present there → Stands new.present (Some (new_device blocks order)) → IsServedImage new.present
    → Turns old new (Leaves there) (Leaves (Some (new_device blocks order))) → (there ≡ None) × Made old new None (closed there) (Some (new_device blocks order) ∷ []) (closed (Some (new_device blocks order)))
formatted_made blocks order old new there empty stands stands_now served turns = (
  none_there old.present there empty stands,
  made_one old new None (closed there) (closed (Some (new_device blocks order))) (Some (new_device blocks order)) stands turns (shut new.present (Some (new_device blocks order)) stands_now served),
)

-- by the clauses of a format that was done
pub formatted_of : {X : Type 0} (Y : Type 0) (tells : Type 0) (blocks order : ℕ) (old new : Outside) (base : ℕ) (x : X) → new.capacity ≡ old.capacity → old.head ≤ new.head
    → Discloses tells old.drawn new.drawn old.history new.history (λ keys. IsSound old.history.present) (λ keys. ⊤) → (tells → old.history.present.cell ≢ None → CellStays old.history new.history) → (tells → old.history.present.cell ≡ None)
    → Certifies tells old.written new.written old.history new.history base 0 (IsOfFormat old.history.present new.history.present) (IsOk {T = X} {E = Y} (Ok x)) → (tells → PutsBehindPages old.written new.written old.history new.history)
    → (tells → Stands new.history.present (Some (new_device blocks order))) → (tells → IsServedImage new.history.present)
    → (tells → (there : Option Device) → Stands old.history.present there → Turns old.history new.history (Leaves there) (Leaves (Some (new_device blocks order)))) → Formatted tells blocks order old new
formatted_of {X = X} Y tells blocks order old new base x capacity rises disclosed full empty certifies behind stands_now served_now turns = record {
  capacity = capacity;
  rises = rises;
  keeps = format_keeps {X = X} {Y = Y} tells old.drawn new.drawn old.written new.written old.history new.history base (Ok x) (Unit {0}) (IsListed None new.history.present) disclosed full (λ told ok. empty told) certifies behind (λ going. refl)
      (λ told keys. (Some (new_device blocks order), stands_now told));
  made = λ told there stands served. formatted_made blocks order old.history new.history there (empty told) stands (stands_now told) (served_now told) (turns told there stands);
}

-- a format that was not done made nothing, or that device
pub spans_unformatted : (tells : Type 0) (blocks order : ℕ) (old new : Outside) → IsLater old new → KeepsOn tells old.drawn new.drawn old.written new.written None old.history new.history ⊥ (λ keys. Unit {0})
    → (tells → (there : Option Device) → Stands old.history.present there → Turns old.history new.history (Leaves there) (Leaves (Some (new_device blocks order)))) → Spans tells old new ⊥
spans_unformatted tells blocks order old new later keeps turns = record {
  later = later;
  keeps = keeps;
  made = λ told there stands served.
      let next : Option Device = Some (new_device blocks order) in
      elim (made_stopped old.history new.history (closed there) next stands (During-now old.history new.history IsServedImage (keeps.serves told served)) (turns told there stands))
      as (λ e. (marks : List (Option Device)) × Made old.history new.history None (closed there) marks (closed (last_mark there marks))) [ inl none ↦ ([], none) | inr one ↦ (next ∷ [], one) ];
}

-- ---- what is done behind that

-- nothing more, or a mount that found no session
pub spans_formatted : (tells : Type 0) (blocks order : ℕ) (old mid new : Outside) (Going : Type 0) → Formatted tells blocks order old mid → Spans tells mid new Going → Spans tells old new Going
spans_formatted tells blocks order old mid new Going formatted spans = record {
  later = record { capacity = spans.later.capacity ∙ formatted.capacity; rises = omega (arith, formatted.rises, spans.later.rises); within = spans.later.within };
  keeps = on_then tells old.drawn mid.drawn new.drawn old.written mid.written new.written None None old.history mid.history new.history (Unit {0}) Going (λ keys. Unit {0}) tt formatted.keeps spans.keeps
      (λ told entry at.
      let m = formatted.made told entry.device at.there.device at.served in
      (closed (Some (new_device blocks order)), m.1.exits));
  made = λ told there stands served.
      let m = formatted.made told there stands served in
      let next : Option Device = Some (new_device blocks order) in
      let s = spans.made told next m.1.exits.there.device m.1.exits.served in
      let all : Made old.history new.history None (closed there) (next ∷ s.0) (closed (last_mark next s.0)) = made_then old.history mid.history new.history None None (closed there) (closed next) (closed (last_mark next s.0)) (next ∷ []) s.0 m.1 s.1 in
      (next ∷ s.0, all);
}

-- a session on it
pub opens_formatted : (tells : Type 0) (blocks order : ℕ) (old mid new : Outside) (session : Session) → Formatted tells blocks order old mid → Opens tells blocks order mid new session → Opens tells blocks order old new session
opens_formatted tells blocks order old mid new session formatted opens = record {
  ready = opens.ready;
  capacity = opens.capacity ∙ formatted.capacity;
  rises = omega (arith, formatted.rises, opens.rises);
  keeps = on_then tells old.drawn mid.drawn new.drawn old.written mid.written new.written None None old.history mid.history new.history (Unit {0}) (Unit {0}) (IsListed (Some session) new.history.present) tt formatted.keeps opens.keeps
      (λ told entry at.
      let m = formatted.made told entry.device at.there.device at.served in
      (closed (Some (new_device blocks order)), m.1.exits));
  made = λ told there stands served.
      let next : Device = new_device blocks order in
      let m = formatted.made told there stands served in
      let o = opens.made told (Some next) m.1.exits.there.device m.1.exits.served in
      let all : Made old.history new.history (Some session) (closed there) (Some next ∷ o.0) (mounted o.1 (session_on o.1)) = made_then old.history mid.history new.history None (Some session) (closed there) (closed (Some next)) (mounted o.1 (session_on o.1)) (Some next ∷ []) o.0 m.1 o.4 in
      (Some next ∷ o.0, o.1, opened_on there next o.0 o.1 m.0 refl o.2, o.3, all);
}
  where
    opened_on : (there : Option Device) (next : Device) (marks : List (Option Device)) (opened : Device) → there ≡ None → next ≡ new_device blocks order → IsOpened (Some next) marks opened blocks order → IsOpened there (Some next ∷ marks) opened blocks order
    opened_on there next marks opened none is (inl (same, nothing)) =
        let one : opened ≡ next = (let both : Some next ≡ Some opened = same in cc) in
        let list : Some next ∷ marks ≡ Some opened ∷ [] = (let both : Some next ≡ Some opened = same in let none_more : marks ≡ [] = nothing in cc) in
        inr (none, one ∙ is, list)
    opened_on there next marks opened none is (inr (never, is_new, more)) = absurd (let no : Some next ≡ None = never in cc)

-- ---- behind a look

-- nothing but a look
pub record Idles (tells : Type 0) (old new : Outside) : Type 0 where
  pub image : tells → new.history.present ≡ old.history.present
  pub time : tells → CellStays old.history new.history
  pub head : new.head ≡ old.head
  pub capacity : new.capacity ≡ old.capacity
  pub drawn : new.drawn ≡ old.drawn
  pub written : new.written ≡ old.written

idle_keeps : (tells : Type 0) (old new : Outside) → Idles tells old new → KeepsOn tells old.drawn new.drawn old.written new.written None old.history new.history (Unit {0}) (IsListed None new.history.present)
idle_keeps tells old new idles =
    subst (λ (d : Option (List (List ℕ))). KeepsOn tells d new.drawn old.written new.written None old.history new.history (Unit {0}) (IsListed None new.history.present)) idles.drawn
    (subst (λ (w : Option (List ℕ)). KeepsOn tells new.drawn new.drawn w new.written None old.history new.history (Unit {0}) (IsListed None new.history.present)) idles.written
    (on_look tells new.drawn new.written None old.history new.history (Unit {0}) (IsListed None new.history.present) idles.image idles.time (λ told keys kept h. listed_image None old.history.present new.history.present keys (idles.image told) h)))

idle_made : (tells : Type 0) (old new : Outside) → Idles tells old new → tells → (there : Option Device) → Stands old.history.present there → IsServedImage old.history.present → Made old.history new.history None (closed there) [] (closed there)
idle_made tells old new idles told there stands served =
    let after : IsAt new.history.present None (closed there) = shut new.history.present there (subst (λ (i : Image). Stands i there) (sym (idles.image told)) stands) (subst IsServedImage (sym (idles.image told)) served) in
    stays_at old.history new.history None (closed there) (closed there) (idles.time told) stands after

opens_idle : (tells : Type 0) (blocks order : ℕ) (old mid new : Outside) (session : Session) → Idles tells old mid → Opens tells blocks order mid new session → Opens tells blocks order old new session
opens_idle tells blocks order old mid new session idles opens = record {
  ready = opens.ready;
  capacity = opens.capacity ∙ idles.capacity;
  rises = omega (arith, idles.head, opens.rises);
  keeps = on_then tells old.drawn mid.drawn new.drawn old.written mid.written new.written None None old.history mid.history new.history (Unit {0}) (Unit {0}) (IsListed (Some session) new.history.present) tt (idle_keeps tells old mid idles) opens.keeps
      (λ told entry at. (closed entry.device, (idle_made tells old mid idles told entry.device at.there.device at.served).exits));
  made = λ told there stands served.
      let m = idle_made tells old mid idles told there stands served in
      let o = opens.made told there m.exits.there.device m.exits.served in
      (o.0, o.1, o.2, o.3, made_then old.history mid.history new.history None (Some session) (closed there) (closed there) (mounted o.1 (session_on o.1)) [] o.0 m o.4);
}

spans_idle : (tells : Type 0) (old mid new : Outside) (Going : Type 0) → Idles tells old mid → Spans tells mid new Going → Spans tells old new Going
spans_idle tells old mid new Going idles spans = record {
  later = record { capacity = spans.later.capacity ∙ idles.capacity; rises = omega (arith, idles.head, spans.later.rises); within = spans.later.within };
  keeps = on_then tells old.drawn mid.drawn new.drawn old.written mid.written new.written None None old.history mid.history new.history (Unit {0}) Going (λ keys. Unit {0}) tt (idle_keeps tells old mid idles) spans.keeps
      (λ told entry at. (closed entry.device, (idle_made tells old mid idles told entry.device at.there.device at.served).exits));
  made = λ told there stands served.
      let m = idle_made tells old mid idles told there stands served in
      let s = spans.made told there m.exits.there.device m.exits.served in
      (s.0, made_then old.history mid.history new.history None None (closed there) (closed there) (closed (last_mark there s.0)) [] s.0 m s.1);
}

pub opens_behind : {X Y : Type 0} (tells : Type 0) (blocks order : ℕ) (old mid new : Outside) (session_of : X → Session) (result : Result X Y) → Idles tells old mid → IfOk result (λ x. Opens tells blocks order mid new (session_of x)) → IfOk result (λ x. Opens tells blocks order old new (session_of x))
opens_behind tells blocks order old mid new session_of (Ok x) idles opens = opens_idle tells blocks order old mid new (session_of x) idles opens
opens_behind tells blocks order old mid new session_of (Err y) idles opens = tt

pub spans_behind : {X Y : Type 0} (tells : Type 0) (old mid new : Outside) (Going : Type 0) (result : Result X Y) → Idles tells old mid → IfErr result (λ y. Spans tells mid new Going) → IfErr result (λ y. Spans tells old new Going)
spans_behind tells old mid new Going (Ok x) idles spans = tt
spans_behind tells old mid new Going (Err y) idles spans = spans_idle tells old mid new Going idles spans

-- ---- the whole run

pub promised_of : (tells Going : Type 0) (told : tells) (old new : Outside) (there : Option Device) (marks : List (Option Device)) → Stands old.history.present there → IsServedImage old.history.present → IsLater old new
    → KeepsOn tells old.drawn new.drawn old.written new.written None old.history new.history Going (λ keys. Unit {0}) → Made old.history new.history None (closed there) marks (closed (last_mark there marks)) → Promised old new there marks
unfolding course_ended
promised_of tells Going told old new there marks stands served later keeps made =
    promised Going old new None there (closed (last_mark there marks)) marks stands served (course_ended tells Going told old new None (closed there) (closed (last_mark there marks)) marks (λ keys. Unit {0}) made later keeps)

pub to_alone : (tells : Type 0) (old new : Outside) (status : ℕ) (Going : Type 0) → (status ≡ 0 → Going) → Spans tells old new Going → ToAlone tells old new status
to_alone tells old new status Going going spans = record {
  discloses = discloses tells old new Going (λ keys. Unit {0}) spans.later spans.keeps spans.made;
  ledger = keeps_ledger tells old new Going (status ≡ 0) going (record { later = spans.later; keeps = spans.keeps; made = spans.made });
  stays = record { served = λ told served. spans.keeps.serves told served; head = spans.later.rises; capacity = spans.later.capacity };
  came = λ told there stands served.
      let m = spans.made told there stands served in
      (m.0, promised_of tells Going told old new there m.0 stands served spans.later spans.keeps m.1);
}
