-- What a whole run does beside its replies.
use Rattle.std.proofs.Common.{◌≡◌, ◌≤◌, ℕ, List, [], Option, None, Some, Result, Ok, refl, sym, subst, ap, ◌∙◌, arith}
use Rattle.std.specs.Prelude.{IsOk, IfOk}
use Rattle.sdbt_base.specs.Arrays.{Device, Session as OpenSession, State, closed, mounted, session_on}
use Rattle.platform.specs.Image.{Image}
use Rattle.platform.specs.History.{CellStays}
use Rattle.page_store.specs.Stands.{Stands}
use Rattle.device_terms.specs.Served.{IsServedImage}
use Rattle.device_course.specs.Course.{Made}
use Rattle.device_course.specs.Held.{Held, state_of}
use Rattle.device_course.specs.Keys.{KeepsOn}
use Rattle.device_course.specs.States.{IsAt, IsListed, Outside}
use Rattle.device_course.proofs.KeysLaws.{on_look, on_then}
use Rattle.device_course.proofs.MadeLaws.{made_closed, made_then, shut}
use Rattle.device_session.specs.Sessions.{Session}
use Rattle.session_calls.specs.Carrying.{Carries}
use Rattle.session_calls.specs.Mounts.{MountLeads}
use Rattle.session_calls.specs.declared.stops.DeviceStop.{DeviceStop}
use Rattle.session_calls.proofs.CarryLaws.{stays_at}
use Rattle.session_calls.specs.Spans.{Spans}

-- a run that only looks
pub spans_look : (tells : Type 0) (old new : Outside) (Going : Type 0) → new.drawn ≡ old.drawn → new.written ≡ old.written → new.head ≡ old.head → new.capacity ≡ old.capacity → new.head ≤ new.capacity
    → (tells → new.history.present ≡ old.history.present) → (tells → CellStays old.history new.history) → Spans tells old new Going
spans_look tells old new Going undrawn unput head capacity room same stays = record {
  later = record { capacity = capacity; rises = omega (arith, head); within = room };
  keeps =
      subst (λ (d : Option (List (List ℕ))). KeepsOn tells d new.drawn old.written new.written None old.history new.history Going (λ keys. Unit {0})) undrawn
      (subst (λ (w : Option (List ℕ)). KeepsOn tells new.drawn new.drawn w new.written None old.history new.history Going (λ keys. Unit {0})) unput
      (on_look tells new.drawn new.written None old.history new.history Going (λ keys. Unit {0}) same stays (λ told keys kept h. tt)));
  made = λ told there stands served.
      let stands_then : Stands new.history.present there = subst (λ (i : Image). Stands i there) (sym (same told)) stands in
      let served_then : IsServedImage new.history.present = subst IsServedImage (sym (same told)) served in
      ([], stays_at old.history new.history None (closed there) (closed there) (stays told) stands (shut new.history.present there stands_then served_then));
}

-- a session is opened, and served to its end
pub spans_session : (tells : Type 0) (old mid new : Outside) (session : Session) (Was Going : Type 0) → Was → mid.head ≡ old.head → mid.capacity ≡ old.capacity → new.head ≤ new.capacity → (tells → CellStays old.history mid.history)
    → KeepsOn tells old.drawn mid.drawn old.written mid.written None old.history mid.history Was (IsListed (Some session) mid.history.present)
    → (tells → (entry : State) → IsAt old.history.present None entry → (there : Device) × (entry ≡ closed (Some there)) × IsAt mid.history.present (Some session) (mounted there (session_on there)))
    → Carries tells mid new session None Going → Spans tells old new Going
spans_session tells old mid new session Was Going was head capacity room stays opened leads carries = record {
  later = record { capacity = carries.capacity ∙ capacity; rises = omega (arith, head, carries.rises); within = room };
  keeps = on_then tells old.drawn mid.drawn new.drawn old.written mid.written new.written None (Some session) old.history mid.history new.history Was Going (λ keys. Unit {0}) was opened carries.keeps
      (λ told entry at.
      let l = leads told entry at in
      (mounted l.0 (session_on l.0), l.2));
  made = λ told there stands served.
      let entry : State = closed there in
      let l = leads told entry (shut old.history.present there stands served) in
      let state : State = mounted l.0 (session_on l.0) in
      let m = carries.made told state l.2 in
      let all : Made old.history new.history None entry m.0 m.1 = made_then old.history mid.history new.history (Some session) None entry state m.1 [] m.0 (stays_at old.history mid.history (Some session) entry state (stays told) stands l.2) m.2 in
      let shut_all : Made old.history new.history None entry m.0 (closed m.1.device) = made_closed old.history new.history None entry m.1 m.0 all in
      (m.0, subst (λ (d : Option Device). Made old.history new.history None entry m.0 (closed d)) all.last shut_all);
}

-- from which state a mount that found a session led to which
pub led_of : (image : Image) (session : Session) (entry : State) → MountLeads image entry (Ok (Some session)) → (there : Device) × (entry ≡ closed (Some there)) × IsAt image (Some session) (mounted there (session_on there))
led_of image session entry (there, is, at, number) = (there, is, at)

pub spans_mounted : (tells : Type 0) (old mid new : Outside) (session : Session) (Going : Type 0) (result : Result (Option Session) DeviceStop) → result ≡ Ok (Some session) → mid.head ≡ old.head → mid.capacity ≡ old.capacity → new.head ≤ new.capacity → (tells → CellStays old.history mid.history)
    → KeepsOn tells old.drawn mid.drawn old.written mid.written None old.history mid.history (IsOk result) (λ keys. IfOk result (λ found. IsListed found mid.history.present keys))
    → (tells → (entry : State) → IsAt old.history.present None entry → MountLeads mid.history.present entry result)
    → Carries tells mid new session None Going → Spans tells old new Going
spans_mounted tells old mid new session Going result is head capacity room stays opened leads carries =
    spans_session tells old mid new session (IsOk {T = Option Session} {E = DeviceStop} (Ok (Some session))) Going refl head capacity room stays
    (subst (λ (r : Result (Option Session) DeviceStop). KeepsOn tells old.drawn mid.drawn old.written mid.written None old.history mid.history (IsOk r) (λ keys. IfOk r (λ found. IsListed found mid.history.present keys))) is opened)
    (λ told entry at. led_of mid.history.present session entry (subst (MountLeads mid.history.present entry) is (leads told entry at))) carries

-- behind a mount the session is at the device's own array
pub mounted_at : (image : Image) (session : Session) (entry : Held) → ((there : Device) × (closed (Some entry.device) ≡ closed (Some there)) × IsAt image (Some session) (mounted there (session_on there))) → entry.session ≡ session_on entry.device → IsAt image (Some session) (state_of entry)
mounted_at image session entry (there, is, at) fresh =
    let devices : Some entry.device ≡ Some there = ap (λ (s : State). s.device) is in
    let same : entry.device ≡ there = cc in
    let here : IsAt image (Some session) (mounted entry.device (session_on entry.device)) = subst (λ (d : Device). IsAt image (Some session) (mounted d (session_on d))) (sym same) at in
    subst (λ (a : OpenSession). IsAt image (Some session) (mounted entry.device a)) (sym fresh) here
