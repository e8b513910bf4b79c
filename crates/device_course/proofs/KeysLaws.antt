-- How parts of a run compose that keep the keys of an image, and which calls do.
use Rattle.std.proofs.Common.{◌≡◌, ℕ, ◌+◌, List, [], ◌++◌, Option, None, Some, Result, length, refl, sym, ◌∙◌, subst, ap}
use Rattle.std.specs.Prelude.{IsOk}
use Rattle.std.proofs.lemmas.List.Elements.{Contains-append_left}
use Rattle.sdbt_base.specs.Arrays.{Device, State}
use Rattle.sdbt_base.specs.Keys.{bare}
use Rattle.root_codec.specs.RootRecord.{root_bytes}
use Rattle.platform.specs.Image.{Image}
use Rattle.platform.specs.History.{History, Extends, During, Turns, CellStays}
use Rattle.platform.proofs.Moments.{During-start, During-now, During-then}
use Rattle.page_store.specs.Stands.{Stands, IsSound}
use Rattle.page_store.specs.Kept.{Kept}
use Rattle.page_store.specs.Keeping.{KeepsKeys}
use Rattle.page_store.specs.Floors.{Forgets}
use Rattle.page_store.proofs.KeptLaws.{same_during}
use Rattle.page_store.proofs.KeepingLaws.{keeps_idle, keeps_then, keeps_from, keeps_still}
use Rattle.page_store.proofs.FloorLaws.{deleted_start, deleted_call, deleted_then, forgets_still}
use Rattle.btree_update.specs.declared.groves.Grove.{Grove}
use Rattle.btree_update.specs.Groves.{grown_in}
use Rattle.device_session.specs.Keys.{HoldsListed}
use Rattle.device_session.specs.Certifying.{IsOfCommit}
use Rattle.device_session.specs.Open.{IsOpen, needed_by}
use Rattle.device_session.specs.Sessions.{Session}
use Rattle.device_terms.specs.Certifying.{Certifies}
use Rattle.device_terms.specs.Effects.{Discloses}
use Rattle.device_terms.specs.Served.{IsServedImage}
use Rattle.device_terms.proofs.ServedLaws.{serves_still}
use Rattle.device_core.specs.Upgrading.{CertifiesUpgrade}
use Rattle.device_course.specs.Fitting.{KeepsFitting, PutsBehindPages}
use Rattle.device_course.specs.States.{IsListed, IsAt}
use Rattle.device_course.specs.Certified.{Certified}
use Rattle.device_course.specs.Keys.{KeepsOn}
use Rattle.device_course.proofs.CertifiedLaws.{certified_commit, certified_start, certified_stays, certified_going, certified_then}
use Rattle.device_course.proofs.FitsLaws.{fitting_committed, fitting_start, fitting_erased, fitting_then, fitting_upgraded, fitting_while}

pub sound_of : (session : Option Session) (image : Image) (keys : List (List ℕ)) → IsListed session image keys → IsSound image
sound_of None image keys sound = sound
sound_of (Some session) image keys h = (Some h.device, (session.root, h.holds.committed, h.holds.stands))

pub listed_image : (session : Option Session) (image other : Image) (keys : List (List ℕ)) → other ≡ image → IsListed session image keys → IsListed session other keys
listed_image session image other keys same h = subst (λ (i : Image). IsListed session i keys) (sym same) h

-- nothing happened
pub on_start : (tells : Type 0) (drawn : Option (List (List ℕ))) (written : Option (List ℕ)) (session : Option Session) (history : History) (Going : Type 0) → KeepsOn tells drawn drawn written written session history history Going (IsListed session history.present)
on_start tells drawn written session history Going = record {
  keys = keeps_idle tells drawn drawn history history (IsListed session history.present) (IsListed session history.present) refl (λ told. During-start history (λ image. image ≡ history.present) refl) (λ told keys kept h. h);
  deleted = λ told keys kept h. deleted_start history (sound_of session history.present keys h);
  serves = λ told served. During-start history IsServedImage served;
  certified = certified_start tells written history Going;
  fits = λ told entry there. fitting_start written history;
}

-- a call that leaves the image as it was
pub on_look : (tells : Type 0) (drawn : Option (List (List ℕ))) (written : Option (List ℕ)) (session : Option Session) (old new : History) (Going : Type 0) (Done : List (List ℕ) → Type 0) → (tells → new.present ≡ old.present) → (tells → During old new (λ image. image.cell ≡ old.present.cell)) → (tells → (keys : List (List ℕ)) → Kept keys old.present → IsListed session old.present keys → Done keys) → KeepsOn tells drawn drawn written written session old new Going Done
on_look tells drawn written session old new Going Done same cell done = record {
  keys = keeps_idle tells drawn drawn old new (IsListed session old.present) Done refl (λ told. same_during old new (same told) (cell told)) done;
  deleted = λ told keys kept h. deleted_call old new (forgets_still old new (sound_of session old.present keys h) (cell told));
  serves = λ told served. serves_still old new (cell told) served;
  certified = certified_stays tells written old new Going cell;
  fits = λ told entry there. fitting_while written old new (cell told);
}

-- a call that may draw
pub on_call : (tells : Type 0) (drawn drawn_now : Option (List (List ℕ))) (written written_now : Option (List ℕ)) (session : Option Session) (old new : History) (Going : Type 0) (Ready Then Done : List (List ℕ) → Type 0) → KeepsKeys tells drawn drawn_now old new Ready Then → (tells → (keys : List (List ℕ)) → IsListed session old.present keys → Ready keys) → (tells → (keys : List (List ℕ)) → IsListed session old.present keys → Forgets old new) → (tells → (keys more : List (List ℕ)) → IsListed session old.present keys → Then (keys ++ more) → Done (keys ++ more)) → (tells → IsServedImage old.present → During old new IsServedImage) → Certified tells written written_now old new Going → (tells → (entry : State) → IsAt old.present session entry → KeepsFitting written written_now old new) → KeepsOn tells drawn drawn_now written written_now session old new Going Done
on_call tells drawn drawn_now written written_now session old new Going Ready Then Done k ready forgets done serves certified fits = record {
  keys = keeps_from tells drawn drawn_now old new Ready (IsListed session old.present) Then Done k ready done;
  deleted = λ told keys kept h. deleted_call old new (forgets told keys h);
  serves = serves;
  certified = certified;
  fits = fits;
}

-- a weaker end
pub on_done : (tells : Type 0) (drawn drawn_now : Option (List (List ℕ))) (written written_now : Option (List ℕ)) (session : Option Session) (old new : History) (Was Going : Type 0) (Then Done : List (List ℕ) → Type 0) → KeepsOn tells drawn drawn_now written written_now session old new Was Then
    → (Going → Was) → ((keys : List (List ℕ)) → Then keys → Done keys) → KeepsOn tells drawn drawn_now written written_now session old new Going Done
on_done tells drawn drawn_now written written_now session old new Was Going Then Done on was done = record {
  keys = keeps_from tells drawn drawn_now old new (IsListed session old.present) (IsListed session old.present) Then Done on.keys (λ told keys h. h) (λ told keys more h then'. done (keys ++ more) then');
  deleted = on.deleted;
  serves = on.serves;
  certified = certified_going tells written written_now old new Was Going was on.certified;
  fits = on.fits;
}

-- one part after another
pub on_then : (tells : Type 0) (drawn mid drawn_now : Option (List (List ℕ))) (written put written_now : Option (List ℕ)) (session between : Option Session) (first second third : History) (Was Going : Type 0) (Done : List (List ℕ) → Type 0) → Was
    → KeepsOn tells drawn mid written put session first second Was (IsListed between second.present) → KeepsOn tells mid drawn_now put written_now between second third Going Done
    → (tells → (entry : State) → IsAt first.present session entry → (now : State) × IsAt second.present between now) → KeepsOn tells drawn drawn_now written written_now session first third Going Done
on_then tells drawn mid drawn_now written put written_now session between first second third Was Going Done was one two through = record {
  keys = keeps_then tells drawn mid drawn_now first second third (IsListed session first.present) (IsListed between second.present) (IsListed between second.present) Done Done one.keys two.keys (λ told keys kept h. h) (λ told keys more h done. done);
  deleted = λ told keys kept h.
      let a = one.keys.keeps told keys kept h in
      let all = keys ++ one.keys.grew in
      deleted_then first second third (one.deleted told keys kept h) (two.deleted told all (During-now first second (Kept all) a.kept) a.done);
  serves = λ told served.
      let first_part = one.serves told served in
      During-then first second third IsServedImage first_part (two.serves told (During-now first second IsServedImage first_part));
  certified = certified_then tells written put written_now first second third Was Going was two.keys.extends one.certified two.certified;
  fits = λ told entry there.
      let now = through told entry there in
      fitting_then written put written_now first second third (one.keys.extends told) (two.keys.extends told) (one.fits told entry there) (two.fits told now.0 now.1);
}

-- ---- calls of a session

pub listed_some : (held : Option Session) (session : Session) (image : Image) (keys : List (List ℕ)) → held ≡ Some session → IsListed held image keys → HoldsListed session image keys
listed_some held session image keys is h = subst (λ (s : Option Session). IsListed s image keys) is h

pub listed_none : (held now : Option Session) (image : Image) (keys : List (List ℕ)) → now ≡ None → IsListed held image keys → IsListed now image keys
listed_none held now image keys none h = subst (λ (s : Option Session). IsListed s image keys) (sym none) (sound_of held image keys h)

-- a call that leaves the cell and may draw, whatever its answer
pub on_update : (tells : Type 0) (drawn drawn_now : Option (List (List ℕ))) (written : Option (List ℕ)) (held : Option Session) (session : Session) (old new : History) (Going : Type 0) (Then Done : List (List ℕ) → Type 0) → held ≡ Some session
    → KeepsKeys tells drawn drawn_now old new (HoldsListed session old.present) Then → (tells → CellStays old new) → ((keys : List (List ℕ)) → Then keys → Done keys)
    → KeepsOn tells drawn drawn_now written written held old new Going Done
on_update tells drawn drawn_now written held session old new Going Then Done is keys time done =
    on_call tells drawn drawn_now written written held old new Going (HoldsListed session old.present) Then Done keys
    (λ told keys h. listed_some held session old.present keys is h)
    (λ told keys h. forgets_still old new (sound_of held old.present keys h) (time told))
    (λ told keys more h then'. done (keys ++ more) then')
    (λ told served. serves_still old new (time told) served)
    (certified_stays tells written old new Going time)
    (λ told entry at. fitting_while written old new (time told))

-- a commit of a session on the root record in the cell, whatever its answer
pub on_commit : {X Y : Type 0} (tells : Type 0) (drawn drawn_now : Option (List (List ℕ))) (written written_now : Option (List ℕ)) (held : Option Session) (session : Session) (pages : ℕ) (old new : History) (result : Result X Y) (Going : Type 0) (Then Done : List (List ℕ) → Type 0) → held ≡ Some session
    → IsOpen session pages → (tells → old.present.cell ≡ Some (root_bytes session.root)) → Discloses tells drawn drawn_now old new (HoldsListed session old.present) Then
    → Certifies tells written written_now old new session.root.head (session.root.commit + 1) (IsOfCommit session old.present new.present) (IsOk result)
    → (tells → PutsBehindPages written written_now old new) → (Going → IsOk result) → ((keys : List (List ℕ)) → Then keys → Done keys) → KeepsOn tells drawn drawn_now written written_now held old new Going Done
on_commit tells drawn drawn_now written written_now held session pages old new result Going Then Done is there_open cell discloses certifies behind going done =
    on_call tells drawn drawn_now written written_now held old new Going (HoldsListed session old.present) Then Done discloses.keys
    (λ told keys h. listed_some held session old.present keys is h)
    (λ told keys h. discloses.forgets told keys (listed_some held session old.present keys is h))
    (λ told keys more h then'. done (keys ++ more) then')
    discloses.serves
    (certified_going tells written written_now old new (IsOk result) Going going
    (certified_commit tells written written_now old new session (IsOfCommit session old.present new.present) result there_open.served.in_range discloses.turns cell certifies))
    (fitting_committed tells written written_now old new held session (IsOk result) is discloses.forgets certifies behind)

-- an upgrade where there is no session, whatever its answer: the image stands still
pub on_upgrade : (tells : Type 0) (drawn drawn_now : Option (List (List ℕ))) (written written_now : Option (List ℕ)) (old new : History) (Made Going : Type 0) (Then Done : List (List ℕ) → Type 0)
    → Discloses tells drawn drawn_now old new (λ keys. IsSound old.present) Then → CertifiesUpgrade tells written written_now old new Made → (tells → PutsBehindPages written written_now old new) → Certified tells written written_now old new Going → ((keys : List (List ℕ)) → IsSound new.present → Done keys)
    → KeepsOn tells drawn drawn_now written written_now None old new Going Done
on_upgrade tells drawn drawn_now written written_now old new Made Going Then Done discloses certifies behind certified done =
    on_call tells drawn drawn_now written written_now None old new Going (λ keys. IsSound old.present) Then Done discloses.keys
    (λ told keys h. h)
    discloses.forgets
    (λ told keys more h then'. done (keys ++ more) (During-now old new IsSound (discloses.forgets told keys h).sound))
    discloses.serves
    certified
    (fitting_upgraded tells written written_now old new Made (λ told. discloses.forgets told []) certifies behind)

-- without a session a mount finds the device
pub mount_listed : (held : Option Session) (image : Image) (keys bytes : List (List ℕ)) (X : Type 0) (cell : List ℕ) → held ≡ None → image.cell ≡ Some cell → IsListed held image keys → ((device : Device) → Stands image (Some device) → X) → X
mount_listed held image keys bytes X cell none full h found = from (subst (λ (s : Option Session). IsListed s image keys) none h)
  where
    from : IsSound image → X
    from (None, stands) = absurd (let no : None ≡ Some cell = sym stands ∙ full in cc)
    from (Some device, stands) = found device stands

-- a format leaves a device where there was no session
pub format_listed : (held : Option Session) (image after : Image) (keys more : List (List ℕ)) (device : Device) → image.cell ≡ None → Stands after (Some device) → IsListed held image keys → IsListed held after more
format_listed None image after keys more device empty stands h = (Some device, stands)
format_listed (Some session) image after keys more device empty stands h = absurd (let no : None ≡ Some (root_bytes session.root) = sym empty ∙ h.holds.stands.cell in cc)

-- a session whose image stays is listed by more keys
pub listed_keys : (held : Option Session) (image other : Image) (keys more : List (List ℕ)) → other ≡ image → IsListed held image keys → IsListed held other (keys ++ more)
listed_keys None image other keys more same h = subst IsSound (sym same) h
listed_keys (Some session) image other keys more same h = subst (λ (i : Image). HoldsListed session i (keys ++ more)) (sym same) record {
  device = h.device;
  contents = h.contents;
  holds = h.holds;
  listed = λ s has own. Contains-append_left keys more (bare s.key) (h.listed s has own);
}

-- a call that draws none and adds no page
pub on_kept : (tells : Type 0) (drawn : Option (List (List ℕ))) (written : Option (List ℕ)) (session : Option Session) (old new : History) (Going : Type 0) (Done : List (List ℕ) → Type 0) → (tells → Extends old new) → (tells → length new.present.recorded ≡ length old.present.recorded) → (tells → (keys : List (List ℕ)) → Kept keys old.present → During old new (Kept keys)) → (tells → IsSound old.present → Forgets old new) → (tells → (keys : List (List ℕ)) → IsListed session old.present keys → Done keys) → (tells → IsServedImage old.present → During old new IsServedImage) → Certified tells written written old new Going → (tells → Turns old new (λ image. image.cell ≡ old.present.cell) (λ image. image.cell ≡ None)) → KeepsOn tells drawn drawn written written session old new Going Done
on_kept tells drawn written session old new Going Done extends size kept forgets done serves certified turns = record {
  keys = keeps_still tells drawn drawn old new (IsListed session old.present) Done refl extends size (λ told keys k h. kept told keys k) done;
  deleted = λ told keys k h. deleted_call old new (forgets told (sound_of session old.present keys h));
  serves = serves;
  certified = certified;
  fits = λ told entry there. fitting_erased written old new (turns told);
}

-- a session whose tree stays needs as many pages
pub needed_read : (session now : Session) → now.grove ≡ session.grove → needed_by now ≡ needed_by session
needed_read session now grove = ap (λ (g : Grove). grown_in g) grove
