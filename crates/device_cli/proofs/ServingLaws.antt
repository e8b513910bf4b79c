-- What each call of a desk makes of the state that its world stands for.
use Rattle.std.proofs.Common.{◌≡◌, ◌≢◌, ℕ, ◌-◌, ◌<◌, ◌≤◌, Bool, true, false, Option, None, Some, Ok, inl, inr, refl, sym, ◌∙◌, subst, ap}
use Rattle.std.specs.Prelude.{◌⊎◌}
use Rattle.std.specs.FinMap as map
use Rattle.std.proofs.lemmas.Bool.{cases_lt}
use Rattle.platform.specs.Image.{Image}
use Rattle.platform.specs.History.{History, During, Turns}
use Rattle.platform.proofs.Moments.{During-start, Turns-not}
use Rattle.page_store.proofs.StandsLaws.{stands_leaves}
use Rattle.device_session.specs.Open.{is_touched, needed_by}
use Rattle.device_session.specs.Holds.{Holds}
use Rattle.device_session.specs.Sessions.{Session}
use Rattle.script_lang.specs.Commands.{Command}
use Rattle.script_lang.specs.Commands.{Format, Mount, Drop, Erase, Upgrade, Seize}
use Rattle.script_lang.specs.Commands as commands
use Rattle.script_lang.specs.Replies.{Reply}
use Rattle.script_lang.specs.Replies.{Formatted, Mounted, Dropped, Erased, Unmounted, AlreadyMounted, NotEmpty, NoDevice, Full, Seized}
use Rattle.script_lang.specs.Replies as replies
use Rattle.sdbt_base.specs.Arrays.{Device, Session as OpenSession, State, new_device, session_on, closed}
use Rattle.script_lang.specs.Arrays.{in_limits}
use Rattle.script_lang.specs.Answers.{answer, none_counted}
use Rattle.device_cli.specs.World.{World, is_full, needed_of, world}
use Rattle.device_cli.specs.Replied.{Serves, Halts}
use Rattle.device_course.specs.States.{IsSessionOf}
use Rattle.device_course.specs.Marks.{Leaves}
use Rattle.device_cli.specs.Represents.{StandsFor, Represents}
use Rattle.session_calls.specs.declared.stops.DeviceStop.TheVariants as device
use Rattle.device_cli.proofs.ServedLaws.{at, on, leaves_still, with_session, without_session, holds_stands, has_session, has_none, serves_still, halts_still, is_full_true, is_full_false, gives_stat, gives_formatted, gives_format_full}

-- the cell stays at each moment
abbrev pub KeepsCell : World → World → Type 0
KeepsCell old new = During old.history new.history (λ image. image.cell ≡ old.history.present.cell)

-- no time passed
pub keeps_same : (old new : World) → new.history ≡ old.history → KeepsCell old new
keeps_same old new same =
    subst (λ (h : History). During old.history h (λ image. image.cell ≡ old.history.present.cell)) (sym same)
    (During-start old.history (λ image. image.cell ≡ old.history.present.cell) refl)

-- a reply that needed no call
serves_at : (s now : Option Session) (h : History) (head capacity reads changes : ℕ) (entry next : State) (command : Command) (reply : Reply) → Represents (world s h head capacity reads changes) entry
    → (reply, next) ≡ answer (is_full (world s h head capacity reads changes) entry command) none_counted entry command → Represents (world now h head capacity reads changes) next
    → Serves (world s h head capacity reads changes) (world now h head capacity reads changes) entry command (Ok reply)
serves_at s now h head capacity reads changes entry next command reply rep is after =
    (next, (none_counted, is), after, Turns-not h h (Leaves entry.device) (Leaves next.device) (During-start h (Leaves entry.device) (stands_leaves h.present _ rep.device)))

pub serves_unmounted : (s now : Option Session) (h : History) (head capacity reads changes : ℕ) (entry : State) (command : Command) → s ≡ None → now ≡ None
    → ((full : Bool) (there : Option Device) → (Unmounted, closed there) ≡ answer full none_counted (closed there) command)
    → Represents (world s h head capacity reads changes) entry → Serves (world s h head capacity reads changes) (world now h head capacity reads changes) entry command (Ok Unmounted)
serves_unmounted s now h head capacity reads changes entry command none none_now gives rep =
    let old = world s h head capacity reads changes in
    without_session old entry none rep (λ state. Serves old (world now h head capacity reads changes) state command (Ok Unmounted))
    (λ stands. serves_at s now h head capacity reads changes (closed entry.device) (closed entry.device) command Unmounted (has_none old entry.device none stands)
    (gives (is_full old (closed entry.device) command) entry.device) (has_none (world now h head capacity reads changes) entry.device none_now stands))

pub serves_drop : (s now : Option Session) (h : History) (head capacity reads changes : ℕ) (entry : State) (session : Session) → s ≡ Some session → now ≡ None
    → Represents (world s h head capacity reads changes) entry → Serves (world s h head capacity reads changes) (world now h head capacity reads changes) entry Drop (Ok Dropped)
serves_drop s now h head capacity reads changes entry session some none rep =
    let old = world s h head capacity reads changes in
    with_session old session entry some rep (λ state. Serves old (world now h head capacity reads changes) state Drop (Ok Dropped))
    (λ d t holds touched. serves_at s now h head capacity reads changes (at d t) (closed (Some d)) Drop Dropped (has_session old session d t some holds touched) refl
    (has_none (world now h head capacity reads changes) (Some d) none (holds_stands session h.present d t.contents holds)))

pub serves_stat : (s : Option Session) (h : History) (head capacity reads changes : ℕ) (entry : State) (session : Session) (mapped number : ℕ) → s ≡ Some session
    → ((d : Device) (t : OpenSession) → Holds session h.present d t.contents → (mapped ≡ map.len t.contents) × (number ≡ d.number))
    → Represents (world s h head capacity reads changes) entry → Serves (world s h head capacity reads changes) (world s h head capacity reads changes) entry commands.Stat (Ok (replies.Stat mapped number))
serves_stat s h head capacity reads changes entry session mapped number some tells rep =
    let old = world s h head capacity reads changes in
    with_session old session entry some rep (λ state. Serves old old state commands.Stat (Ok (replies.Stat mapped number)))
    (λ d t holds touched. let both = tells d t holds in
    let there = has_session old session d t some holds touched in
    serves_at s s h head capacity reads changes (at d t) (at d t) commands.Stat (replies.Stat mapped number) there (gives_stat (is_full old (at d t) commands.Stat) d t mapped number both.0 both.1) there)

pub serves_already : (s : Option Session) (h : History) (head capacity reads changes : ℕ) (entry : State) (session : Session) → s ≡ Some session → Represents (world s h head capacity reads changes) entry
    → Serves (world s h head capacity reads changes) (world s h head capacity reads changes) entry Mount (Ok AlreadyMounted)
serves_already s h head capacity reads changes entry session some rep =
    let old = world s h head capacity reads changes in
    with_session old session entry some rep (λ state. Serves old old state Mount (Ok AlreadyMounted))
    (λ d t holds touched. let there = has_session old session d t some holds touched in
    serves_at s s h head capacity reads changes (at d t) (at d t) Mount AlreadyMounted there refl there)

pub serves_not_upgraded : (s : Option Session) (h : History) (head capacity reads changes : ℕ) (entry : State) (session : Session) → s ≡ Some session → Represents (world s h head capacity reads changes) entry
    → Serves (world s h head capacity reads changes) (world s h head capacity reads changes) entry Upgrade (Ok AlreadyMounted)
serves_not_upgraded s h head capacity reads changes entry session some rep =
    let old = world s h head capacity reads changes in
    with_session old session entry some rep (λ state. Serves old old state Upgrade (Ok AlreadyMounted))
    (λ d t holds touched. let there = has_session old session d t some holds touched in
    serves_at s s h head capacity reads changes (at d t) (at d t) Upgrade AlreadyMounted there refl there)

-- a session on what is there
serves_mounted_at : (old new : World) (there : Option Device) (session : Session) (number : ℕ) → old.session ≡ None → StandsFor old.history.present there
    → old.history.present.cell ≢ None → new.session ≡ Some session → is_touched session ≡ false
    → ((d : Device) → StandsFor old.history.present (Some d) → Holds session new.history.present d d.contents × (number ≡ d.number))
    → KeepsCell old new → Serves old new (closed there) Mount (Ok (Mounted number))
serves_mounted_at old new None session number none stands full some fresh holds keeps = absurd (full stands)
serves_mounted_at old new (Some d) session number none stands full some fresh holds keeps =
    let both = holds d stands in
    serves_still old new (closed (Some d)) (at d (session_on d)) Mount (Mounted number) (has_none old (Some d) none stands)
    (ap (λ (n : ℕ). (Mounted n, at d (session_on d))) both.1) (has_session new session d (session_on d) some both.0 fresh) keeps

pub serves_mounted : (old new : World) (entry : State) (session : Session) (number : ℕ) → old.session ≡ None → old.history.present.cell ≢ None
    → new.session ≡ Some session → is_touched session ≡ false
    → ((d : Device) → StandsFor old.history.present (Some d) → Holds session new.history.present d d.contents × (number ≡ d.number))
    → KeepsCell old new → Represents old entry → Serves old new entry Mount (Ok (Mounted number))
serves_mounted old new entry session number none full some fresh holds keeps rep =
    without_session old entry none rep (λ state. Serves old new state Mount (Ok (Mounted number)))
    (λ stands. serves_mounted_at old new entry.device session number none stands full some fresh holds keeps)

-- an image that stands with an empty cell stands for no device
none_stands : (image : Image) (there : Option Device) → StandsFor image there → image.cell ≡ None → there ≡ None
none_stands image None stands empty = refl
none_stands image (Some d) stands empty = absurd (let e = stands.2.cell in cc)

-- nothing is there, and nothing changed
same_there : (old new : World) (entry : State) → new.session ≡ old.session → new.history.present ≡ old.history.present → Represents old entry → Represents new entry
same_there old new entry session image rep = record {
  device = subst (λ (i : Image). StandsFor i entry.device) (sym image) rep.device;
  session = subst (λ (s : Option Session). IsSessionOf s new.history.present entry.device entry.session) (sym session)
      (subst (λ (i : Image). IsSessionOf old.session i entry.device entry.session) (sym image) rep.session);
}

pub serves_no_device : (old new : World) (entry : State) → old.session ≡ None → old.history.present.cell ≡ None → new.session ≡ None → new.history.present ≡ old.history.present
    → KeepsCell old new → Represents old entry → Serves old new entry Mount (Ok NoDevice)
serves_no_device old new entry none empty none_now image keeps rep =
    without_session old entry none rep (λ state. Serves old new state Mount (Ok NoDevice))
    (λ stands. let is = none_stands old.history.present entry.device stands empty in
    subst (λ (there : Option Device). Serves old new (closed there) Mount (Ok NoDevice)) (sym is)
    (serves_still old new (closed None) (closed None) Mount NoDevice (has_none old None none empty) refl
    (has_none new None none_now (subst (λ (i : Image). i.cell ≡ None) (sym image) empty)) keeps))

-- an erasure
serves_erased_at : (old new : World) (there : Option Device) (opened : Option OpenSession) → old.history.present.cell ≢ None → StandsFor old.history.present there
    → Represents new (closed None) → Turns old.history new.history (Leaves there) (Leaves None) → Serves old new (on there opened) Erase (Ok Erased)
serves_erased_at old new None opened full stands after turns = absurd (full stands)
serves_erased_at old new (Some d) opened full stands after turns = (closed None, (none_counted, refl), after, turns)

pub serves_erased : (old new : World) (entry : State) → old.history.present.cell ≢ None → new.session ≡ None → StandsFor new.history.present None
    → Turns old.history new.history (Leaves entry.device) (Leaves None) → Represents old entry → Serves old new entry Erase (Ok Erased)
serves_erased old new entry full none stands turns rep =
    serves_erased_at old new entry.device entry.session full rep.device (has_none new None none stands) turns

serves_none_at : (old new : World) (there : Option Device) (opened : Option OpenSession) → there ≡ None → Represents old (on there opened) → Represents new (on there opened)
    → KeepsCell old new → Serves old new (on there opened) Erase (Ok NoDevice)
serves_none_at old new None opened is rep after keeps = serves_still old new (on None opened) (on None opened) Erase NoDevice rep refl after keeps
serves_none_at old new (Some d) opened is rep after keeps = absurd cc

pub serves_erase_none : (old new : World) (entry : State) → old.history.present.cell ≡ None → new.session ≡ old.session → new.history.present ≡ old.history.present
    → KeepsCell old new → Represents old entry → Serves old new entry Erase (Ok NoDevice)
serves_erase_none old new entry empty session image keeps rep =
    serves_none_at old new entry.device entry.session (none_stands old.history.present entry.device rep.device empty) rep
    (same_there old new entry session image rep) keeps

erase_next : (full : Bool) (there : Option Device) (opened : Option OpenSession) → (answer full none_counted (on there opened) Erase).1.device ≡ None
erase_next full None opened = refl
erase_next full (Some d) opened = refl

pub halts_erase : (old new : World) (entry : State) → Turns old.history new.history (Leaves entry.device) (Leaves None) → Halts old new entry Erase device.Platform
halts_erase old new entry turns =
    subst (λ (there : Option Device). Turns old.history new.history (Leaves entry.device) (Leaves there)) (sym (erase_next (is_full old entry Erase) entry.device entry.session)) turns

-- a seizure
pub serves_seized : (old new : World) (entry : State) (pages nodes blocks : ℕ) → new.session ≡ old.session → new.history.present ≡ old.history.present
    → KeepsCell old new → Represents old entry → Serves old new entry Seize (Ok (Seized pages nodes blocks))
serves_seized old new entry pages nodes blocks session image keeps rep = (
  entry,
  (record { pages = pages; nodes = nodes; blocks = blocks }, refl),
  same_there old new entry session image rep,
  Turns-not old.history new.history (Leaves entry.device) (Leaves entry.device) (leaves_still old new entry rep keeps),
)

-- no session stands over no device
no_session : (s : Option Session) (image : Image) (there : Option Device) (opened : Option OpenSession) → IsSessionOf s image there opened → there ≡ None → (s ≡ None) × (opened ≡ None)
no_session None image there None h is = (refl, refl)
no_session None image there (Some t) h is = absurd h
no_session (Some s) image there None h is = absurd h
no_session (Some s) image None (Some t) h is = absurd h
no_session (Some s) image (Some d) (Some t) h is = absurd cc

-- what stands with an empty cell
pub with_nothing : (w : World) (entry : State) → w.history.present.cell ≡ None → Represents w entry → (Goal : State → Type 0) → (w.session ≡ None → Goal (closed None)) → Goal entry
with_nothing w entry empty rep Goal k =
    let is = none_stands w.history.present entry.device rep.device empty in
    let none = no_session w.session w.history.present entry.device entry.session rep.session is in
    subst (λ (there : Option Device). Goal (on there entry.session)) (sym is) (subst (λ (opened : Option OpenSession). Goal (on None opened)) (sym none.1) (k none.0))

-- a format
pub serves_formatted : (old new : World) (entry : State) (blocks order : ℕ) → old.history.present.cell ≡ None → new.session ≡ old.session → in_limits blocks order ≡ true
    → 1 ≤ old.capacity - old.head → StandsFor new.history.present (Some (new_device blocks order))
    → ((there : Option Device) → StandsFor old.history.present there → Turns old.history new.history (Leaves there) (Leaves (Some (new_device blocks order))))
    → Represents old entry → Serves old new entry (Format blocks order) (Ok Formatted)
serves_formatted old new entry blocks order empty session within room stands turns rep =
    with_nothing old entry empty rep (λ state. Serves old new state (Format blocks order) (Ok Formatted))
    (λ none. (
      closed (Some (new_device blocks order)),
      (none_counted, gives_formatted (is_full old entry (Format blocks order)) None blocks order (is_full_false old entry (Format blocks order) room) within),
      has_none new (Some (new_device blocks order)) (session ∙ none) stands,
      turns None empty,
    ))

pub serves_format_full : (old new : World) (entry : State) (blocks order : ℕ) → old.history.present.cell ≡ None → new.session ≡ old.session → new.history.present ≡ old.history.present
    → in_limits blocks order ≡ true → old.capacity - old.head < 1 → KeepsCell old new → Represents old entry → Serves old new entry (Format blocks order) (Ok Full)
serves_format_full old new entry blocks order empty session image within none_free keeps rep =
    with_nothing old entry empty rep (λ state. Serves old new state (Format blocks order) (Ok Full))
    (λ none. serves_still old new (closed None) (closed None) (Format blocks order) Full (has_none old None none empty)
    (gives_format_full (is_full old entry (Format blocks order)) None blocks order (is_full_true old entry (Format blocks order) none_free) within)
    (has_none new None (session ∙ none) (subst (λ (i : Image). i.cell ≡ None) (sym image) empty)) keeps)

serves_not_empty_at : (old new : World) (there : Option Device) (opened : Option OpenSession) (blocks order : ℕ) → old.history.present.cell ≢ None → StandsFor old.history.present there
    → Represents old (on there opened) → Represents new (on there opened) → KeepsCell old new → Serves old new (on there opened) (Format blocks order) (Ok NotEmpty)
serves_not_empty_at old new None opened blocks order full stands rep after keeps = absurd (full stands)
serves_not_empty_at old new (Some d) opened blocks order full stands rep after keeps =
    serves_still old new (on (Some d) opened) (on (Some d) opened) (Format blocks order) NotEmpty rep refl after keeps

pub serves_not_empty : (old new : World) (entry : State) (blocks order : ℕ) → old.history.present.cell ≢ None → new.session ≡ old.session → new.history.present ≡ old.history.present
    → KeepsCell old new → Represents old entry → Serves old new entry (Format blocks order) (Ok NotEmpty)
serves_not_empty old new entry blocks order full session image keeps rep =
    serves_not_empty_at old new entry.device entry.session blocks order full rep.device rep (same_there old new entry session image rep) keeps

-- a format that is refused, after it was looked for a device
pub serves_refused : (old new : World) (entry : State) (blocks order : ℕ) (reply given : Reply) → new.session ≡ old.session → new.history.present ≡ old.history.present
    → KeepsCell old new → ((full : Bool) (opened : Option OpenSession) → (given, on None opened) ≡ answer full none_counted (on None opened) (Format blocks order))
    → ((reply ≡ NotEmpty) × (old.history.present.cell ≢ None)) ⊎ ((reply ≡ given) × (old.history.present.cell ≡ None))
    → Represents old entry → Serves old new entry (Format blocks order) (Ok reply)
serves_refused old new entry blocks order reply given session image keeps gives (inl (e, full)) rep =
    subst (λ (r : Reply). Serves old new entry (Format blocks order) (Ok r)) (sym e) (serves_not_empty old new entry blocks order full session image keeps rep)
serves_refused old new entry blocks order reply given session image keeps gives (inr (e, empty)) rep =
    subst (λ (r : Reply). Serves old new entry (Format blocks order) (Ok r)) (sym e)
    (with_nothing old entry empty rep (λ state. Serves old new state (Format blocks order) (Ok given))
    (λ none. serves_still old new (closed None) (closed None) (Format blocks order) given (has_none old None none empty) (gives (is_full old entry (Format blocks order)) None)
    (has_none new None (session ∙ none) (subst (λ (i : Image). i.cell ≡ None) (sym image) empty)) keeps))

-- a format at which the platform failed: where it would have made a device, it may have
pub halts_format : (old new : World) (entry : State) (blocks order : ℕ) → in_limits blocks order ≡ true
    → ((old.history.present.cell ≢ None) ⊎ (old.capacity - old.head < 1) → KeepsCell old new)
    → ((there : Option Device) → StandsFor old.history.present there → Turns old.history new.history (Leaves there) (Leaves (Some (new_device blocks order))))
    → Represents old entry → Halts old new entry (Format blocks order) device.Platform
halts_format old new entry blocks order within keeps turns rep = cases entry.device entry.session rep
  where
    made : (opened : Option OpenSession) → is_full old entry (Format blocks order) ≡ false → (answer (is_full old entry (Format blocks order)) none_counted (on None opened) (Format blocks order)).1.device ≡ Some (new_device blocks order)
    made opened room = sym (ap (λ (p : Reply × State). p.1.device) (gives_formatted (is_full old entry (Format blocks order)) opened blocks order room within))

    cases : (there : Option Device) (opened : Option OpenSession) → Represents old (on there opened) → Halts old new (on there opened) (Format blocks order) device.Platform
    cases (Some d) opened r = halts_still old new (on (Some d) opened) (Format blocks order) device.Platform tt r (keeps (inl (λ e. let c = r.device.2.cell in cc)))
    cases None opened r = elim (cases_lt (old.capacity - old.head) 1) [
      | inl few ↦ halts_still old new (on None opened) (Format blocks order) device.Platform tt r (keeps (inr few))
      | inr many ↦ subst (λ (there : Option Device). Turns old.history new.history (Leaves None) (Leaves there)) (sym (made opened (is_full_false old entry (Format blocks order) many))) (turns None r.device)
    ]

-- what a commit of the session needs
pub needed_some : (w : World) (session : Session) → w.session ≡ Some session → needed_of w.session ≡ needed_by session
needed_some w session some = ap (λ (held : Option Session). needed_of held) some
