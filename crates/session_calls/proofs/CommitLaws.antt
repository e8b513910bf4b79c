-- What a commit says, by what the session's commit says; and which devices it makes.
use Rattle.std.proofs.Common.{◌≡◌, ◌+◌, ◌-◌, ◌<◌, ◌≤◌, ℕ, List, [], ◌∷◌, Bool, Option, length, true, false, None, Some, Err, inl, inr, refl, sym, ◌∙◌, subst, ap, arith}
use Rattle.std.specs.Prelude.{◌⊎◌}
use Rattle.std.proofs.lemmas.Bool.{cases_Bool, cases_lt}
use Rattle.sdbt_base.specs.Arrays.{Blocks, Device, Session as OpenSession, State, closed, committed, committed_if, mounted}
use Rattle.sdbt_base.specs.declared.tapes.Tape.{Ghosts as TapeGhosts}
use Rattle.platform.specs.declared.platforms.Platform.{Ghosts as PlatformGhosts}
use Rattle.sdbt_base.specs.Rises.{MayRiseBy}
use Rattle.platform.specs.Image.{Image}
use Rattle.platform.specs.History.{During, History, Turns}
use Rattle.platform.proofs.Moments.{During-now, LeavesOnly-now, Turns-not}
use Rattle.page_store.specs.Stands.{Stands}
use Rattle.page_store.proofs.KeepingLaws.{drew_none}
use Rattle.page_store.proofs.StandsLaws.{stands_during}
use Rattle.device_terms.specs.Certifying.{PutsSynced}
use Rattle.device_terms.specs.Served.{IsServedImage}
use Rattle.device_course.specs.Course.{Made}
use Rattle.device_course.specs.Marks.{Leaves}
use Rattle.device_course.specs.States.{IsAt}
use Rattle.device_course.specs.Fitting.{PutsBehindPages}
use Rattle.device_course.proofs.FitsLaws.{behind_added}
use Rattle.device_course.proofs.MadeLaws.{made_none, made_one, made_same, made_stopped, shut, stayed}
use Rattle.device_session.specs.Holds.{Holds}
use Rattle.device_session.specs.Open.{IsOpen, is_touched, needed_by, number_of}
use Rattle.device_session.specs.Publishing.{HasRaised, IsCommitCause, most_commit}
use Rattle.device_session.specs.Replies.{device_after}
use Rattle.device_session.specs.Sessions.{Session}
use Rattle.device_session.specs.declared.refusals.CommitFault.{CommitFault}
use Rattle.device_session.specs.declared.refusals.CommitFault.TheVariants as faults
use Rattle.device_session.specs.declared.refusals.CommitReply.{CommitReply}
use Rattle.device_session.specs.declared.refusals.CommitReply.TheVariants as replies
use Rattle.device_session.proofs.CountLaws.{needs_none, needs_some}
use Rattle.sdbt_base.specs.Counts.{Counts}
use Rattle.session_calls.specs.Blame.{HasCause}
use Rattle.session_calls.specs.Commits.{AnswersReply, CommitLeads, DrewForPages, HasNumber, LeavesLedger, LeftAt, ReplyLeads, most_stopped, stop_of_fault}
use Rattle.session_calls.specs.declared.stops.DeviceStop.{DeviceStop}
use Rattle.session_calls.specs.declared.stops.DeviceStop.TheVariants as stops
use Rattle.session_calls.proofs.StateLaws.{at_array}

-- whose count rose, and that no other did
pub fault_blamed : {S R W : Type 0} (P : PlatformGhosts S) (T : TapeGhosts R) (platform platform_now : S) (tape tape_now : R) (ledger ledger_now : W) (fault : CommitFault) (before now : Counts)
    → IsCommitCause P T platform platform_now tape tape_now ledger ledger_now before now fault → HasCause before now (stop_of_fault fault)
fault_blamed P T platform platform_now tape tape_now ledger ledger_now faults.PlatformFault before now cause = cause
fault_blamed P T platform platform_now tape tape_now ledger ledger_now faults.TapeFault before now cause = cause.0
fault_blamed P T platform platform_now tape tape_now ledger ledger_now faults.LedgerFault before now cause = cause.0
fault_blamed P T platform platform_now tape tape_now ledger ledger_now faults.Memory before now cause = cause.2

-- what it left
pub fault_left : {S R W : Type 0} (P : PlatformGhosts S) (T : TapeGhosts R) (platform platform_now : S) (tape tape_now : R) (ledger ledger_now : W) (fault : CommitFault) (before now : Counts)
    → IsCommitCause P T platform platform_now tape tape_now ledger ledger_now before now fault → LeftAt P T platform platform_now tape tape_now (stop_of_fault fault)
fault_left P T platform platform_now tape tape_now ledger ledger_now faults.PlatformFault before now cause = tt
fault_left P T platform platform_now tape tape_now ledger ledger_now faults.TapeFault before now cause = cause.1
fault_left P T platform platform_now tape tape_now ledger ledger_now faults.LedgerFault before now cause = cause.1
fault_left P T platform platform_now tape tape_now ledger ledger_now faults.Memory before now cause = (cause.0, cause.1)

-- how often it synced and replaced the root record
pub fault_changes : (fault : CommitFault) (old new : ℕ) → MayRiseBy (most_commit (Err fault)) old new → MayRiseBy (most_stopped (stop_of_fault fault)) old new
fault_changes faults.PlatformFault old new few = few
fault_changes faults.TapeFault old new few = few
fault_changes faults.LedgerFault old new few = few
fault_changes faults.Memory old new few = few

-- and of the ledger
pub fault_unput : {S R W : Type 0} (P : PlatformGhosts S) (T : TapeGhosts R) (platform platform_now : S) (tape tape_now : R) (ledger ledger_now : W) (fault : CommitFault) (before now : Counts)
    → IsCommitCause P T platform platform_now tape tape_now ledger ledger_now before now fault → LeavesLedger ledger ledger_now (stop_of_fault fault)
fault_unput P T platform platform_now tape tape_now ledger ledger_now faults.PlatformFault before now cause = tt
fault_unput P T platform platform_now tape tape_now ledger ledger_now faults.TapeFault before now cause = cause.2
fault_unput P T platform platform_now tape tape_now ledger ledger_now faults.LedgerFault before now cause = tt
fault_unput P T platform platform_now tape tape_now ledger ledger_now faults.Memory before now cause = cause.3

-- of the device
pub fault_leads : {S R : Type 0} (P : PlatformGhosts S) (T : TapeGhosts R) (platform platform_now : S) (tape tape_now : R) (fault : CommitFault) (device : Device) (array : OpenSession) → P.tells
    → LeftAt P T platform platform_now tape tape_now (stop_of_fault fault) → Stands (P.history platform).present (Some device)
    → Turns (P.history platform) (P.history platform_now) (Leaves (Some device)) (Leaves (Some (committed device array)))
    → CommitLeads (P.history platform) (P.history platform_now) device array (Err (stop_of_fault fault))
fault_leads P T platform platform_now tape tape_now faults.PlatformFault device array told left stands turns = turns
fault_leads P T platform platform_now tape tape_now faults.TapeFault device array told left stands turns = stands_during (P.history platform) (P.history platform_now) (Some device) stands (left told)
fault_leads P T platform platform_now tape tape_now faults.LedgerFault device array told left stands turns = stands_during (P.history platform) (P.history platform_now) (Some device) stands (left told)
fault_leads P T platform platform_now tape tape_now faults.Memory device array told left stands turns = stands_during (P.history platform) (P.history platform_now) (Some device) stands (left.1 told)

-- ---- a commit that was answered

-- a session without a change: nothing was called
idle_number : {S R W : Type 0} (P : PlatformGhosts S) (platform platform_now : S) (tape tape_now : R) (ledger ledger_now : W) (session now : Session) → IsOpen session (P.head platform) → is_touched session ≡ false
    → (now ≡ session) × (platform_now ≡ platform) × (tape_now ≡ tape) × (ledger_now ≡ ledger) → HasNumber P platform platform_now tape tape_now ledger ledger_now session now (number_of session)
idle_number P platform platform_now tape tape_now ledger ledger_now session now there_open idle same =
    let none : needed_by session ≡ 0 = needs_none session (P.head platform) there_open idle in record {
      room = omega (arith, none);
      adds = omega (arith, none, ap P.head same.1);
      needs = ap (λ (s : Session). needed_by s) same.0 ∙ none;
      untouched = ap (λ (s : Session). is_touched s) same.0 ∙ idle;
      is_number = ap (λ (s : Session). number_of s) (sym same.0);
      idle = λ e. same;
      next = λ e. absurd (let no : true ≡ false = sym e ∙ idle in cc);
      names = λ e. absurd (let no : true ≡ false = sym e ∙ idle in cc);
    }

raised_number : {S R W : Type 0} (P : PlatformGhosts S) (T : TapeGhosts R) (platform platform_now : S) (tape tape_now : R) (ledger ledger_now : W) (session now : Session) (reply : CommitReply) → IsOpen now (P.head platform_now)
    → is_touched session ≡ true → needed_by session ≤ P.capacity platform - P.head platform → HasRaised P T platform platform_now tape tape_now session now reply
    → HasNumber P platform platform_now tape tape_now ledger ledger_now session now (number_of session + 1)
raised_number P T platform platform_now tape tape_now ledger ledger_now session now reply there_open touched room raised = record {
  room = room;
  adds = raised.head;
  needs = needs_none now (P.head platform_now) there_open raised.untouched;
  untouched = raised.untouched;
  is_number = sym raised.number;
  idle = λ e. absurd (let no : true ≡ false = sym touched ∙ e in cc);
  next = λ e. raised.number;
  names = λ e. raised.names.head;
}

pub reply_answers : {S R W : Type 0} (P : PlatformGhosts S) (T : TapeGhosts R) (platform platform_now : S) (tape tape_now : R) (ledger ledger_now : W) (session now : Session) (reply : CommitReply) → IsOpen session (P.head platform) → IsOpen now (P.head platform_now)
    → (is_touched session ≡ false → (now ≡ session) × (platform_now ≡ platform) × (tape_now ≡ tape) × (ledger_now ≡ ledger) × (reply ≡ replies.Committed (number_of session)))
    → (is_touched session ≡ true → P.capacity platform - P.head platform < needed_by session
    → (now ≡ session) × (platform_now ≡ platform) × (tape_now ≡ tape) × (ledger_now ≡ ledger) × (reply ≡ replies.Full (needed_by session) (P.capacity platform - P.head platform)))
    → (is_touched session ≡ true → needed_by session ≤ P.capacity platform - P.head platform → HasRaised P T platform platform_now tape tape_now session now reply)
    → AnswersReply P platform platform_now tape tape_now ledger ledger_now session now reply
reply_answers P T platform platform_now tape tape_now ledger ledger_now session now reply there_open now_open idle full raised =
    let Goal : CommitReply → Type 0 = λ r. AnswersReply P platform platform_now tape tape_now ledger ledger_now session now r in
    elim (cases_Bool (is_touched session)) [
      | inr e ↦
          let i = idle e in
          subst Goal (sym i.4) (idle_number P platform platform_now tape tape_now ledger ledger_now session now there_open e (i.0, i.1, i.2, i.3))
      | inl e ↦ elim (cases_lt (P.capacity platform - P.head platform) (needed_by session)) [
        | inl few ↦
            let f = full e few in
            subst Goal (sym f.4) record { touched = e; is_needed = refl; is_free = refl; short = few; same = (f.0, f.1, f.2, f.3) }
        | inr many ↦
            let r = raised e many in
            subst Goal (sym r.replied) (raised_number P T platform platform_now tape tape_now ledger ledger_now session now reply now_open e many r)
      ]
    ]

-- as many keys were drawn as pages were added: none where all is as it was
drew_same : {S R : Type 0} (P : PlatformGhosts S) (T : TapeGhosts R) (platform platform_now : S) (tape tape_now : R) → platform_now ≡ platform → tape_now ≡ tape → DrewForPages P T platform platform_now tape tape_now
drew_same P T platform platform_now tape tape_now platform_same tape_same =
    let same : P.head platform_now ≡ P.head platform = ap P.head platform_same in
    ([], omega (arith, same), drew_none (T.drawn tape) (T.drawn tape_now) (ap T.drawn tape_same))

pub reply_drew : {S R W : Type 0} (P : PlatformGhosts S) (T : TapeGhosts R) (platform platform_now : S) (tape tape_now : R) (ledger ledger_now : W) (session now : Session) (reply : CommitReply)
    → (is_touched session ≡ false → (now ≡ session) × (platform_now ≡ platform) × (tape_now ≡ tape) × (ledger_now ≡ ledger) × (reply ≡ replies.Committed (number_of session)))
    → (is_touched session ≡ true → P.capacity platform - P.head platform < needed_by session
    → (now ≡ session) × (platform_now ≡ platform) × (tape_now ≡ tape) × (ledger_now ≡ ledger) × (reply ≡ replies.Full (needed_by session) (P.capacity platform - P.head platform)))
    → (is_touched session ≡ true → needed_by session ≤ P.capacity platform - P.head platform → HasRaised P T platform platform_now tape tape_now session now reply)
    → DrewForPages P T platform platform_now tape tape_now
reply_drew P T platform platform_now tape tape_now ledger ledger_now session now reply idle full raised =
    elim (cases_Bool (is_touched session)) [
      | inr e ↦
          let i = idle e in
          drew_same P T platform platform_now tape tape_now i.1 i.2
      | inl e ↦ elim (cases_lt (P.capacity platform - P.head platform) (needed_by session)) [
        | inl few ↦
            let f = full e few in
            drew_same P T platform platform_now tape tape_now f.1 f.2
        | inr many ↦
            let r = raised e many in
            (r.drew.0, r.head ∙ ap (λ (n : ℕ). P.head platform + n) (sym r.drew.1), r.drew.2)
      ]
    ]

-- the array of a session without a change is the device's
same_device : (session : Session) (image : Image) (device : Device) (contents : Blocks) → Holds session image device contents → is_touched session ≡ false → record device { number = number_of session; contents = contents } ≡ device
same_device session image device contents holds same = λ k. record device { number = holds.stands.number k; contents = holds.untouched same k }

pub reply_leads : (old new : History) (session now : Session) (device : Device) (contents : Blocks) (touched : Bool) (reply : CommitReply) (free : ℕ) → Holds session old.present device contents → is_touched session ≡ touched → IsServedImage new.present
    → (is_touched session ≡ false → (now ≡ session) × (reply ≡ replies.Committed (number_of session)))
    → (is_touched session ≡ true → free < needed_by session → (now ≡ session) × (reply ≡ replies.Full (needed_by session) free))
    → (is_touched session ≡ true → needed_by session ≤ free → (reply ≡ replies.Committed (number_of session + 1)) × (is_touched now ≡ false))
    → Holds now new.present (device_after reply device contents) contents
    → Turns old new (Leaves (Some device)) (Leaves (Some (committed device (record { contents = contents; touched = touched }))))
    → ReplyLeads old new now device (record { contents = contents; touched = touched }) reply
reply_leads old new session now device contents false reply free holds same served idle full raised after turns =
    let i = idle same in
    let array : OpenSession = record { contents = contents; touched = false } in
    let is : device_after reply device contents ≡ device = ap (λ (r : CommitReply). device_after r device contents) i.1 ∙ same_device session old.present device contents holds same in
    let there : IsAt new.present (Some now) (mounted device array) = at_array new.present now device array (subst (λ (d : Device). Holds now new.present d contents) is after) (ap (λ (s : Session). is_touched s) i.0 ∙ same) served in
    subst (λ (r : CommitReply). ReplyLeads old new now device array r) (sym i.1)
    (there, holds.stands.number, Turns-not old new (Leaves (Some device)) (Leaves (Some device)) (stayed old new (Some device) (Some (committed device array)) turns there.there.device))
reply_leads old new session now device contents true reply free holds same served idle full raised after turns =
    let array : OpenSession = record { contents = contents; touched = true } in
    let Goal : CommitReply → Type 0 = λ r. ReplyLeads old new now device array r in
    elim (cases_lt free (needed_by session)) [
      | inl few ↦
          let f = full same few in
          let there : IsAt new.present (Some now) (mounted device array) = at_array new.present now device array (subst (λ (r : CommitReply). Holds now new.present (device_after r device contents) contents) f.1 after) (ap (λ (s : Session). is_touched s) f.0 ∙ same) served in
          subst Goal (sym f.1) (there, stayed old new (Some device) (Some (committed device array)) turns there.there.device)
      | inr many ↦
          let r = raised same many in
          let next : number_of session + 1 ≡ device.number + 1 = ap (λ (n : ℕ). n + 1) holds.stands.number in
          let is : device_after reply device contents ≡ committed device array = ap (λ (x : CommitReply). device_after x device contents) r.0 ∙ ap (λ (n : ℕ). record device { number = n; contents = contents }) next in
          subst Goal (sym r.0)
          (at_array new.present now (committed device array) (record { contents = contents; touched = false }) (subst (λ (d : Device). Holds now new.present d contents) is after) r.1 served, next, turns)
    ]

-- ---- the devices that it makes

-- a commit that was answered makes one mark: the device with its number, or the same device again
pub reply_made : (old new : History) (session now : Session) (device : Device) (array : OpenSession) (reply : CommitReply) → IsAt old.present (Some session) (mounted device array) → ReplyLeads old new now device array reply
    → (exit : State) × Made old new (Some now) (mounted device array) (exit.device ∷ []) exit
reply_made old new session now device array (replies.Committed number) at led =
    let exit : State = mounted (committed_if array.touched device array) (record array { touched = false }) in
    (exit, made_one old new (Some now) (mounted device array) exit (Some (committed_if array.touched device array)) at.there.device led.2 led.0)
reply_made old new session now device array (replies.Full needed free) at led =
    (mounted device array, made_same old new (Some now) (mounted device array) (mounted device array) at.there.device led.1 led.0)

-- one that stopped makes none, or, where the platform failed, perhaps the device with the session's array
pub stop_made : (old new : History) (session : Session) (device : Device) (array : OpenSession) (stop : DeviceStop) → IsAt old.present (Some session) (mounted device array) → IsServedImage new.present → CommitLeads old new device array (Err stop)
    → Made old new None (mounted device array) [] (closed (Some device)) ⊎ Made old new None (mounted device array) (Some (committed device array) ∷ []) (closed (Some (committed device array)))
stop_made old new session device array stop at served led = cases stop led
  where
    none : During old new (Leaves (Some device)) → Made old new None (mounted device array) [] (closed (Some device))
    none during = made_none old new None (mounted device array) (closed (Some device)) at.there.device during refl
        (shut new.present (Some device) (LeavesOnly-now new (λ left. Stands left (Some device)) (During-now old new (Leaves (Some device)) during)) served)

    cases : (stop : DeviceStop) → CommitLeads old new device array (Err stop)
        → Made old new None (mounted device array) [] (closed (Some device)) ⊎ Made old new None (mounted device array) (Some (committed device array) ∷ []) (closed (Some (committed device array)))
    cases stops.Platform turns = made_stopped old new (mounted device array) (Some (committed device array)) at.there.device served turns
    cases stops.Tape during = inl (none during)
    cases stops.Ledger during = inl (none during)
    cases stops.Memory during = inl (none during)
    cases stops.BadRoot led = absurd led
    cases (stops.BadRecord addr) led = absurd led

-- the ledger gets something only behind pages: where something was changed a commit needs some, and else the ledger is as it was
pub commit_behind : {S W : Type 0} (P : PlatformGhosts S) (written : W → Option (List ℕ)) (platform platform_now : S) (ledger ledger_now : W) (session : Session) → (P.tells → (there : S) → length (P.history there).present.recorded ≡ P.head there)
    → IsOpen session (P.head platform) → (is_touched session ≡ false → ledger_now ≡ ledger) → PutsSynced P (needed_by session) platform platform_now ledger ledger_now
    → P.tells → PutsBehindPages (written ledger) (written ledger_now) (P.history platform) (P.history platform_now)
commit_behind P written platform platform_now ledger ledger_now session counts there_open idle synced = elim (cases_Bool (is_touched session)) [
  | inl touched ↦ behind_added P written (needed_by session) platform platform_now ledger ledger_now counts (needs_some session (P.head platform) there_open touched) synced
  | inr untouched ↦ behind_added P written 1 platform platform_now ledger ledger_now counts (omega arith) (inl (idle untouched))
]
