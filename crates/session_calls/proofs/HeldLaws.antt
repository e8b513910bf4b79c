-- What a commit makes of a device with a session on it.
use Rattle.std.proofs.Common.{◌≡◌, ◌≤◌, ◌<◌, ◌-◌, ◌∷◌, ◌∙◌, ℕ, Bool, List, [], None, Some, Err, inl, inr, refl, sym, ap, subst, arith}
use Rattle.sdbt_base.specs.Arrays.{Device, closed, committed, committed_if}
use Rattle.sdbt_base.specs.declared.tapes.Tape.{Ghosts as TapeGhosts}
use Rattle.platform.specs.History.{During, History}
use Rattle.platform.specs.declared.platforms.Platform.{Ghosts as PlatformGhosts}
use Rattle.platform.proofs.Moments.{During-now, LeavesOnly-now}
use Rattle.page_store.specs.Stands.{Stands}
use Rattle.device_terms.specs.Served.{IsServedImage}
use Rattle.device_course.specs.Course.{MadeBetween}
use Rattle.device_course.specs.Held.{Held, IsHeld, Needs, after_commit, device_of}
use Rattle.device_course.specs.Leading.{last_of, marks_of}
use Rattle.device_course.specs.Marks.{Leaves}
use Rattle.device_course.proofs.HeldLaws.{needs_of}
use Rattle.device_course.proofs.MadeLaws.{made_none, made_one, made_same, made_stopped, shut}
use Rattle.device_session.specs.Open.{IsOpen, needed_by}
use Rattle.device_session.specs.Sessions.{Session}
use Rattle.device_session.specs.declared.refusals.CommitReply.TheVariants as replies
use Rattle.session_calls.specs.Commits.{AnswersReply, CommitLeads, ReplyLeads, StopsAt}
use Rattle.session_calls.specs.declared.stops.DeviceStop.{DeviceStop}
use Rattle.session_calls.specs.declared.stops.DeviceStop.TheVariants as stops

-- that was answered with a number
pub committed_held : {S R W : Type 0} (P : PlatformGhosts S) (platform platform_now : S) (tape tape_now : R) (ledger ledger_now : W) (session now : Session) (number : ℕ) (entry : Held) → IsHeld (P.history platform).present (P.head platform) session entry
    → AnswersReply P platform platform_now tape tape_now ledger ledger_now session now (replies.Committed number)
    → ReplyLeads (P.history platform) (P.history platform_now) now entry.device entry.session (replies.Committed number)
    → IsHeld (P.history platform_now).present (P.head platform_now) now (after_commit entry (needed_by session)) × (needed_by session ≤ P.capacity platform - entry.pages)
    × MadeBetween (P.history platform) (P.history platform_now) entry.device (Some (after_commit entry (needed_by session)).device ∷ []) (after_commit entry (needed_by session)).device
committed_held P platform platform_now tape tape_now ledger ledger_now session now number entry held answers led =
    let next : Device = (after_commit entry (needed_by session)).device in (
      record { at = led.0; pages = omega (arith, held.pages, answers.adds); needs = omega (arith, answers.needs) },
      omega (arith, answers.room, held.pages),
      made_one (P.history platform) (P.history platform_now) None (closed (Some entry.device)) (closed (Some next)) (Some next) held.at.there.device led.2 (shut (P.history platform_now).present (Some next) led.0.there.device led.0.served),
    )

-- that was answered as short of pages
pub refused_held : {S R W : Type 0} (P : PlatformGhosts S) (platform platform_now : S) (tape tape_now : R) (ledger ledger_now : W) (session now : Session) (needed free : ℕ) (entry : Held) → IsHeld (P.history platform).present (P.head platform) session entry
    → AnswersReply P platform platform_now tape tape_now ledger ledger_now session now (replies.Full needed free)
    → ReplyLeads (P.history platform) (P.history platform_now) now entry.device entry.session (replies.Full needed free)
    → IsHeld (P.history platform_now).present (P.head platform_now) now entry × (P.capacity platform - entry.pages < needed_by session)
    × MadeBetween (P.history platform) (P.history platform_now) entry.device (Some entry.device ∷ []) entry.device
refused_held P platform platform_now tape tape_now ledger ledger_now session now needed free entry held answers led =
    let head : P.head platform_now ≡ P.head platform = ap P.head answers.same.1 in
    let wants : needed_by now ≡ needed_by session = ap (λ (s : Session). needed_by s) answers.same.0 in (
      record { at = led.0; pages = held.pages ∙ sym head; needs = omega (arith, held.needs, wants) },
      omega (arith, answers.short, answers.is_needed, answers.is_free, held.pages),
      made_same (P.history platform) (P.history platform_now) None (closed (Some entry.device)) (closed (Some entry.device)) held.at.there.device led.1
          (shut (P.history platform_now).present (Some entry.device) led.0.there.device led.0.served),
    )

-- that stopped: the device stayed, or, where the platform failed, it may be the next one
pub commit_stopped : {S R : Type 0} (P : PlatformGhosts S) (T : TapeGhosts R) (platform platform_now : S) (tape tape_now : R) (session : Session) (stop : DeviceStop) (entry : Held) (Is : List Held → DeviceStop → Type 0)
    → (Is [] stops.Platform × Is [] stops.Tape × Is [] stops.Ledger × Is [] stops.Memory) → ((needed : ℕ) → Needs entry needed → needed ≤ P.capacity platform - entry.pages → Is (after_commit entry needed ∷ []) stops.Platform)
    → IsOpen session (P.head platform) → IsHeld (P.history platform).present (P.head platform) session entry → StopsAt P T platform platform_now tape tape_now session stop
    → IsServedImage (P.history platform_now).present → CommitLeads (P.history platform) (P.history platform_now) entry.device entry.session (Err stop)
    → (ahead : List Held) × Is ahead stop × MadeBetween (P.history platform) (P.history platform_now) entry.device (marks_of device_of ahead) (last_of entry ahead).device
commit_stopped P T platform platform_now tape tape_now session stop entry Is nothing_ahead one_ahead there_open held stops_at served led = by stop led
  where
    before : History
    before = P.history platform

    now : History
    now = P.history platform_now

    stands : Stands before.present (Some entry.device)
    stands = held.at.there.device

    none : During before now (Leaves (Some entry.device)) → MadeBetween before now entry.device [] entry.device
    none during = made_none before now None (closed (Some entry.device)) (closed (Some entry.device)) stands during refl
        (shut now.present (Some entry.device) (LeavesOnly-now now (λ left. Stands left (Some entry.device)) (During-now before now (Leaves (Some entry.device)) during)) served)

    next : Held
    next = after_commit entry (needed_by session)

    made_next : committed entry.device entry.session ≡ next.device
    made_next = sym (ap (λ (t : Bool). committed_if t entry.device entry.session) (sym held.at.there.session.1 ∙ stops_at.touched))

    by : (s : DeviceStop) → CommitLeads before now entry.device entry.session (Err s) → (ahead : List Held) × Is ahead s × MadeBetween before now entry.device (marks_of device_of ahead) (last_of entry ahead).device
    by stops.Platform turns = elim (made_stopped before now (closed (Some entry.device)) (Some (committed entry.device entry.session)) stands served turns) [
      | inl nothing ↦ ([], nothing_ahead.0, nothing)
      | inr one ↦ (
        next ∷ [],
        one_ahead (needed_by session) (needs_of session before.present (P.head platform) entry there_open held) (omega (arith, stops_at.room, held.pages)),
        subst (λ (d : Device). MadeBetween before now entry.device (Some d ∷ []) d) made_next one,
      )
    ]
    by stops.Tape during = ([], nothing_ahead.1, none during)
    by stops.Ledger during = ([], nothing_ahead.2, none during)
    by stops.Memory during = ([], nothing_ahead.3, none during)
    by stops.BadRoot led = absurd led
    by (stops.BadRecord addr) led = absurd led
