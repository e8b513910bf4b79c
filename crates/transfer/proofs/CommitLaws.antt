-- What a commit makes of the device that another one comes to.
use Rattle.std.proofs.Common.{◌≡◌, ◌-◌, ◌<◌, ◌∙◌, ◌⊎◌, ◌∷◌, ℕ, List, [], Option, None, Some, Result, Ok, Err, inl, inr, refl, sym, subst, arith}
use Rattle.sdbt_base.specs.Arrays.{Device, Session as OpenSession, closed, committed, committed_if, mounted}
use Rattle.platform.specs.declared.platforms.Platform.{Ghosts as PlatformGhosts}
use Rattle.platform.specs.History.{During, History}
use Rattle.platform.proofs.Moments.{During-now}
use Rattle.device_terms.specs.Served.{IsServedImage}
use Rattle.device_course.specs.Course.{Made, MadeBetween}
use Rattle.device_course.specs.States.{IsAt}
use Rattle.device_course.proofs.MadeLaws.{made_none, made_one, shut}
use Rattle.device_session.specs.Open.{needed_by}
use Rattle.device_session.specs.Sessions.{Session}
use Rattle.device_session.specs.declared.refusals.CommitReply.{CommitReply}
use Rattle.device_session.specs.declared.refusals.CommitReply.TheVariants as replies
use Rattle.session_calls.specs.Commits.{AnswersReply, CommitLeads, ReplyLeads}
use Rattle.session_calls.specs.declared.stops.DeviceStop.{DeviceStop}
use Rattle.session_calls.specs.declared.stops.DeviceStop.TheVariants as stops
use Rattle.session_calls.proofs.CommitLaws.{stop_made}
use Rattle.transfer.specs.Moving.{Commits, IsSoundStop}
use Rattle.transfer.specs.Running.{IsNumberOf}
use Rattle.transfer.specs.declared.halts.Halt.{Halt}
use Rattle.transfer.specs.declared.halts.Halt.TheVariants as halts

-- the same devices, told of without a session at the start
between : (old new : History) (there last : Device) (other : OpenSession) (marks : List (Option Device)) → Made old new None (mounted there other) marks (closed (Some last)) → MadeBetween old new there marks last
between old new there last other marks made = record { passes = made.passes; last = made.last; exits = made.exits }

pub commit_done : (old new : History) (session now : Session) (there : Device) (other : OpenSession) (reply : CommitReply) (result : Result ℕ Halt) → IsAt old.present (Some session) (mounted there other) → ReplyLeads old new now there other reply → IsNumberOf reply result → Commits old new there other result
commit_done old new session now there other (replies.Committed number) result at led is =
    let next : Device = committed_if other.touched there other in
    subst (Commits old new there other) (sym is) (led.1, made_one old new None (closed (Some there)) (closed (Some next)) (Some next) at.there.device led.2 (shut new.present (Some next) led.0.there.device led.0.served))
commit_done old new session now there other (replies.Full needed free) result at led is =
    subst (Commits old new there other) (sym is) (tt, inl (made_none old new None (closed (Some there)) (closed (Some there)) at.there.device led.1 refl (shut new.present (Some there) led.0.there.device led.0.served)))

sound_of : (old new : History) (there : Device) (other : OpenSession) (stop : DeviceStop) → CommitLeads old new there other (Err stop) → IsSoundStop stop
sound_of old new there other stops.Platform led = tt
sound_of old new there other stops.Tape led = tt
sound_of old new there other stops.Ledger led = tt
sound_of old new there other stops.Memory led = tt
sound_of old new there other stops.BadRoot led = absurd led
sound_of old new there other (stops.BadRecord addr) led = absurd led

pub commit_stopped : (old new : History) (session : Session) (there : Device) (other : OpenSession) (stop : DeviceStop) → IsAt old.present (Some session) (mounted there other) → During old new IsServedImage → CommitLeads old new there other (Err stop) → Commits old new there other (Err (halts.To stop))
commit_stopped old new session there other stop at served led = (
  sound_of old new there other stop led,
  elim (stop_made old new session there other stop at (During-now old new IsServedImage served) led) as (λ e. MadeBetween old new there [] there ⊎ MadeBetween old new there (Some (committed there other) ∷ []) (committed there other)) [
    | inl none ↦ inl (between old new there there other [] none)
    | inr one ↦ inr (between old new there (committed there other) other (Some (committed there other) ∷ []) one)
  ],
)

-- where too few pages are free, fewer are than the session needs
pub commit_short : {S R W : Type 0} (P : PlatformGhosts S) (platform platform_now : S) (tape tape_now : R) (ledger ledger_now : W) (session now : Session) (reply : CommitReply) (result : Result ℕ Halt) → AnswersReply P platform platform_now tape tape_now ledger ledger_now session now reply
    → IsNumberOf reply result → result ≡ Err halts.Full → P.capacity platform - P.head platform < needed_by session
commit_short P platform platform_now tape tape_now ledger ledger_now session now (replies.Committed number) result answers is full = absurd (let both : Ok number ≡ Err halts.Full = sym is ∙ full in cc)
commit_short P platform platform_now tape tape_now ledger ledger_now session now (replies.Full needed free) result answers is full = omega (arith, answers.short, answers.is_needed, answers.is_free)
