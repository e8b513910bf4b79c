-- What replies say of any pages, forged ones too: that a record doesn't fit, or that all is well.
use Rattle.std.specs.Prelude.{◌≡◌, ◌≤◌, ◌*◌, ℕ, List, [], ◌∷◌, Result, IfOk}
use Rattle.byte_arrays.specs.Ranges.{covered_blocks}
use Rattle.platform.specs.Image.{Image}
use Rattle.platform.specs.History.{History, image_at, moment}
use Rattle.platform.specs.declared.platforms.Platform.{Ghosts as PlatformGhosts}
use Rattle.device_session.specs.Open.{blocks_of, needed_by}
use Rattle.device_session.specs.Sessions.{Session}
use Rattle.nbd_lang.specs.Replies.{Reply}
use Rattle.nbd_lang.specs.Requests.{RequestSent}
use Rattle.nbd_lang.specs.declared.replies.Outcome.{Outcome}
use Rattle.nbd_lang.specs.declared.replies.Outcome.TheVariants as outcomes
use Rattle.nbd_lang.specs.declared.requests.Request.{Request}
use Rattle.nbd_lang.specs.declared.requests.RequestKind.TheVariants as kinds
use Rattle.nbd_lang.specs.declared.requests.RequestKind.{RequestKind}
use Rattle.session_calls.specs.Damage.{IsMounted}
use Rattle.nbd_core.specs.Exchanges.{Exchange}
use Rattle.nbd_core.specs.Meets.{HasMet}
use Rattle.nbd_core.specs.Found.{FindsBytes, FindsSame, HasTrimmed, HasWritten}
use Rattle.nbd_core.specs.Serving.{reply_of}
use Rattle.nbd_core.specs.Stopped.{HasStopped, StopsWriting}
use Rattle.nbd_core.specs.declared.halts.Halt.{Halt}
use Rattle.nbd_core.specs.declared.serving.Performed.{Performed}

-- an outcome says what is true: that this was done; that it was stopped by want of memory, or by a page that
-- doesn't fit its place; or that nothing was done
abbrev pub SaysTrue : Type 0 → Type 0 → Type 0 → Type 0 → Outcome → Type 0
SaysTrue Lacked Met Did Nothing outcomes.Done = Did
SaysTrue Lacked Met Did Nothing outcomes.Damaged = Met
SaysTrue Lacked Met Did Nothing outcomes.Invalid = Nothing
SaysTrue Lacked Met Did Nothing outcomes.NoSpace = Nothing
SaysTrue Lacked Met Did Nothing outcomes.NoMemory = Lacked

-- a request was done, whose bytes these are, with those of its reply: what look-ups find before it and
-- behind it. Behind a flush the session has no changes of its own
abbrev pub HasDone : RequestKind → Image → Image → Session → Session → Request → List ℕ → List ℕ → Type 0
HasDone kinds.Read image after session now request sent told = FindsBytes image session request.offset told
HasDone kinds.Write image after session now request sent told = HasWritten image after session now request.offset sent
HasDone kinds.Trim image after session now request sent told = HasTrimmed image after session now (covered_blocks request.offset request.length)
HasDone kinds.Flush image after session now request sent told = needed_by now ≡ 0
HasDone kinds.Disconnect image after session now request sent told = Unit {0}
HasDone (kinds.Other number) image after session now request sent told = Unit {0}

-- a reply says what is true of the image and the session before its request and behind it; and a read leaves
-- what look-ups find, whatever its reply
pub record TellsTrue (image after : Image) (session now : Session) (sent : RequestSent) (reply : Reply) : Type 0 where
  pub says : SaysTrue (HasStopped sent.head.kind image after session now sent.head sent.bytes (λ there. Unit {0})) (HasStopped sent.head.kind image after session now sent.head sent.bytes (λ there. HasMet sent.head.kind there after sent.head.offset sent.head.length))
      (HasDone sent.head.kind image after session now sent.head sent.bytes reply.bytes) (FindsSame image after session now) reply.outcome
  pub reads : sent.head.kind ≡ kinds.Read → FindsSame image after session now

-- so does what a write of a range comes to, of which these bytes came
abbrev pub WritesTrue : {S : Type 0} → PlatformGhosts S → S → S → Session → Session → ℕ → ℕ → List ℕ → Result Outcome Halt → Type 0
WritesTrue P platform platform_now session now offset n bytes result =
    P.tells → IsMounted (P.history platform).present session → IfOk result (SaysTrue (StopsWriting (P.history platform).present (P.history platform_now).present session now offset bytes (λ there. Unit {0})) (StopsWriting (P.history platform).present (P.history platform_now).present session now offset bytes (λ there. HasMet kinds.Write there (P.history platform_now).present offset n)) (HasWritten (P.history platform).present (P.history platform_now).present session now offset bytes) (FindsSame (P.history platform).present (P.history platform_now).present session now))

-- and the reply to a request that comes to an outcome, with so much in the room of a reply
abbrev pub AnswersTrue : {S : Type 0} → PlatformGhosts S → S → S → Session → Session → RequestSent → List ℕ → Result Outcome Halt → Type 0
AnswersTrue P platform platform_now session now sent room result =
    P.tells → IsMounted (P.history platform).present session → IfOk result (λ outcome. TellsTrue (P.history platform).present (P.history platform_now).present session now sent (reply_of sent.head outcome room))

-- and to one with which a session goes on
abbrev pub PerformsTrue : {S : Type 0} → PlatformGhosts S → S → S → Session → RequestSent → List ℕ → Result Performed Halt → Type 0
PerformsTrue P platform platform_now session sent room result =
    P.tells → IfOk result (λ done. TellsTrue (P.history platform).present (P.history platform_now).present session done.session sent (reply_of sent.head done.outcome room))

-- a reply of a run says what is true at the moments at which its request began and was done: each of the
-- two has a session on the root record in the cell, for a device of so many bytes
pub record WasTrue (size : ℕ) (history : History) (at behind : ℕ) (session now : Session) (exchange : Exchange) : Type 0 where
  pub later : at ≤ behind
  pub size_is : 4096 * blocks_of session ≡ size
  pub mounted : IsMounted (image_at history at) session
  pub mounted_now : IsMounted (image_at history behind) now
  pub is : TellsTrue (image_at history at) (image_at history behind) session now exchange.sent exchange.reply

-- so does each of these from a moment and a session on, where the one before it left them
abbrev pub WereTrue : ℕ → History → ℕ → Session → List Exchange → ℕ → Session → Type 0
WereTrue size history at session [] end last = (at ≡ end) × (session ≡ last)
WereTrue size history at session (exchange ∷ more) end last = (behind : ℕ) × (now : Session) × WasTrue size history at behind session now exchange × WereTrue size history behind now more end last

-- so does each of a part of a run, which began them with a session that has no changes
pub record ToldTrue (size : ℕ) (old new : History) (exchanges : List Exchange) (end : ℕ) (last : Session) : Type 0 where
  pub start : ℕ
  pub first : Session
  pub from : moment old ≤ start
  pub to : end ≤ moment new
  pub mounted : IsMounted (image_at new start) first
  pub fresh : needed_by first ≡ 0
  pub told : WereTrue size new start first exchanges end last
