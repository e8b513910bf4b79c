-- How many pages requests add.
use Rattle.std.proofs.Common.{◌≡◌, ◌≢◌, ◌≤◌, ◌+◌, ◌*◌, ◌++◌, ◌∙◌, ℕ, List, Option, None, Some, Result, Ok, Err, inr, refl, sym, ap, subst, arith}
use Rattle.std.specs.Prelude.{IfErr}
use Rattle.sdbt_base.specs.declared.tapes.Tape.{Ghosts as TapeGhosts}
use Rattle.platform.specs.declared.platforms.Platform.{Ghosts as PlatformGhosts}
use Rattle.device_course.specs.Held.{Held}
use Rattle.device_session.specs.Open.{needed_by}
use Rattle.device_session.specs.Sessions.{Session}
use Rattle.nbd_lang.specs.Refusals.{refusal}
use Rattle.nbd_lang.specs.Requests.{FitsRequest, request_head}
use Rattle.nbd_lang.specs.declared.replies.Outcome.{Outcome}
use Rattle.nbd_lang.specs.declared.requests.Request.{Request}
use Rattle.nbd_lang.specs.declared.requests.RequestKind.{RequestKind}
use Rattle.nbd_lang.specs.declared.requests.RequestKind.TheVariants as kinds
use Rattle.session_calls.specs.Commits.{StopsAt}
use Rattle.session_calls.specs.declared.stops.DeviceStop.{DeviceStop}
use Rattle.session_calls.specs.declared.stops.DeviceStop.TheVariants as device
use Rattle.nbd_core.specs.Ample.{unless_refused}
use Rattle.nbd_core.specs.Halts.{commit_halt}
use Rattle.nbd_core.specs.Near.{HasAdded, IsNear, left_by, needed_at, needed_for}
use Rattle.nbd_core.specs.Turns.{IsOfCommit, MayHalt}
use Rattle.nbd_core.specs.declared.serving.Performed.{Performed}
use Rattle.nbd_core.specs.declared.stop.Stop.TheVariants as stops
use Rattle.nbd_core.specs.declared.halts.Halt.{Halt}
use Rattle.nbd_core.specs.declared.halts.Halt.TheVariants as halts

-- ---- what requests of a kind need

pub needed_is : (refused : Option Outcome) (kind other : RequestKind) (updates offset n : ℕ) → refused ≡ None → kind ≡ other → needed_at other updates offset n ≡ unless_refused refused (needed_at kind updates offset n)
needed_is refused kind other updates offset n whole is =
    ap (λ (k : RequestKind). needed_at k updates offset n) (sym is) ∙ ap (λ (r : Option Outcome). unless_refused r (needed_at kind updates offset n)) (sym whole)

-- behind more updates no fewer
needed_more : (refused : Option Outcome) (kind : RequestKind) (updates offset n : ℕ) → unless_refused refused (needed_at kind 0 offset n) ≤ unless_refused refused (needed_at kind updates offset n)
needed_more (Some why) kind updates offset n = omega arith
needed_more None kinds.Write updates offset n = omega arith
needed_more None kinds.Flush updates offset n = omega arith
needed_more None kinds.Disconnect updates offset n = omega arith
needed_more None kinds.Read updates offset n = omega arith
needed_more None kinds.Trim updates offset n = omega arith
needed_more None (kinds.Other number) updates offset n = omega arith

-- of more pages no fewer are left
pub left_more : (halt : Halt) (few many : ℕ) → few ≤ many → left_by halt few ≤ left_by halt many
left_more halts.Memory few many le = omega arith
left_more halts.Unfinished few many le = omega arith
left_more (halts.Client stop) few many le = le
left_more halts.Platform few many le = le
left_more halts.Tape few many le = le
left_more halts.Ledger few many le = le
left_more halts.BadRoot few many le = le
left_more halts.NoDevice few many le = le

-- ---- calls for blocks

-- leave what they need where they halt a run
left_blocks : (kind : RequestKind) (refused : Option Outcome) (halt : Halt) (needed : ℕ) → MayHalt kind refused halt → (refused ≡ None → IsOfCommit kind → ⊥) → left_by halt needed ≡ needed
left_blocks kind refused halts.Memory needed may other = absurd (other may.0 may.1)
left_blocks kind refused halts.Unfinished needed may other = absurd may
left_blocks kind refused (halts.Client stop) needed may other = refl
left_blocks kind refused halts.Platform needed may other = refl
left_blocks kind refused halts.Tape needed may other = refl
left_blocks kind refused halts.Ledger needed may other = refl
left_blocks kind refused halts.BadRoot needed may other = refl
left_blocks kind refused halts.NoDevice needed may other = refl

pub no_commit : (kind : RequestKind) → kind ≢ kinds.Disconnect → kind ≢ kinds.Flush → IsOfCommit kind → ⊥
no_commit kinds.Flush disconnect flush of = flush refl
no_commit kinds.Disconnect disconnect flush of = disconnect refl
no_commit kinds.Read disconnect flush of = of
no_commit kinds.Write disconnect flush of = of
no_commit kinds.Trim disconnect flush of = of
no_commit (kinds.Other number) disconnect flush of = of

pub blocks_add : (size updates head now : ℕ) (request : Request) (refused : Option Outcome) (halt : Halt) → refused ≡ refusal size request → MayHalt request.kind refused halt → request.kind ≢ kinds.Disconnect → (request.kind ≡ kinds.Flush → refused ≡ None → ⊥)
    → now ≤ head + unless_refused refused (needed_at request.kind 0 request.offset request.length) → now ≤ head + left_by halt (needed_for size request updates)
blocks_add size updates head now request refused halt whole may disconnect flush adds =
    let more = needed_more refused request.kind updates request.offset request.length in
    let same : unless_refused refused (needed_at request.kind updates request.offset request.length) ≡ needed_for size request updates =
    ap (λ (r : Option Outcome). unless_refused r (needed_at request.kind updates request.offset request.length)) whole in
    let left = left_blocks request.kind refused halt (needed_for size request updates) may (λ none. no_commit request.kind disconnect (λ is. flush is none)) in
    omega (arith, adds, more, same, left)

-- ---- commits

-- one that stopped
pub commit_adds : {S R : Type 0} (P : PlatformGhosts S) (T : TapeGhosts R) (platform platform_now : S) (tape tape_now : R) (session : Session) (stop : DeviceStop) (halt : Halt) → halt ≡ commit_halt stop → StopsAt P T platform platform_now tape tape_now session stop
    → P.head platform_now ≤ P.head platform + needed_by session → P.head platform_now ≤ P.head platform + left_by halt (needed_by session)
commit_adds P T platform platform_now tape tape_now session stop halt is stops_at adds = subst (λ (h : Halt). P.head platform_now ≤ P.head platform + left_by h (needed_by session)) (sym is) (by stop stops_at)
  where
    by : (s : DeviceStop) → StopsAt P T platform platform_now tape tape_now session s → P.head platform_now ≤ P.head platform + left_by (commit_halt s) (needed_by session)
    by device.Memory at = omega (arith, at.left.0.head)
    by device.Platform at = adds
    by device.Tape at = adds
    by device.Ledger at = adds
    by device.BadRoot at = adds
    by (device.BadRecord addr) at = absurd at.left

-- what a commit needs a flush or a disconnect does
pub commit_needed : (size updates : ℕ) (request : Request) (kind : RequestKind) → request.kind ≡ kind → refusal size request ≡ None → needed_at kind updates request.offset request.length ≡ needed_for size request updates
commit_needed size updates request kind is whole = needed_is (refusal size request) request.kind kind updates request.offset request.length whole is

pub flush_adds : (size updates head now : ℕ) (request : Request) (session : Session) (result : Result Performed Halt) → request.kind ≡ kinds.Flush → refusal size request ≡ None → needed_by session ≤ 41 * updates
    → IfErr result (λ halt. now ≤ head + left_by halt (needed_by session)) → IfErr result (λ halt. now ≤ head + left_by halt (needed_for size request updates))
flush_adds size updates head now request session (Ok done) is whole few adds = tt
flush_adds size updates head now request session (Err halt) is whole few adds =
    let most : 41 * updates ≡ needed_for size request updates = commit_needed size updates request kinds.Flush is whole in
    omega (arith, adds, left_more halt (needed_by session) (needed_for size request updates) (omega (arith, few, most)))

-- ---- how a run ends

-- in a request
pub added : (size head now : ℕ) (rest more : List ℕ) (request : Request) (last : Held) (halt : Halt) → FitsRequest request → rest ≡ request_head request ++ more → last.pages ≡ head → head ≤ now
    → now ≤ head + left_by halt (needed_for size request last.updates) → HasAdded size rest (left_by halt) now last
added size head now rest more request last halt fits is same rises adds = inr (request, more, fits, is, omega (arith, same, rises), omega (arith, same, adds))

-- or between two
pub near_of : (size now : ℕ) (rest : List ℕ) (halt : Halt) (last : Held) (ahead : List Held) → halt ≢ halts.Client stops.Sink → HasAdded size rest (left_by halt) now last → IsNear size rest (Err halt) now last ahead
near_of size now rest (halts.Client stops.Sink) last ahead other has = absurd (other refl)
near_of size now rest (halts.Client stops.Source) last ahead other has = has
near_of size now rest (halts.Client stops.Limit) last ahead other has = has
near_of size now rest (halts.Client stops.Broken) last ahead other has = has
near_of size now rest halts.Platform last ahead other has = has
near_of size now rest halts.Tape last ahead other has = has
near_of size now rest halts.Ledger last ahead other has = has
near_of size now rest halts.Memory last ahead other has = has
near_of size now rest halts.Unfinished last ahead other has = has
near_of size now rest halts.BadRoot last ahead other has = has
near_of size now rest halts.NoDevice last ahead other has = has
