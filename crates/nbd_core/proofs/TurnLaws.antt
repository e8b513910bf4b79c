-- What requests make of a session's array, and how they follow one another.
use Rattle.std.proofs.Common.{◌≡◌, ◌≤◌, ◌<◌, ◌+◌, ◌-◌, ◌*◌, ◌++◌, ◌∷◌, ◌∙◌, ℕ, Bool, true, false, List, [], Option, None, Some, Result, Ok, Err, inl, inr, length, take, drop, refl, sym, ap, subst, arith, append-nil, append_assoc, length-take}
use Rattle.std.specs.Prelude.{IfOk, nat_lt}
use Rattle.byte_arrays.specs.Ranges.{covered_blocks, touched_blocks}
use Rattle.std.proofs.Math.Seq.{drop-append_seam, take-append-add}
use Rattle.std.proofs.lemmas.List.{drop-take, map-append, take-append-le, take_all}
use Rattle.sdbt_base.specs.Arrays.{Device, Session as OpenSession, closed, mounted}
use Rattle.sdbt_base.specs.declared.sinks.Sink.{Ghosts as SinkGhosts}
use Rattle.sdbt_base.specs.declared.tapes.Tape.{Ghosts as TapeGhosts}
use Rattle.platform.specs.Image.{Image}
use Rattle.platform.specs.History.{CellStays, History}
use Rattle.platform.specs.declared.platforms.Platform.{Ghosts as PlatformGhosts}
use Rattle.device_terms.specs.Served.{IsServedImage}
use Rattle.device_course.specs.States.{IsAt, Outside, around}
use Rattle.device_course.proofs.HeldLaws.{needs_of}
use Rattle.device_course.proofs.MadeLaws.{made_again, made_kept, made_quiet, made_since, made_start, made_then, shut}
use Rattle.device_session.specs.Open.{IsOpen, blocks_of, needed_by}
use Rattle.device_session.specs.declared.refusals.CommitReply.{CommitReply}
use Rattle.device_session.specs.declared.refusals.CommitReply.TheVariants as replies
use Rattle.device_session.specs.Sessions.{Session}
use Rattle.nbd_lang.specs.Refusals.{refusal, refusal_by}
use Rattle.nbd_lang.specs.Replies.{Reply}
use Rattle.nbd_lang.specs.Requests.{RequestSent}
use Rattle.nbd_lang.specs.declared.replies.Outcome.{Outcome}
use Rattle.nbd_lang.specs.declared.replies.Outcome.TheVariants as outcomes
use Rattle.nbd_lang.specs.declared.requests.Request.{Request}
use Rattle.nbd_lang.specs.declared.requests.RequestKind.{RequestKind}
use Rattle.nbd_lang.specs.declared.requests.RequestKind.TheVariants as kinds
use Rattle.device_course.specs.Held.{Held, IsHeld, after_commit, device_of, state_of, trim_all}
use Rattle.nbd_terms.specs.Bytes.{after_trims, after_writes, size_of}
use Rattle.device_course.specs.Leading.{Leads, Led, last_of, marks_of}
use Rattle.nbd_terms.specs.Turn.{Answers, Flushes, HasToCommit, Reads, Serves, Trims, Turn, Writes}
use Rattle.device_course.proofs.LeadingLaws.{last_of-append, leads_append}
use Rattle.session_calls.specs.Commits.{AnswersCommit, AnswersReply, CommitLeads, ReplyLeads, StopsAt}
use Rattle.session_calls.proofs.HeldLaws.{commit_stopped, committed_held, refused_held}
use Rattle.session_calls.specs.declared.committing.Committed.{Committed}
use Rattle.session_calls.specs.declared.stops.DeviceStop.{DeviceStop}
use Rattle.session_calls.specs.declared.stops.DeviceStop.TheVariants as device
use Rattle.nbd_core.specs.Arrays.{DidSome, ReadsBytes, WroteRange}
use Rattle.nbd_core.specs.Halts.{commit_halt, commit_outcome, outcome_after}
use Rattle.nbd_core.specs.Serving.{bytes_of_reply, reply_of}
use Rattle.device_course.specs.Course.{MadeBetween}
use Rattle.nbd_core.specs.Turns.{Ended, Flushed, FlushedTo, Halted, HaltsAt, IsOfCommit, LeadsOn, MayHalt, OnArray, Performs, Turned}
use Rattle.nbd_core.specs.declared.serving.Performed.{Performed}
use Rattle.nbd_core.specs.declared.halts.Halt.{Halt}
use Rattle.nbd_core.specs.declared.halts.Halt.TheVariants as halts

-- ---- a request that reads, writes or trims blocks

-- the array is as it was
pub held_still : (image image_now : Image) (head head_now : ℕ) (session now : Session) (entry : Held) → IsHeld image head session entry → IsAt image_now (Some now) (state_of entry) → head_now ≡ head → needed_by now ≤ needed_by session → IsHeld image_now head_now now entry
held_still image image_now head head_now session now entry held at same needs = record { at = at; pages = held.pages ∙ sym same; needs = omega (arith, held.needs, needs) }

-- what a read that stopped says of its reply: it never has one over an image that stands
pub read_halted : (X : Outcome → Type 0) (image : Image) (now : Session) (there : Device) (array : OpenSession) (place : ℕ) (bytes : List ℕ) (stop : DeviceStop) (result : Result Outcome Halt) → ReadsBytes image now there array place bytes (Err stop) → result ≡ outcome_after stop → IfOk result X
read_halted X image now there array place bytes stop result led is = subst (λ (r : Result Outcome Halt). IfOk r X) (sym is) (by stop led)
  where
    by : (s : DeviceStop) → ReadsBytes image now there array place bytes (Err s) → IfOk (outcome_after s) X
    by device.Platform led = tt
    by device.Memory led = absurd led
    by device.Tape led = absurd led
    by device.Ledger led = absurd led
    by device.BadRoot led = absurd led
    by (device.BadRecord addr) led = absurd led

-- the bytes of a read lie in the room of its reply behind those of the head
pub read_room : (n size : ℕ) (front out after rest : List ℕ) → length front ≡ 16 → length out ≡ n → 16 + n ≤ size → take n (drop 16 (take size ((front ++ (out ++ after)) ++ rest))) ≡ out
read_room n size front out after rest head len long =
    let more : List ℕ = after ++ rest in
    let m : ℕ = size - 16 in
    let k : ℕ = m - length out in
    let all : (front ++ (out ++ after)) ++ rest ≡ front ++ (out ++ more) = append_assoc front (out ++ after) rest ∙ ap (λ (l : List ℕ). front ++ l) (append_assoc out after rest) in
    let is : size ≡ 16 + m = omega (arith, long) in
    let behind : drop 16 (front ++ (out ++ more)) ≡ out ++ more = ap (λ (h : ℕ). drop h (front ++ (out ++ more))) (sym head) ∙ drop-append_seam front (out ++ more) in
    let room : m ≡ length out + k = omega (arith, long, len) in
    ap (λ (l : List ℕ). take n (drop 16 (take size l))) all ∙ ap (λ (s : ℕ). take n (drop 16 (take s (front ++ (out ++ more))))) is ∙ ap (take n) (drop-take 16 m (front ++ (out ++ more)))
    ∙ ap (λ (l : List ℕ). take n (take m l)) behind ∙ ap (λ (s : ℕ). take n (take s (out ++ more))) room ∙ ap (take n) (take-append-add out more k)
    ∙ take-append-le n out (take k more) (omega (arith, len)) ∙ take_all n out (omega (arith, len))

length_first : (blocks : List ℕ) (n : ℕ) → n ≤ length blocks → length (take n blocks) ≡ n
length_first blocks n few = omega (arith, few, length-take n blocks)

-- some blocks were trimmed
pub trims_held : (image image_now : Image) (head head_now : ℕ) (session now : Session) (entry : Held) (blocks : List ℕ) (outcome : Outcome) → IsHeld image head session entry → head_now ≡ head
    → ((k : ℕ) × DidSome blocks outcome k × (needed_by now ≤ needed_by session + 41 * k) × IsAt image_now (Some now) (mounted entry.device (trim_all entry.session (take k blocks))))
    → (next : Held) × IsHeld image_now head_now now next × (next.device ≡ entry.device) × Trims entry blocks outcome next
trims_held image image_now head head_now session now entry blocks outcome held same (k, did, needs, at) =
    let next : Held = after_trims entry (take k blocks) in
    let is : Trims entry blocks outcome next = elim did.sound [
      | inl done ↦ subst (λ (o : Outcome). Trims entry blocks o next) (sym done) (ap (after_trims entry) (take_all k blocks (omega (arith, did.all done))))
      | inr none ↦ subst (λ (o : Outcome). Trims entry blocks o next) (sym none) (k, did.few, refl)
    ] in
    (next, record { at = at; pages = held.pages ∙ sym same; needs = omega (arith, held.needs, needs, length_first blocks k did.few) }, refl, is)

pub trims_lead : {S : Type 0} (P : PlatformGhosts S) (platform platform_now : S) (session now : Session) (blocks : List ℕ) (result : Result Outcome Halt) → P.head platform_now ≡ P.head platform
    → (P.tells → (there : Device) (array : OpenSession) → IsAt (P.history platform).present (Some session) (mounted there array)
    → IfOk result (λ outcome. (k : ℕ) × DidSome blocks outcome k × (needed_by now ≤ needed_by session + 41 * k) × IsAt (P.history platform_now).present (Some now) (mounted there (trim_all array (take k blocks)))))
    → LeadsOn P platform platform_now session now (λ outcome entry next. Trims entry blocks outcome next) result
trims_lead P platform platform_now session now blocks (Ok outcome) same trims told entry held =
    trims_held (P.history platform).present (P.history platform_now).present (P.head platform) (P.head platform_now) session now entry blocks outcome held same (trims told entry.device entry.session held.at)
trims_lead P platform platform_now session now blocks (Err halt) same trims told entry held = tt

-- some blocks were written
pub writes_held : (image image_now : Image) (head head_now free offset : ℕ) (session now : Session) (entry : Held) (bytes blocks : List ℕ) (outcome : Outcome) → IsHeld image head session entry → length blocks ≤ free
    → WroteRange image_now head head_now (needed_by session) now entry.device entry.session offset bytes blocks outcome
    → (next : Held) × IsHeld image_now head_now now next × (next.device ≡ entry.device) × Writes free entry offset bytes blocks outcome next
writes_held image image_now head head_now free offset session now entry bytes blocks outcome held fits wrote =
    let next : Held = after_writes entry offset bytes (take wrote.many blocks) in
    let count = length_first blocks wrote.many wrote.did.few in
    let is : Writes free entry offset bytes blocks outcome next = elim wrote.did.sound [
      | inl done ↦ subst (λ (o : Outcome). Writes free entry offset bytes blocks o next) (sym done) (fits, ap (after_writes entry offset bytes) (take_all wrote.many blocks (omega (arith, wrote.did.all done))))
      | inr none ↦ subst (λ (o : Outcome). Writes free entry offset bytes blocks o next) (sym none) (fits, wrote.many, wrote.did.few, refl)
    ] in
    (next, record { at = wrote.at; pages = omega (arith, held.pages, wrote.pages, count); needs = omega (arith, held.needs, wrote.needs, count) }, refl, is)

-- what follows of an outcome
pub on_outcome : (Some_so Others : Outcome → Type 0) (result : Result Outcome Halt) → ((outcome : Outcome) → Some_so outcome → Others outcome) → IfOk result Some_so → IfOk result Others
on_outcome Some_so Others (Ok outcome) then' holds = then' outcome holds
on_outcome Some_so Others (Err halt) then' holds = tt

-- what a write of a range leads to, where pages are free for each block that it touches
pub range_leads : {S : Type 0} (P : PlatformGhosts S) (platform platform_now : S) (session now : Session) (offset : ℕ) (bytes blocks : List ℕ) (result : Result Outcome Halt) → ((entry : Held) → entry.pages ≡ P.head platform → length blocks ≤ P.capacity platform - entry.pages)
    → (P.tells → (device : Device) (array : OpenSession) → IsAt (P.history platform).present (Some session) (mounted device array)
    → IfOk result (WroteRange (P.history platform_now).present (P.head platform) (P.head platform_now) (needed_by session) now device array offset bytes blocks))
    → LeadsOn P platform platform_now session now (λ outcome entry next. Writes (P.capacity platform - entry.pages) entry offset bytes blocks outcome next) result
range_leads P platform platform_now session now offset bytes blocks result fits wrote told entry held =
    let free : ℕ = P.capacity platform - entry.pages in
    on_outcome (WroteRange (P.history platform_now).present (P.head platform) (P.head platform_now) (needed_by session) now entry.device entry.session offset bytes blocks)
    (λ outcome. (next : Held) × IsHeld (P.history platform_now).present (P.head platform_now) now next × (next.device ≡ entry.device) × Writes free entry offset bytes blocks outcome next) result
    (λ outcome did. writes_held (P.history platform).present (P.history platform_now).present (P.head platform) (P.head platform_now) free offset session now entry bytes blocks outcome held (fits entry held.pages) did)
    (wrote told entry.device entry.session held.at)

-- ---- requests that are refused by their heads

-- have no bytes in their reply
by_refusal : (kind : RequestKind) (flags long past : Bool) (count : ℕ) (why : Outcome) (room : List ℕ) → refusal_by kind flags long past ≡ Some why → bytes_of_reply kind count why room ≡ []
by_refusal kinds.Read true long past count why room is = let e : why ≡ outcomes.Invalid = cc in ap (λ (o : Outcome). bytes_of_reply kinds.Read count o room) e
by_refusal kinds.Read false true past count why room is = let e : why ≡ outcomes.Invalid = cc in ap (λ (o : Outcome). bytes_of_reply kinds.Read count o room) e
by_refusal kinds.Read false false true count why room is = let e : why ≡ outcomes.Invalid = cc in ap (λ (o : Outcome). bytes_of_reply kinds.Read count o room) e
by_refusal kinds.Read false false false count why room is = absurd cc
by_refusal kinds.Write flags long past count why room is = refl
by_refusal kinds.Disconnect flags long past count why room is = refl
by_refusal kinds.Flush flags long past count why room is = refl
by_refusal kinds.Trim flags long past count why room is = refl
by_refusal (kinds.Other number) flags long past count why room is = refl

pub answers_refused : (free : ℕ) (entry : Held) (size : ℕ) (request : Request) (refused : Option Outcome) (why outcome : Outcome) (gone room : List ℕ) → refused ≡ refusal size request → refused ≡ Some why → outcome ≡ why
    → Answers free refused entry (record { head = request; bytes = gone }) outcome (bytes_of_reply request.kind request.length outcome room) entry
answers_refused free entry size request refused why outcome gone room whole is same =
    let none : bytes_of_reply request.kind request.length outcome room ≡ [] =
    ap (λ (o : Outcome). bytes_of_reply request.kind request.length o room) same
    ∙ by_refusal request.kind (nat_lt 0 request.flags) (nat_lt 33554432 request.length) (nat_lt size (request.offset + request.length)) request.length why room (sym whole ∙ is) in
    subst (λ (o : Option Outcome). Answers free o entry (record { head = request; bytes = gone }) outcome (bytes_of_reply request.kind request.length outcome room) entry) (sym is) (same, none, refl)

-- ---- and those that are not

answers_as : (kind : RequestKind) (free : ℕ) (entry next : Held) (request : Request) (refused : Option Outcome) (outcome : Outcome) (gone room : List ℕ) → request.kind ≡ kind → refused ≡ None
    → Serves free kind entry (record { head = request; bytes = gone }) outcome (bytes_of_reply kind request.length outcome room) next
    → Answers free refused entry (record { head = request; bytes = gone }) outcome (bytes_of_reply request.kind request.length outcome room) next
answers_as kind free entry next request refused outcome gone room is whole serves =
    subst (λ (o : Option Outcome). Answers free o entry (record { head = request; bytes = gone }) outcome (bytes_of_reply request.kind request.length outcome room) next) (sym whole)
    (subst (λ (k : RequestKind). Serves free k entry (record { head = request; bytes = gone }) outcome (bytes_of_reply k request.length outcome room) next) (sym is) serves)

pub answers_read : (free : ℕ) (entry next : Held) (request : Request) (refused : Option Outcome) (outcome : Outcome) (gone room : List ℕ) → request.kind ≡ kinds.Read → refused ≡ None
    → Reads entry request outcome (bytes_of_reply kinds.Read request.length outcome room) next
    → Answers free refused entry (record { head = request; bytes = gone }) outcome (bytes_of_reply request.kind request.length outcome room) next
answers_read free entry next request refused outcome gone room is whole reads = answers_as kinds.Read free entry next request refused outcome gone room is whole reads

pub answers_trim : (free : ℕ) (entry next : Held) (request : Request) (refused : Option Outcome) (outcome : Outcome) (gone room : List ℕ) → request.kind ≡ kinds.Trim → refused ≡ None
    → Trims entry (covered_blocks request.offset request.length) outcome next
    → Answers free refused entry (record { head = request; bytes = gone }) outcome (bytes_of_reply request.kind request.length outcome room) next
answers_trim free entry next request refused outcome gone room is whole trims = answers_as kinds.Trim free entry next request refused outcome gone room is whole (refl, trims)

pub answers_write : (free : ℕ) (entry next : Held) (request : Request) (refused : Option Outcome) (outcome : Outcome) (gone room : List ℕ) → request.kind ≡ kinds.Write → refused ≡ None
    → Writes free entry request.offset gone (touched_blocks request.offset request.length) outcome next
    → Answers free refused entry (record { head = request; bytes = gone }) outcome (bytes_of_reply request.kind request.length outcome room) next
answers_write free entry next request refused outcome gone room is whole writes = answers_as kinds.Write free entry next request refused outcome gone room is whole (refl, writes)

-- a write that is refused for want of pages
pub no_space : (free offset : ℕ) (entry : Held) (gone blocks : List ℕ) (outcome : Outcome) → outcome ≡ outcomes.NoSpace → free < length blocks → Writes free entry offset gone blocks outcome entry
no_space free offset entry gone blocks outcome is few = subst (λ (o : Outcome). Writes free entry offset gone blocks o entry) (sym is) (few, refl)

-- nothing was called
pub leads_idle : {S : Type 0} (P : PlatformGhosts S) (platform : S) (session : Session) (Was : Outcome → Type 0) (Is : Outcome → Held → Held → Type 0) (result : Result Outcome Halt) → IfOk result Was
    → ((outcome : Outcome) (entry : Held) → IsHeld (P.history platform).present (P.head platform) session entry → Was outcome → Is outcome entry entry) → LeadsOn P platform platform session session Is result
leads_idle P platform session Was Is (Ok outcome) was then' told entry held = (entry, held, refl, then' outcome entry held was)
leads_idle P platform session Was Is (Err halt) was then' told entry held = tt

-- what calls led to says more
pub leads_as : {S : Type 0} (P : PlatformGhosts S) (platform platform_now : S) (session now : Session) (Was Is : Outcome → Held → Held → Type 0) (result : Result Outcome Halt) → ((outcome : Outcome) (entry next : Held) → Was outcome entry next → Is outcome entry next)
    → LeadsOn P platform platform_now session now Was result → LeadsOn P platform platform_now session now Is result
leads_as P platform platform_now session now Was Is (Ok outcome) then' leads told entry held =
    let led = leads told entry held in
    (led.0, led.1, led.2, then' outcome entry led.0 led.3)
leads_as P platform platform_now session now Was Is (Err halt) then' leads told entry held = tt

-- ---- one after another

-- so far requests had these replies, and led to a state that the session stands for
pub record LedTo (capacity : ℕ) (old new : Outside) (session : Session) (entry : Held) (asked : List RequestSent) (replies : List Reply) : Type 0 where
  pub led : Led (Turn capacity) device_of (MadeBetween old.history new.history) entry asked replies []
  pub held : IsHeld new.history.present new.head session (last_of entry led.states)

-- more devices behind those that states led through
made_more : (first second third : History) (entry : Held) (states more : List Held) → MadeBetween first second entry.device (marks_of device_of (states ++ [])) (last_of entry (states ++ [])).device
    → MadeBetween second third (last_of entry states).device (marks_of device_of more) (last_of (last_of entry states) more).device
    → MadeBetween first third entry.device (marks_of device_of (states ++ more)) (last_of entry (states ++ more)).device
made_more first second third entry states more one two =
    let mid : Device = (last_of entry states).device in
    let end : Device = (last_of (last_of entry states) more).device in
    let front : MadeBetween first second entry.device (marks_of device_of states) mid =
    subst (λ (l : List Held). MadeBetween first second entry.device (marks_of device_of l) (last_of entry l).device) (append-nil states) one in
    let both : MadeBetween first third entry.device (marks_of device_of states ++ marks_of device_of more) end =
    made_then first second third None None (closed (Some entry.device)) (closed (Some mid)) (closed (Some end)) (marks_of device_of states) (marks_of device_of more) front two in
    let marks : MadeBetween first third entry.device (marks_of device_of (states ++ more)) end =
    subst (λ (ms : List (Option Device)). MadeBetween first third entry.device ms end) (sym (map-append (λ (s : Held). Some (device_of s)) states more)) both in
    subst (λ (s : Held). MadeBetween first third entry.device (marks_of device_of (states ++ more)) s.device) (sym (last_of-append entry states more)) marks

-- nothing was asked yet
pub led_start : (capacity : ℕ) (here : Outside) (session : Session) (entry : Held) → IsHeld here.history.present here.head session entry → LedTo capacity here here session entry [] []
led_start capacity here session entry held = record {
  led = record { states = []; leads = tt; made = made_start here.history None (closed (Some entry.device)) (shut here.history.present (Some entry.device) held.at.there.device held.at.served) };
  held = held;
}

-- one request more
pub led_more : (capacity : ℕ) (first second third : Outside) (session next : Session) (entry : Held) (asked : List RequestSent) (replies : List Reply) (sent : RequestSent) (reply : Reply) → length replies ≡ length asked → second.capacity ≡ capacity
    → (so_far : LedTo capacity first second session entry asked replies) → Turned second third (Some next) (last_of entry so_far.led.states) sent reply → LedTo capacity first third next entry (asked ++ sent ∷ []) (replies ++ reply ∷ [])
led_more capacity first second third session next entry asked replies sent reply count same so_far turned =
    let states : List Held = so_far.led.states in
    let last : Held = last_of entry states in
    let turn : Turn capacity last sent reply turned.next = subst (λ (n : ℕ). Turn n last sent reply turned.next) same turned.turn in
    let all : MadeBetween first.history third.history entry.device (marks_of device_of (states ++ turned.next ∷ [])) (last_of entry (states ++ turned.next ∷ [])).device =
    made_more first.history second.history third.history entry states (turned.next ∷ []) so_far.led.made turned.made in
    record {
      led = record {
        states = states ++ turned.next ∷ [];
        leads = leads_append (Turn capacity) entry asked (sent ∷ []) replies (reply ∷ []) states (turned.next ∷ []) count so_far.led.leads (turn, tt);
        made = subst (λ (l : List Held). MadeBetween first.history third.history entry.device (marks_of device_of l) (last_of entry l).device) (sym (append-nil (states ++ turned.next ∷ []))) all;
      };
      held = subst (λ (h : Held). IsHeld third.history.present third.head next h) (sym (last_of-append entry states (turned.next ∷ []))) turned.held;
    }

-- how a run goes on to its end from the last of them
pub record Ending (capacity : ℕ) (old new : Outside) (IsEnd : Held → List Held → Type 0) (last : Held) : Type 0 where
  pub ahead : List Held
  pub made : MadeBetween old.history new.history last.device (marks_of device_of ahead) (last_of last ahead).device
  pub is : IsEnd last ahead

pub led_end : (first second third : Outside) (session : Session) (entry : Held) (asked : List RequestSent) (replies : List Reply) (IsEnd : Held → List Held → Type 0) (ahead : List Held)
    → (so_far : LedTo first.capacity first second session entry asked replies)
    → MadeBetween second.history third.history (last_of entry so_far.led.states).device (marks_of device_of ahead) (last_of (last_of entry so_far.led.states) ahead).device
    → IsEnd (last_of entry so_far.led.states) ahead → OnArray first third entry asked replies IsEnd
led_end first second third session entry asked replies IsEnd ahead so_far made is = record {
  ahead = ahead;
  led = record {
    states = so_far.led.states;
    leads = so_far.led.leads;
    made = made_more first.history second.history third.history entry so_far.led.states ahead so_far.led.made made;
  };
  ends = is;
}

-- ---- from an earlier moment on, since which the device stayed

pub array_since : (first second third : Outside) (entry : Held) (asked : List RequestSent) (replies : List Reply) (IsEnd IsEndToo : Held → List Held → Type 0) → second.capacity ≡ first.capacity → ((last : Held) (ahead : List Held) → IsEnd last ahead → IsEndToo last ahead)
    → MadeBetween first.history second.history entry.device [] entry.device → OnArray second third entry asked replies IsEnd → OnArray first third entry asked replies IsEndToo
array_since first second third entry asked replies IsEnd IsEndToo same then' one two = record {
  ahead = two.ahead;
  led = record {
    states = two.led.states;
    leads = subst (λ (n : ℕ). Leads (Turn n) entry asked replies two.led.states) same two.led.leads;
    made = made_since first.history second.history third.history entry.device (last_of entry (two.led.states ++ two.ahead)).device (marks_of device_of (two.led.states ++ two.ahead)) one two.led.made;
  };
  ends = then' (last_of entry two.led.states) two.ahead two.ends;
}

-- ---- a commit

-- that was answered
flushed_by : {S R W : Type 0} (P : PlatformGhosts S) (T : TapeGhosts R) (L : SinkGhosts W) (platform platform_now : S) (tape tape_now : R) (ledger ledger_now : W) (session now : Session) (reply : CommitReply) (entry : Held) → IsOpen session (P.head platform)
    → IsHeld (P.history platform).present (P.head platform) session entry → AnswersReply P platform platform_now tape tape_now ledger ledger_now session now reply
    → ReplyLeads (P.history platform) (P.history platform_now) now entry.device entry.session reply
    → FlushedTo (around P T L platform tape ledger) (around P T L platform_now tape_now ledger_now) now (commit_outcome reply) entry
flushed_by P T L platform platform_now tape tape_now ledger ledger_now session now (replies.Committed number) entry there_open held answers led =
    let next = committed_held P platform platform_now tape tape_now ledger ledger_now session now number entry held answers led in
    record {
      next = after_commit entry (needed_by session);
      held = next.0;
      is = (needed_by session, needs_of session (P.history platform).present (P.head platform) entry there_open held, next.1, refl);
      made = next.2;
    }
flushed_by P T L platform platform_now tape tape_now ledger ledger_now session now (replies.Full needed free) entry there_open held answers led =
    let same = refused_held P platform platform_now tape tape_now ledger ledger_now session now needed free entry held answers led in
    record {
      next = entry;
      held = same.0;
      is = (needed_by session, needs_of session (P.history platform).present (P.head platform) entry there_open held, same.1, refl);
      made = same.2;
    }

pub flushed_to : {S R W : Type 0} (P : PlatformGhosts S) (T : TapeGhosts R) (L : SinkGhosts W) (platform platform_now : S) (tape tape_now : R) (ledger ledger_now : W) (session : Session) (done : Committed) (outcome : Outcome) (entry : Held) → IsOpen session (P.head platform)
    → outcome ≡ commit_outcome done.reply → IsHeld (P.history platform).present (P.head platform) session entry
    → AnswersCommit P T platform platform_now tape tape_now ledger ledger_now session (Ok done)
    → CommitLeads (P.history platform) (P.history platform_now) entry.device entry.session (Ok done)
    → FlushedTo (around P T L platform tape ledger) (around P T L platform_now tape_now ledger_now) done.session outcome entry
flushed_to P T L platform platform_now tape tape_now ledger ledger_now session done outcome entry there_open is held answers led =
    subst (λ (o : Outcome). FlushedTo (around P T L platform tape ledger) (around P T L platform_now tape_now ledger_now) done.session o entry) (sym is)
    (flushed_by P T L platform platform_now tape tape_now ledger ledger_now session done.session done.reply entry there_open held answers led)

-- and one that stopped
pub commit_halted : {S R W : Type 0} (P : PlatformGhosts S) (T : TapeGhosts R) (L : SinkGhosts W) (platform platform_now : S) (tape tape_now : R) (ledger ledger_now : W) (session : Session) (stop : DeviceStop) (halt : Halt) (entry : Held) → IsOpen session (P.head platform)
    → halt ≡ commit_halt stop → IsHeld (P.history platform).present (P.head platform) session entry → StopsAt P T platform platform_now tape tape_now session stop
    → IsServedImage (P.history platform_now).present → CommitLeads (P.history platform) (P.history platform_now) entry.device entry.session (Err stop)
    → Halted (around P T L platform tape ledger) (around P T L platform_now tape_now ledger_now) entry kinds.Flush halt
commit_halted P T L platform platform_now tape tape_now ledger ledger_now session stop halt entry there_open e held stops_at served led =
    let needs = needs_of session (P.history platform).present (P.head platform) entry there_open held in
    let can : HasToCommit (P.capacity platform) entry = record { touched = sym held.at.there.session.1 ∙ stops_at.touched; needed = needed_by session; needs = needs; room = omega (arith, stops_at.room, held.pages) } in
    let stopped = commit_stopped P T platform platform_now tape tape_now session stop entry (λ ahead s. HaltsAt (P.capacity platform) entry kinds.Flush ahead (commit_halt s)) (inl refl, refl, (refl, can), (refl, can))
    (λ needed needs room. inr (tt, after_commit entry needed, refl, (needed, needs, room, refl))) there_open held stops_at served led in
    subst (λ (h : Halt). Halted (around P T L platform tape ledger) (around P T L platform_now tape_now ledger_now) entry kinds.Flush h) (sym e) (record { ahead = stopped.0; is = stopped.1; made = stopped.2 })

-- ---- a disconnect

pub flush_ended : (old new : Outside) (now : Session) (entry : Held) (outcome : Outcome) → outcome ≡ outcomes.Done → FlushedTo old new now outcome entry → Ended old new entry
flush_ended old new now entry outcome is flushed = record { next = flushed.next; pages = flushed.held.pages; is = subst (λ (o : Outcome). Flushes (old.capacity - entry.pages) entry o flushed.next) is flushed.is; made = flushed.made }

-- too few pages are free for it
pub flush_unfinished : (old new : Outside) (now : Session) (entry : Held) (outcome : Outcome) → (outcome ≡ outcomes.Done → ⊥) → FlushedTo old new now outcome entry → Halted old new entry kinds.Disconnect halts.Unfinished
flush_unfinished old new now entry outcomes.Done other flushed = absurd (other refl)
flush_unfinished old new now entry outcomes.NoSpace other flushed =
    let (needed, needs, few, same) = flushed.is in
    record {
      ahead = [];
      is = (refl, (needed, needs, few, refl));
      made = made_quiet old.history new.history entry.device (subst (λ (h : Held). MadeBetween old.history new.history entry.device (Some h.device ∷ []) h.device) same flushed.made);
    }
flush_unfinished old new now entry outcomes.NoMemory other flushed = absurd flushed.is
flush_unfinished old new now entry outcomes.Invalid other flushed = absurd flushed.is
flush_unfinished old new now entry outcomes.Damaged other flushed = absurd flushed.is

as_disconnect : (capacity : ℕ) (entry : Held) (ahead : List Held) (halt : Halt) → HaltsAt capacity entry kinds.Flush ahead halt → HaltsAt capacity entry kinds.Disconnect ahead halt
as_disconnect capacity entry ahead halts.Platform (inl none) = inl none
as_disconnect capacity entry ahead halts.Platform (inr (of, next, is, ends)) = inr (tt, next, is, ends)
as_disconnect capacity entry ahead halts.Unfinished is = is
as_disconnect capacity entry ahead halts.Tape is = is
as_disconnect capacity entry ahead halts.Ledger is = is
as_disconnect capacity entry ahead halts.Memory is = is
as_disconnect capacity entry ahead halts.BadRoot is = is
as_disconnect capacity entry ahead halts.NoDevice is = is
as_disconnect capacity entry ahead (halts.Client stop) is = is

pub flush_halted : (old new : Outside) (entry : Held) (halt : Halt) → Halted old new entry kinds.Flush halt → Halted old new entry kinds.Disconnect halt
flush_halted old new entry halt halted = record { ahead = halted.ahead; is = as_disconnect old.capacity entry halted.ahead halt halted.is; made = halted.made }

-- ---- what is done for a request

-- the size of the device is that of the session
pub size_held : (image : Image) (head : ℕ) (session : Session) (entry : Held) → IsHeld image head session entry → 4096 * blocks_of session ≡ size_of entry
size_held image head session entry held = ap (λ (n : ℕ). 4096 * n) held.at.there.session.0.stands.blocks

-- a flush that was not refused
pub flush_turned : (old new : Outside) (now : Session) (entry : Held) (request : Request) (outcome : Outcome) (gone room : List ℕ) → request.kind ≡ kinds.Flush → refusal (size_of entry) request ≡ None → FlushedTo old new now outcome entry
    → Turned old new (Some now) entry (record { head = request; bytes = gone }) (reply_of request outcome room)
flush_turned old new now entry request outcome gone room is whole flushed =
    let free : ℕ = old.capacity - entry.pages in
    let sent : RequestSent = record { head = request; bytes = gone } in
    let bytes : List ℕ = bytes_of_reply request.kind request.length outcome room in
    let none : bytes ≡ [] = ap (λ (k : RequestKind). bytes_of_reply k request.length outcome room) is in
    let serves : Serves free request.kind entry sent outcome bytes flushed.next = subst (λ (k : RequestKind). Serves free k entry sent outcome bytes flushed.next) (sym is) (none, flushed.is) in
    record {
      next = flushed.next;
      pages = flushed.held.pages;
      held = flushed.held;
      turn = record { cookie = refl; answers = subst (λ (o : Option Outcome). Answers free o entry sent outcome bytes flushed.next) (sym whole) serves };
      made = flushed.made;
    }

-- calls for blocks
pub blocks_turned : (old new : Outside) (session now : Session) (entry : Held) (request : Request) (outcome : Outcome) (refused : Option Outcome) (gone room : List ℕ) → IsHeld old.history.present old.head session entry → refused ≡ refusal (size_of entry) request
    → CellStays old.history new.history
    → ((next : Held) × IsHeld new.history.present new.head now next × (next.device ≡ entry.device) × Answers (old.capacity - entry.pages) refused entry (record { head = request; bytes = gone }) outcome (bytes_of_reply request.kind request.length outcome room) next)
    → Turned old new (Some now) entry (record { head = request; bytes = gone }) (reply_of request outcome room)
blocks_turned old new session now entry request outcome refused gone room held is stays (next, at, same, answers) =
    let again : MadeBetween old.history new.history entry.device (Some entry.device ∷ []) entry.device =
    made_again old.history new.history entry.device (made_kept old.history new.history entry.device held.at.there.device held.at.served stays) in
    record {
      next = next;
      pages = at.pages;
      held = at;
      turn = record { cookie = refl; answers = subst (λ (o : Option Outcome). Answers (old.capacity - entry.pages) o entry (record { head = request; bytes = gone }) outcome (bytes_of_reply request.kind request.length outcome room) next) is answers };
      made = subst (λ (d : Device). MadeBetween old.history new.history entry.device (Some d ∷ []) d) (sym same) again;
    }

-- the ledger, and want of memory, halt none of these
halts_still : (capacity : ℕ) (entry : Held) (kind : RequestKind) (refused : Option Outcome) (halt : Halt) → MayHalt kind refused halt → (refused ≡ None → IsOfCommit kind → ⊥) → HaltsAt capacity entry kind [] halt
halts_still capacity entry kind refused halts.Platform may other = inl refl
halts_still capacity entry kind refused halts.Unfinished may other = absurd may
halts_still capacity entry kind refused halts.Tape may other = refl
halts_still capacity entry kind refused halts.Ledger may other = absurd (other may.0 may.1)
halts_still capacity entry kind refused halts.Memory may other = absurd (other may.0 may.1)
halts_still capacity entry kind refused halts.BadRoot may other = refl
halts_still capacity entry kind refused halts.NoDevice may other = refl
halts_still capacity entry kind refused (halts.Client stop) may other = refl

pub blocks_halted : (old new : Outside) (session : Session) (entry : Held) (kind : RequestKind) (refused : Option Outcome) (halt : Halt) → IsHeld old.history.present old.head session entry → MayHalt kind refused halt → (refused ≡ None → IsOfCommit kind → ⊥) → CellStays old.history new.history
    → Halted old new entry kind halt
blocks_halted old new session entry kind refused halt held may other stays = record {
  ahead = [];
  is = halts_still old.capacity entry kind refused halt may other;
  made = made_kept old.history new.history entry.device held.at.there.device held.at.served stays;
}

-- and the session is given up
pub turned_last : (old new : Outside) (session : Session) (entry : Held) (sent : RequestSent) (reply : Reply) → Turned old new (Some session) entry sent reply → Turned old new None entry sent reply
turned_last old new session entry sent reply turned = record { next = turned.next; pages = turned.pages; held = tt; turn = turned.turn; made = turned.made }

pub flush_performed : (tells : Type 0) (old new : Outside) (session : Session) (request : Request) (room : List ℕ) (result : Result Performed Halt) → request.kind ≡ kinds.Flush → refusal (4096 * blocks_of session) request ≡ None → Flushed tells old new session result
    → Performs tells old new session (record { head = request; bytes = [] }) room result
flush_performed tells old new session request room (Ok done) is whole flushed = λ told entry held.
    flush_turned old new done.session entry request done.outcome [] room is (ap (λ (n : ℕ). refusal n request) (sym (size_held old.history.present old.head session entry held)) ∙ whole) (flushed told entry held)
flush_performed tells old new session request room (Err halt) is whole flushed = λ told entry held. subst (λ (k : RequestKind). Halted old new entry k halt) (sym is) (flushed told entry held)

pub blocks_performed : {S R W : Type 0} (P : PlatformGhosts S) (T : TapeGhosts R) (L : SinkGhosts W) (platform platform_now : S) (tape tape_now : R) (ledger : W) (session : Session) (done : Performed) (request : Request) (refused : Option Outcome) (gone room : List ℕ)
    → refused ≡ refusal (4096 * blocks_of session) request → (P.tells → CellStays (P.history platform) (P.history platform_now))
    → LeadsOn P platform platform_now session done.session
    (λ outcome entry next. Answers (P.capacity platform - entry.pages) refused entry (record { head = request; bytes = gone }) outcome (bytes_of_reply request.kind request.length outcome room) next) (Ok done.outcome)
    → Performs P.tells (around P T L platform tape ledger) (around P T L platform_now tape_now ledger) session (record { head = request; bytes = gone }) room (Ok done)
blocks_performed P T L platform platform_now tape tape_now ledger session done request refused gone room whole stays leads told entry held =
    blocks_turned (around P T L platform tape ledger) (around P T L platform_now tape_now ledger) session done.session entry request done.outcome refused gone room held
    (whole ∙ ap (λ (n : ℕ). refusal n request) (size_held (P.history platform).present (P.head platform) session entry held)) (stays told) (leads told entry held)
