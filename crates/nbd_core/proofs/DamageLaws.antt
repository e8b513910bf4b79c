-- Which outcomes say what is true.
use Rattle.std.proofs.Common.{◌≡◌, ◌≤◌, ◌*◌, ◌++◌, ℕ, Bool, true, false, List, [], ◌∷◌, Option, Some, Result, Ok, Err, ap, refl, sym, subst, ◌∙◌, arith}
use Rattle.std.specs.Prelude.{IfOk, nat_lt, ◌+◌}
use Rattle.platform.specs.Image.{Image}
use Rattle.platform.specs.History.{Extends, History, image_at, moment}
use Rattle.platform.proofs.Moments.{image_at-now}
use Rattle.device_session.specs.Open.{blocks_of, needed_by}
use Rattle.device_session.specs.Sessions.{Session}
use Rattle.device_session.specs.declared.refusals.CommitReply.{CommitReply}
use Rattle.device_session.specs.declared.refusals.CommitReply.TheVariants as replies
use Rattle.nbd_lang.specs.Refusals.{refusal, refusal_by}
use Rattle.nbd_lang.specs.declared.replies.Outcome.{Outcome}
use Rattle.nbd_lang.specs.declared.replies.Outcome.TheVariants as outcomes
use Rattle.nbd_lang.specs.declared.requests.Request.{Request}
use Rattle.nbd_lang.specs.declared.requests.RequestKind.{RequestKind}
use Rattle.nbd_lang.specs.declared.requests.RequestKind.TheVariants as kinds
use Rattle.platform.specs.declared.platforms.Platform.{Ghosts as PlatformGhosts}
use Rattle.session_calls.specs.Commits.{AnswersReply}
use Rattle.session_calls.specs.Damage.{IsMounted}
use Rattle.session_calls.specs.declared.stops.DeviceStop.{DeviceStop}
use Rattle.session_calls.specs.declared.stops.DeviceStop.TheVariants as device
use Rattle.nbd_core.specs.Damages.{HasDone, SaysTrue, TellsTrue, ToldTrue, WasTrue, WereTrue}
use Rattle.nbd_core.specs.Exchanges.{Exchange}
use Rattle.nbd_core.specs.Meets.{HasMet, MeetsAt}
use Rattle.nbd_core.specs.Found.{FindsSame}
use Rattle.nbd_core.specs.Halts.{commit_outcome, outcome_after}
use Rattle.nbd_core.specs.Serving.{bytes_of_reply, reply_of}
use Rattle.nbd_core.specs.Stopped.{HasStopped}
use Rattle.nbd_core.proofs.FoundLaws.{same_start}
use Rattle.nbd_core.specs.declared.halts.Halt.{Halt}
use Rattle.nbd_core.specs.declared.serving.Performed.{Performed}
use Rattle.nbd_core.specs.Arrays.{AddsOne}

-- such a stop has a reply
abbrev pub HasReply : DeviceStop → Type 0
HasReply device.Memory = Unit {0}
HasReply (device.BadRecord addr) = Unit {0}
HasReply device.Platform = ⊥
HasReply device.Tape = ⊥
HasReply device.Ledger = ⊥
HasReply device.BadRoot = ⊥

-- and adds no page
pub adds_reply : (head head_now : ℕ) (stop : DeviceStop) → HasReply stop → AddsOne head head_now (Err stop) → head_now ≡ head
adds_reply head head_now device.Memory has adds = adds
adds_reply head head_now (device.BadRecord addr) has adds = adds
adds_reply head head_now device.Platform has adds = absurd has
adds_reply head head_now device.Tape has adds = absurd has
adds_reply head head_now device.Ledger has adds = absurd has
adds_reply head head_now device.BadRoot has adds = absurd has

by_stop : (IsSo : ℕ → Type 0) (Lacked Met Did Nothing : Type 0) (stop : DeviceStop) (outcome : Outcome) → (HasReply stop → Lacked) → (HasReply stop → (addr : ℕ) → IsSo addr → Met) → MeetsAt IsSo stop → outcome_after stop ≡ Ok outcome → SaysTrue Lacked Met Did Nothing outcome
by_stop IsSo Lacked Met Did Nothing (device.BadRecord addr) outcome lacked met meets is = let same : outcomes.Damaged ≡ outcome = cc in subst (SaysTrue Lacked Met Did Nothing) same (met tt addr meets)
by_stop IsSo Lacked Met Did Nothing device.Memory outcome lacked met meets is = let same : outcomes.NoMemory ≡ outcome = cc in subst (SaysTrue Lacked Met Did Nothing) same (lacked tt)
by_stop IsSo Lacked Met Did Nothing device.Platform outcome lacked met meets is = absurd cc
by_stop IsSo Lacked Met Did Nothing device.Tape outcome lacked met meets is = absurd cc
by_stop IsSo Lacked Met Did Nothing device.Ledger outcome lacked met meets is = absurd cc
by_stop IsSo Lacked Met Did Nothing device.BadRoot outcome lacked met meets is = absurd cc

-- a call that stopped, and what a request comes to
pub stop_given : (IsSo : ℕ → Type 0) (Lacked Met Did Nothing : Type 0) (stop : DeviceStop) (result : Result Outcome Halt) → (HasReply stop → Lacked) → (HasReply stop → (addr : ℕ) → IsSo addr → Met) → MeetsAt IsSo stop → IfOk result (λ outcome. outcome_after stop ≡ Ok outcome)
    → IfOk result (SaysTrue Lacked Met Did Nothing)
stop_given IsSo Lacked Met Did Nothing stop (Ok outcome) lacked met meets is = by_stop IsSo Lacked Met Did Nothing stop outcome lacked met meets is
stop_given IsSo Lacked Met Did Nothing stop (Err halt) lacked met meets is = tt

same_after : (stop : DeviceStop) (result : Result Outcome Halt) → result ≡ outcome_after stop → IfOk result (λ outcome. outcome_after stop ≡ Ok outcome)
same_after stop (Ok outcome) is = sym is
same_after stop (Err halt) is = tt

pub stop_after : (IsSo : ℕ → Type 0) (Lacked Met Did Nothing : Type 0) (stop : DeviceStop) (result : Result Outcome Halt) → (HasReply stop → Lacked) → (HasReply stop → (addr : ℕ) → IsSo addr → Met) → MeetsAt IsSo stop → result ≡ outcome_after stop → IfOk result (SaysTrue Lacked Met Did Nothing)
stop_after IsSo Lacked Met Did Nothing stop result lacked met meets is = stop_given IsSo Lacked Met Did Nothing stop result lacked met meets (same_after stop result is)

-- one that says what is true whatever was met
pub given_says : (Lacked Met Did Nothing : Type 0) (one : Outcome) (result : Result Outcome Halt) → SaysTrue Lacked Met Did Nothing one → IfOk result (λ outcome. outcome ≡ one) → IfOk result (SaysTrue Lacked Met Did Nothing)
given_says Lacked Met Did Nothing one (Ok outcome) says is = subst (SaysTrue Lacked Met Did Nothing) (sym is) says
given_says Lacked Met Did Nothing one (Err halt) says is = tt

refused_by : (Lacked Met Did Nothing : Type 0) → Nothing → (kind : RequestKind) (flags long past : Bool) (why : Outcome) → refusal_by kind flags long past ≡ Some why → SaysTrue Lacked Met Did Nothing why
refused_by Lacked Met Did Nothing nothing kinds.Read true long past why is = let same : outcomes.Invalid ≡ why = cc in subst (SaysTrue Lacked Met Did Nothing) same nothing
refused_by Lacked Met Did Nothing nothing kinds.Read false true past why is = let same : outcomes.Invalid ≡ why = cc in subst (SaysTrue Lacked Met Did Nothing) same nothing
refused_by Lacked Met Did Nothing nothing kinds.Read false false true why is = let same : outcomes.Invalid ≡ why = cc in subst (SaysTrue Lacked Met Did Nothing) same nothing
refused_by Lacked Met Did Nothing nothing kinds.Read false false false why is = absurd cc
refused_by Lacked Met Did Nothing nothing kinds.Write true long past why is = let same : outcomes.Invalid ≡ why = cc in subst (SaysTrue Lacked Met Did Nothing) same nothing
refused_by Lacked Met Did Nothing nothing kinds.Write false true past why is = let same : outcomes.Invalid ≡ why = cc in subst (SaysTrue Lacked Met Did Nothing) same nothing
refused_by Lacked Met Did Nothing nothing kinds.Write false false true why is = let same : outcomes.NoSpace ≡ why = cc in subst (SaysTrue Lacked Met Did Nothing) same nothing
refused_by Lacked Met Did Nothing nothing kinds.Write false false false why is = absurd cc
refused_by Lacked Met Did Nothing nothing kinds.Disconnect flags long past why is = absurd cc
refused_by Lacked Met Did Nothing nothing kinds.Flush true long past why is = let same : outcomes.Invalid ≡ why = cc in subst (SaysTrue Lacked Met Did Nothing) same nothing
refused_by Lacked Met Did Nothing nothing kinds.Flush false long past why is = absurd cc
refused_by Lacked Met Did Nothing nothing kinds.Trim true long past why is = let same : outcomes.Invalid ≡ why = cc in subst (SaysTrue Lacked Met Did Nothing) same nothing
refused_by Lacked Met Did Nothing nothing kinds.Trim false long true why is = let same : outcomes.Invalid ≡ why = cc in subst (SaysTrue Lacked Met Did Nothing) same nothing
refused_by Lacked Met Did Nothing nothing kinds.Trim false long false why is = absurd cc
refused_by Lacked Met Did Nothing nothing (kinds.Other number) flags long past why is = let same : outcomes.Invalid ≡ why = cc in subst (SaysTrue Lacked Met Did Nothing) same nothing

-- what its head is refused with says that nothing was done
pub refused_says : (image : Image) (session : Session) (size : ℕ) (request : Request) (gone room : List ℕ) (refused : Option Outcome) (why : Outcome) (result : Result Outcome Halt) → refused ≡ refusal size request → refused ≡ Some why → IfOk result (λ outcome. outcome ≡ why)
    → IfOk result (λ outcome. TellsTrue image image session session (record { head = request; bytes = gone }) (reply_of request outcome room))
refused_says image session size request gone room refused why (Ok outcome) whole is same = record {
  says = refused_by (HasStopped request.kind image image session session request gone (λ there. Unit {0})) (HasStopped request.kind image image session session request gone (λ there. HasMet request.kind there image request.offset request.length)) (HasDone request.kind image image session session request gone (bytes_of_reply request.kind request.length outcome room)) (FindsSame image image session session) (same_start image session)
      request.kind (nat_lt 0 request.flags) (nat_lt 33554432 request.length) (nat_lt size (request.offset + request.length)) outcome (sym whole ∙ is ∙ (λ i. Some (sym same i)));
  reads = λ read. same_start image session;
}
refused_says image session size request gone room refused why (Err halt) whole is same = tt

-- ---- a request of a kind

-- what was done for a request of this kind, if it is done, and how it stopped, if it did
done_as : (image after : Image) (session now : Session) (request : Request) (gone room : List ℕ) (kind : RequestKind) (Lacked Met Did : Type 0) (outcome : Outcome) → request.kind ≡ kind
    → (Lacked → HasStopped kind image after session now request gone (λ there. Unit {0})) → (Met → HasStopped kind image after session now request gone (λ there. HasMet kind there after request.offset request.length))
    → (Did → HasDone kind image after session now request gone (bytes_of_reply kind request.length outcomes.Done room)) → SaysTrue Lacked Met Did (FindsSame image after session now) outcome
    → SaysTrue (HasStopped request.kind image after session now request gone (λ there. Unit {0})) (HasStopped request.kind image after session now request gone (λ there. HasMet request.kind there after request.offset request.length))
    (HasDone request.kind image after session now request gone (bytes_of_reply request.kind request.length outcome room)) (FindsSame image after session now) outcome
done_as image after session now request gone room kind Lacked Met Did outcomes.Done is lacks so then' says =
    subst (λ (k : RequestKind). HasDone k image after session now request gone (bytes_of_reply k request.length outcomes.Done room)) (sym is) (then' says)
done_as image after session now request gone room kind Lacked Met Did outcomes.Damaged is lacks so then' says =
    subst (λ (k : RequestKind). HasStopped k image after session now request gone (λ there. HasMet k there after request.offset request.length)) (sym is) (so says)
done_as image after session now request gone room kind Lacked Met Did outcomes.NoMemory is lacks so then' says = subst (λ (k : RequestKind). HasStopped k image after session now request gone (λ there. Unit {0})) (sym is) (lacks says)
done_as image after session now request gone room kind Lacked Met Did outcomes.Invalid is lacks so then' says = says
done_as image after session now request gone room kind Lacked Met Did outcomes.NoSpace is lacks so then' says = says

pub kind_says : (image after : Image) (session now : Session) (request : Request) (gone room : List ℕ) (kind : RequestKind) (Lacked Met Did : Type 0) (result : Result Outcome Halt) → request.kind ≡ kind
    → (Lacked → HasStopped kind image after session now request gone (λ there. Unit {0})) → (Met → HasStopped kind image after session now request gone (λ there. HasMet kind there after request.offset request.length))
    → (Did → HasDone kind image after session now request gone (bytes_of_reply kind request.length outcomes.Done room)) → (kind ≡ kinds.Read → FindsSame image after session now)
    → IfOk result (SaysTrue Lacked Met Did (FindsSame image after session now))
    → IfOk result (λ outcome. TellsTrue image after session now (record { head = request; bytes = gone }) (reply_of request outcome room))
kind_says image after session now request gone room kind Lacked Met Did (Ok outcome) is lacks so then' reads says = record {
  says = done_as image after session now request gone room kind Lacked Met Did outcome is lacks so then' says;
  reads = λ read. reads (sym is ∙ read);
}
kind_says image after session now request gone room kind Lacked Met Did (Err halt) is lacks so then' reads says = tt

-- a flush
pub flush_says : (image after : Image) (session : Session) (request : Request) (gone room : List ℕ) (result : Result Performed Halt) → request.kind ≡ kinds.Flush
    → IfOk result (λ done. SaysTrue ⊥ ⊥ (needed_by done.session ≡ 0) (FindsSame image after session done.session) done.outcome)
    → IfOk result (λ done. TellsTrue image after session done.session (record { head = request; bytes = gone }) (reply_of request done.outcome room))
flush_says image after session request gone room (Err halt) is says = tt
flush_says image after session request gone room (Ok done) is says = record {
  says = done_as image after session done.session request gone room kinds.Flush ⊥ ⊥ (needed_by done.session ≡ 0) done.outcome is (λ never. absurd never) (λ never. absurd never) (λ none. none) says;
  reads = λ read. absurd (let no : kinds.Flush ≡ kinds.Read = sym is ∙ read in cc);
}

-- and its commit: the next one needs no page, or all is as it was
pub commit_says : {S R W : Type 0} (P : PlatformGhosts S) (platform platform_now : S) (tape tape_now : R) (ledger ledger_now : W) (session now : Session) (reply : CommitReply) (outcome : Outcome) → outcome ≡ commit_outcome reply
    → AnswersReply P platform platform_now tape tape_now ledger ledger_now session now reply → SaysTrue ⊥ ⊥ (needed_by now ≡ 0) (FindsSame (P.history platform).present (P.history platform_now).present session now) outcome
commit_says P platform platform_now tape tape_now ledger ledger_now session now (replies.Committed number) outcome is answers =
    subst (SaysTrue ⊥ ⊥ (needed_by now ≡ 0) (FindsSame (P.history platform).present (P.history platform_now).present session now)) (sym is) answers.needs
commit_says P platform platform_now tape tape_now ledger ledger_now session now (replies.Full needed free) outcome is answers =
    subst (SaysTrue ⊥ ⊥ (needed_by now ≡ 0) (FindsSame (P.history platform).present (P.history platform_now).present session now)) (sym is)
    (record { pages = ap (λ p. (P.history p).present.readable) answers.same.1; grove = ap (λ (s : Session). s.grove) answers.same.0 })

-- ---- at moments of a run

-- at two moments that were
was_later : (size : ℕ) (second third : History) (at behind : ℕ) (session now : Session) (exchange : Exchange) → Extends second third → behind ≤ moment second → WasTrue size second at behind session now exchange → WasTrue size third at behind session now exchange
was_later size second third at behind session now exchange extends to was =
    let first : image_at second at ≡ image_at third at = sym (extends.same at (omega (arith, was.later, to))) in
    let then' : image_at second behind ≡ image_at third behind = sym (extends.same behind to) in
    record {
      later = was.later;
      size_is = was.size_is;
      mounted = subst (λ (image : Image). IsMounted image session) first was.mounted;
      mounted_now = subst (λ (image : Image). IsMounted image now) then' was.mounted_now;
      is = subst (λ (image : Image). TellsTrue image (image_at third behind) session now exchange.sent exchange.reply) first
          (subst (λ (image : Image). TellsTrue (image_at second at) image session now exchange.sent exchange.reply) then' was.is);
    }

-- time goes on
were_on : (size : ℕ) (history : History) (at : ℕ) (session : Session) (exchanges : List Exchange) (end : ℕ) (last : Session) → WereTrue size history at session exchanges end last → at ≤ end
were_on size history at session [] end last (is, same) = omega (arith, is)
were_on size history at session (exchange ∷ more) end last (behind, now, was, others) = omega (arith, was.later, were_on size history behind now more end last others)

were_later : (size : ℕ) (second third : History) (at : ℕ) (session : Session) (exchanges : List Exchange) (end : ℕ) (last : Session) → Extends second third → end ≤ moment second → WereTrue size second at session exchanges end last → WereTrue size third at session exchanges end last
were_later size second third at session [] end last extends to (is, same) = (is, same)
were_later size second third at session (exchange ∷ more) end last extends to (behind, now, was, others) = (
  behind,
  now,
  was_later size second third at behind session now exchange extends (omega (arith, to, were_on size second behind now more end last others)) was,
  were_later size second third behind now more end last extends to others,
)

were_push : (size : ℕ) (history : History) (at : ℕ) (session : Session) (exchanges : List Exchange) (end : ℕ) (last : Session) (behind : ℕ) (now : Session) (exchange : Exchange) → WereTrue size history at session exchanges end last
    → WasTrue size history end behind last now exchange → WereTrue size history at session (exchanges ++ exchange ∷ []) behind now
were_push size history at session [] end last behind now exchange (is, same) was =
    (behind, now, subst (λ (m : ℕ). WasTrue size history m behind session now exchange) (sym is) (subst (λ (s : Session). WasTrue size history end behind s now exchange) (sym same) was), (refl, refl))
were_push size history at session (one ∷ more) end last behind now exchange (mid, between, first, others) was = (mid, between, first, were_push size history mid between more end last behind now exchange others was)

-- no request yet
pub told_nothing : (size : ℕ) (history : History) (session : Session) → IsMounted history.present session → needed_by session ≡ 0 → ToldTrue size history history [] (moment history) session
told_nothing size history session mounted fresh = record {
  start = moment history;
  first = session;
  from = omega arith;
  to = omega arith;
  mounted = subst (λ (image : Image). IsMounted image session) (sym (image_at-now history (moment history) (omega arith))) mounted;
  fresh = fresh;
  told = (refl, refl);
}

-- seen from later
pub told_later : (size : ℕ) (first second third : History) (exchanges : List Exchange) (end : ℕ) (last : Session) → Extends second third → ToldTrue size first second exchanges end last → ToldTrue size first third exchanges end last
told_later size first second third exchanges end last extends told = record {
  start = told.start;
  first = told.first;
  from = told.from;
  to = omega (arith, told.to, extends.later);
  mounted = subst (λ (image : Image). IsMounted image told.first) (sym (extends.same told.start (omega (arith, told.to, were_on size second told.start told.first exchanges end last told.told)))) told.mounted;
  fresh = told.fresh;
  told = were_later size second third told.start told.first exchanges end last extends told.to told.told;
}

-- one request more
pub told_more : (size : ℕ) (first second third : History) (exchanges : List Exchange) (session now : Session) (exchange : Exchange) → Extends second third → 4096 * blocks_of session ≡ size → IsMounted second.present session → IsMounted third.present now
    → TellsTrue second.present third.present session now exchange.sent exchange.reply → ToldTrue size first second exchanges (moment second) session → ToldTrue size first third (exchanges ++ exchange ∷ []) (moment third) now
told_more size first second third exchanges session now exchange extends size_is mounted mounted_now is so_far =
    let told = told_later size first second third exchanges (moment second) session extends so_far in
    let was : second.present ≡ image_at third (moment second) = sym (extends.same (moment second) (omega arith) ∙ image_at-now second (moment second) (omega arith)) in
    let then' : third.present ≡ image_at third (moment third) = sym (image_at-now third (moment third) (omega arith)) in
    record {
      start = told.start;
      first = told.first;
      from = told.from;
      to = omega arith;
      mounted = told.mounted;
      fresh = told.fresh;
      told = were_push size third told.start told.first exchanges (moment second) session (moment third) now exchange told.told
          (record {
            later = extends.later;
            size_is = size_is;
            mounted = subst (λ (image : Image). IsMounted image session) was mounted;
            mounted_now = subst (λ (image : Image). IsMounted image now) then' mounted_now;
            is = subst (λ (image : Image). TellsTrue image (image_at third (moment third)) session now exchange.sent exchange.reply) was
                (subst (λ (image : Image). TellsTrue second.present image session now exchange.sent exchange.reply) then' is);
          });
    }

-- from an earlier moment on
pub told_since : (size : ℕ) (first second third : History) (exchanges : List Exchange) (end : ℕ) (last : Session) → Extends first second → ToldTrue size second third exchanges end last → ToldTrue size first third exchanges end last
told_since size first second third exchanges end last extends told = record {
  start = told.start;
  first = told.first;
  from = omega (arith, told.from, extends.later);
  to = told.to;
  mounted = told.mounted;
  fresh = told.fresh;
  told = told.told;
}
