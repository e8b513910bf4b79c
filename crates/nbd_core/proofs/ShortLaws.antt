-- Replies that say that pages lack.
use Rattle.std.proofs.Common.{◌≡◌, ◌≢◌, ◌≤◌, ◌<◌, ◌+◌, ◌-◌, ◌*◌, ◌++◌, ◌∷◌, ◌∙◌, ℕ, List, [], Option, None, Some, Result, Ok, Err, inl, inr, length, refl, sym, ap, subst, arith}
use Rattle.std.specs.Prelude.{IfOk}
use Rattle.byte_arrays.specs.Ranges.{touched_blocks}
use Rattle.platform.specs.declared.platforms.Platform.{Ghosts as PlatformGhosts}
use Rattle.device_session.specs.Open.{needed_by}
use Rattle.device_session.specs.Sessions.{Session}
use Rattle.device_session.specs.declared.refusals.CommitReply.{CommitReply}
use Rattle.device_session.specs.declared.refusals.CommitReply.TheVariants as replies
use Rattle.nbd_lang.specs.Refusals.{refusal}
use Rattle.nbd_lang.specs.declared.replies.Outcome.{Outcome}
use Rattle.nbd_lang.specs.declared.replies.Outcome.TheVariants as outcomes
use Rattle.nbd_lang.specs.declared.requests.Request.{Request}
use Rattle.nbd_lang.specs.declared.requests.RequestKind.{RequestKind}
use Rattle.nbd_lang.specs.declared.requests.RequestKind.TheVariants as kinds
use Rattle.session_calls.specs.Commits.{AnswersReply}
use Rattle.session_calls.specs.declared.stops.DeviceStop.{DeviceStop}
use Rattle.session_calls.specs.declared.stops.DeviceStop.TheVariants as device
use Rattle.nbd_core.specs.Ample.{blocks_of_range, unless_refused}
use Rattle.nbd_core.specs.Exchanges.{Exchange}
use Rattle.nbd_core.specs.Halts.{commit_outcome, outcome_after}
use Rattle.nbd_core.specs.Short.{AreShort, FlushSpends, IsShort, Spends, updates_by, updates_in, updates_unless, updates_with}
use Rattle.nbd_core.specs.declared.halts.Halt.{Halt}
use Rattle.nbd_core.specs.declared.serving.Performed.{Performed}

-- ---- calls for blocks

pub cost_is : (refused : Option Outcome) (kind other : RequestKind) (offset n : ℕ) → refused ≡ None → kind ≡ other → blocks_of_range other offset n ≡ unless_refused refused (blocks_of_range kind offset n)
cost_is refused kind other offset n whole is = ap (λ (k : RequestKind). blocks_of_range k offset n) (sym is) ∙ ap (λ (r : Option Outcome). unless_refused r (blocks_of_range kind offset n)) (sym whole)

-- a stop never says that pages lack
pub stop_no_space : (stop : DeviceStop) (result : Result Outcome Halt) → IfOk result (λ outcome. outcome_after stop ≡ Ok outcome) → IfOk result (λ outcome. outcome ≢ outcomes.NoSpace)
stop_no_space stop (Err halt) is = tt
stop_no_space device.Memory (Ok outcome) is = λ lack. (let told : outcomes.NoMemory ≡ outcome = cc in let no : outcomes.NoMemory ≡ outcomes.NoSpace = told ∙ lack in cc)
stop_no_space (device.BadRecord addr) (Ok outcome) is = λ lack. (let told : outcomes.Damaged ≡ outcome = cc in let no : outcomes.Damaged ≡ outcomes.NoSpace = told ∙ lack in cc)
stop_no_space device.Platform (Ok outcome) is = absurd cc
stop_no_space device.Tape (Ok outcome) is = absurd cc
stop_no_space device.Ledger (Ok outcome) is = absurd cc
stop_no_space device.BadRoot (Ok outcome) is = absurd cc

pub done_no_space : outcomes.Done ≢ outcomes.NoSpace
done_no_space is = cc

-- what never comes
pub never_short : (Short : Type 0) (result : Result Outcome Halt) → IfOk result (λ outcome. outcome ≢ outcomes.NoSpace) → IfOk result (λ outcome. outcome ≡ outcomes.NoSpace → Short)
never_short Short (Ok outcome) never = λ lack. absurd (never lack)
never_short Short (Err halt) never = tt

pub refused_short : (Short : Type 0) (refused : Option Outcome) (why : Outcome) (kind : RequestKind) (result : Result Outcome Halt) → refused ≡ Some why → IfOk result (λ outcome. refused ≡ None → kind ≡ kinds.Write → outcome ≡ outcomes.NoSpace → Short)
refused_short Short refused why kind (Ok outcome) is = λ whole. absurd (let no : Some why ≡ None = sym is ∙ whole in cc)
refused_short Short refused why kind (Err halt) is = tt

pub read_short : (Short : Type 0) (refused : Option Outcome) (kind : RequestKind) (result : Result Outcome Halt) → kind ≡ kinds.Read → IfOk result (λ outcome. refused ≡ None → kind ≡ kinds.Write → outcome ≡ outcomes.NoSpace → Short)
read_short Short refused kind (Ok outcome) is = λ whole write. absurd (let no : kinds.Read ≡ kinds.Write = sym is ∙ write in cc)
read_short Short refused kind (Err halt) is = tt

pub trim_short : (Short : Type 0) (refused : Option Outcome) (kind : RequestKind) (result : Result Outcome Halt) → kind ≡ kinds.Trim → IfOk result (λ outcome. refused ≡ None → kind ≡ kinds.Write → outcome ≡ outcomes.NoSpace → Short)
trim_short Short refused kind (Ok outcome) is = λ whole write. absurd (let no : kinds.Trim ≡ kinds.Write = sym is ∙ write in cc)
trim_short Short refused kind (Err halt) is = tt

pub write_short : (Short : Type 0) (refused : Option Outcome) (kind : RequestKind) (result : Result Outcome Halt) → IfOk result (λ outcome. outcome ≡ outcomes.NoSpace → Short) → IfOk result (λ outcome. refused ≡ None → kind ≡ kinds.Write → outcome ≡ outcomes.NoSpace → Short)
write_short Short refused kind (Ok outcome) short = λ whole write lack. short lack
write_short Short refused kind (Err halt) short = tt

needs_unless : (refused : Option Outcome) (kind : RequestKind) (outcome : Outcome) (n offset count needed now : ℕ) → needed ≤ 41 * n → now ≤ needed + 41 * unless_refused refused (blocks_of_range kind offset count) → (refused ≡ None → kind ≡ kinds.Flush → ⊥)
    → now ≤ 41 * updates_unless refused kind outcome n (blocks_of_range kind offset count)
needs_unless (Some why) kind outcome n offset count needed now few spends other = omega (arith, few, spends)
needs_unless None kinds.Read outcome n offset count needed now few spends other = omega (arith, few, spends)
needs_unless None kinds.Write outcome n offset count needed now few spends other = omega (arith, few, spends)
needs_unless None kinds.Trim outcome n offset count needed now few spends other = omega (arith, few, spends)
needs_unless None kinds.Disconnect outcome n offset count needed now few spends other = omega (arith, few, spends)
needs_unless None kinds.Flush outcome n offset count needed now few spends other = absurd (other refl refl)
needs_unless None (kinds.Other number) outcome n offset count needed now few spends other = omega (arith, few, spends)

pub blocks_spend : (size free n : ℕ) (request : Request) (refused : Option Outcome) (session now : Session) (outcome : Outcome) → refused ≡ refusal size request → needed_by session ≤ 41 * n
    → needed_by now ≤ needed_by session + 41 * unless_refused refused (blocks_of_range request.kind request.offset request.length)
    → (refused ≡ None → request.kind ≡ kinds.Write → outcome ≡ outcomes.NoSpace → free < length (touched_blocks request.offset request.length))
    → (request.kind ≡ kinds.Flush → refused ≡ None → ⊥) → Spends size free n request now outcome
blocks_spend size free n request refused session now outcome is few spends short other = record {
  short = record { write = λ whole. short (is ∙ whole); flush = λ whole flush. absurd (other flush (is ∙ whole)) };
  needs =
      subst (λ (r : Option Outcome). needed_by now ≤ 41 * updates_unless r request.kind outcome n (blocks_of_range request.kind request.offset request.length)) is
      (needs_unless refused request.kind outcome n request.offset request.length (needed_by session) (needed_by now) few spends (λ whole flush. other flush whole));
}

-- ---- flushes

flush_reply : {S R W : Type 0} (P : PlatformGhosts S) (platform platform_now : S) (tape tape_now : R) (ledger ledger_now : W) (session now : Session) (reply : CommitReply) → AnswersReply P platform platform_now tape tape_now ledger ledger_now session now reply
    → FlushSpends (needed_by session) (P.capacity platform_now - P.head platform_now) (P.head platform) (P.head platform_now) now (commit_outcome reply)
flush_reply P platform platform_now tape tape_now ledger ledger_now session now (replies.Committed number) answers = record { only = inl refl; done = λ is. answers.needs; full = λ lack. absurd (done_no_space lack) }
flush_reply P platform platform_now tape tape_now ledger ledger_now session now (replies.Full needed free) answers = record {
  only = inr refl;
  done = λ is. absurd (done_no_space (sym is));
  full = λ lack. (
    ap (λ (s : Session). needed_by s) answers.same.0,
    omega (arith, answers.short, answers.is_needed, answers.is_free, ap P.head answers.same.1, ap P.capacity answers.same.1),
    ap P.head answers.same.1,
  );
}

pub flush_spent : {S R W : Type 0} (P : PlatformGhosts S) (platform platform_now : S) (tape tape_now : R) (ledger ledger_now : W) (session now : Session) (reply : CommitReply) (outcome : Outcome) → outcome ≡ commit_outcome reply
    → AnswersReply P platform platform_now tape tape_now ledger ledger_now session now reply → FlushSpends (needed_by session) (P.capacity platform_now - P.head platform_now) (P.head platform) (P.head platform_now) now outcome
flush_spent P platform platform_now tape tape_now ledger ledger_now session now reply outcome is answers =
    subst (λ (o : Outcome). FlushSpends (needed_by session) (P.capacity platform_now - P.head platform_now) (P.head platform) (P.head platform_now) now o) (sym is) (flush_reply P platform platform_now tape tape_now ledger ledger_now session now reply answers)

flush_needs : (needed free head head_now n blocks : ℕ) (now : Session) (outcome : Outcome) → needed ≤ 41 * n → FlushSpends needed free head head_now now outcome → needed_by now ≤ 41 * updates_with kinds.Flush outcome n blocks
flush_needs needed free head head_now n blocks now outcomes.Done few spends = omega (arith, spends.done refl)
flush_needs needed free head head_now n blocks now outcomes.NoSpace few spends = omega (arith, few, (spends.full refl).0)
flush_needs needed free head head_now n blocks now outcomes.Damaged few spends = elim spends.only [ inl is ↦ absurd cc | inr is ↦ absurd cc ]
flush_needs needed free head head_now n blocks now outcomes.NoMemory few spends = elim spends.only [ inl is ↦ absurd cc | inr is ↦ absurd cc ]
flush_needs needed free head head_now n blocks now outcomes.Invalid few spends = elim spends.only [ inl is ↦ absurd cc | inr is ↦ absurd cc ]

pub flush_spends : (size free head head_now n : ℕ) (request : Request) (session : Session) (result : Result Performed Halt) → request.kind ≡ kinds.Flush → refusal size request ≡ None → needed_by session ≤ 41 * n
    → IfOk result (λ done. FlushSpends (needed_by session) free head head_now done.session done.outcome) → IfOk result (λ done. Spends size free n request done.session done.outcome)
flush_spends size free head head_now n request session (Ok done) is whole few spends = record {
  short = record {
    write = λ none write. absurd (let no : kinds.Flush ≡ kinds.Write = sym is ∙ write in cc);
    flush = λ none flush lack. omega (arith, few, (spends.full lack).1);
  };
  needs =
      let blocks : ℕ = blocks_of_range request.kind request.offset request.length in
      subst (λ (r : Option Outcome). needed_by done.session ≤ 41 * updates_unless r request.kind done.outcome n blocks) (sym whole)
      (subst (λ (k : RequestKind). needed_by done.session ≤ 41 * updates_with k done.outcome n blocks) (sym is) (flush_needs (needed_by session) free head head_now n blocks done.session done.outcome few spends));
}
flush_spends size free head head_now n request session (Err halt) is whole few spends = tt

pub not_done : (needed free head head_now : ℕ) (now : Session) (outcome : Outcome) → (outcome ≡ outcomes.Done → ⊥) → FlushSpends needed free head head_now now outcome → (free < needed) × (head_now ≡ head)
not_done needed free head head_now now outcome other spends = elim spends.only [ inl is ↦ absurd (other is) | inr is ↦ ((spends.full is).1, (spends.full is).2) ]

-- ---- one after another

pub updates_push : (size n : ℕ) (exchanges : List Exchange) (exchange : Exchange) → updates_in size n (exchanges ++ exchange ∷ []) ≡ updates_by size (updates_in size n exchanges) exchange.sent.head exchange.reply.outcome
updates_push size n [] exchange = refl
updates_push size n (first ∷ more) exchange = updates_push size (updates_by size n first.sent.head first.reply.outcome) more exchange

pub short_push : (size free n : ℕ) (exchanges : List Exchange) (exchange : Exchange) → AreShort size free n exchanges → IsShort size free (updates_in size n exchanges) exchange.sent.head exchange.reply.outcome → AreShort size free n (exchanges ++ exchange ∷ [])
short_push size free n [] exchange short last = (last, tt)
short_push size free n (first ∷ more) exchange (one, rest) last = (one, short_push size free (updates_by size n first.sent.head first.reply.outcome) more exchange rest last)

one_less : (size free fewer n : ℕ) (exchange : Exchange) → fewer ≤ free → IsShort size free n exchange.sent.head exchange.reply.outcome → IsShort size fewer n exchange.sent.head exchange.reply.outcome
one_less size free fewer n exchange le short = record {
  write = λ whole is lack. omega (arith, le, short.write whole is lack);
  flush = λ whole is lack. omega (arith, le, short.flush whole is lack);
}

-- and with fewer pages free
pub short_less : (size free fewer n : ℕ) (exchanges : List Exchange) → fewer ≤ free → AreShort size free n exchanges → AreShort size fewer n exchanges
short_less size free fewer n [] le short = tt
short_less size free fewer n (first ∷ more) le (one, rest) = (one_less size free fewer n first le one, short_less size free fewer (updates_by size n first.sent.head first.reply.outcome) more le rest)
