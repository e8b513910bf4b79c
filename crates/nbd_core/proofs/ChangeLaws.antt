-- How often requests sync, or change the cell.
use Rattle.std.proofs.Common.{◌≡◌, ◌≤◌, ◌+◌, ◌++◌, ◌∙◌, ℕ, List, [], ◌∷◌, Option, None, ap, arith}
use Rattle.std.specs.Prelude.{Ok}
use Rattle.sdbt_base.proofs.RiseLaws.{counted_few}
use Rattle.sdbt_base.specs.Rises.{MayRiseBy}
use Rattle.device_session.specs.Publishing.{most_commit}
use Rattle.device_session.specs.declared.refusals.CommitReply.{CommitReply}
use Rattle.device_session.specs.declared.refusals.CommitReply.TheVariants as commits
use Rattle.session_calls.specs.Commits.{most_stopped}
use Rattle.session_calls.specs.declared.stops.DeviceStop.{DeviceStop}
use Rattle.session_calls.specs.declared.stops.DeviceStop.TheVariants as stopping
use Rattle.nbd_lang.specs.Refusals.{refusal}
use Rattle.nbd_lang.specs.declared.replies.Outcome.{Outcome}
use Rattle.nbd_lang.specs.declared.requests.Request.{Request}
use Rattle.nbd_lang.specs.declared.requests.RequestKind.{RequestKind}
use Rattle.nbd_core.specs.Ample.{unless_refused}
use Rattle.nbd_core.specs.Changes.{changes_at, changes_for, changes_in}
use Rattle.nbd_core.specs.Exchanges.{Exchange}

-- a commit syncs and replaces the root record twice at most, whatever it answers
pub replied_twice : (reply : CommitReply) (old new : ℕ) → MayRiseBy (most_commit (Ok reply)) old new → MayRiseBy 2 old new
replied_twice (commits.Committed number) old new may = may
replied_twice (commits.Full needed free) old new may = counted_few 0 2 old new (omega arith) may

pub stopped_twice : (stop : DeviceStop) (old new : ℕ) → MayRiseBy (most_stopped stop) old new → MayRiseBy 2 old new
stopped_twice stopping.Platform old new may = may
stopped_twice stopping.Tape old new may = counted_few 0 2 old new (omega arith) may
stopped_twice stopping.Ledger old new may = counted_few 1 2 old new (omega arith) may
stopped_twice stopping.BadRoot old new may = counted_few 0 2 old new (omega arith) may
stopped_twice (stopping.BadRecord addr) old new may = counted_few 0 2 old new (omega arith) may
stopped_twice stopping.Memory old new may = counted_few 0 2 old new (omega arith) may

-- one that its head doesn't refuse, of this kind
pub changes_is : (size : ℕ) (request : Request) (kind : RequestKind) → refusal size request ≡ None → request.kind ≡ kind → changes_for size request ≡ changes_at kind
changes_is size request kind whole is = ap (λ (r : Option Outcome). unless_refused r (changes_at request.kind)) whole ∙ ap changes_at is

changes_push : (size : ℕ) (exchanges : List Exchange) (exchange : Exchange) → changes_in size (exchanges ++ exchange ∷ []) ≡ changes_in size exchanges + changes_for size exchange.sent.head
changes_push size [] exchange = omega arith
changes_push size (first ∷ more) exchange = omega (arith, changes_push size more exchange)

-- one request more
pub rises_more : (size : ℕ) (exchanges : List Exchange) (exchange : Exchange) (request : Request) (old mid new : ℕ) → exchange.sent.head ≡ request → MayRiseBy (changes_in size exchanges) old mid → MayRiseBy (changes_for size request) mid new
    → MayRiseBy (changes_in size (exchanges ++ exchange ∷ [])) old new
rises_more size exchanges exchange request old mid new same first second = record {
  rises = omega (arith, first.rises, second.rises);
  at_most = omega (arith, first.at_most, second.at_most, changes_push size exchanges exchange, ap (changes_for size) same);
}

pub rises_behind : (size : ℕ) (exchanges : List Exchange) (most old mid new : ℕ) → MayRiseBy (changes_in size exchanges) old mid → MayRiseBy most mid new → MayRiseBy (changes_in size exchanges + most) old new
rises_behind size exchanges most old mid new first second = record { rises = omega (arith, first.rises, second.rises); at_most = omega (arith, first.at_most, second.at_most) }
