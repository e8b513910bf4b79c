-- How often a line syncs all pages, or replaces the root record, at most.
use Rattle.std.proofs.Common.{◌≡◌, ◌≤◌, ◌+◌, ℕ, List, Result, Ok, Err, sym, ap, subst, arith}
use Rattle.sdbt_base.proofs.RiseLaws.{counted_few, counted_not}
use Rattle.sdbt_base.specs.Rises.{MayRiseBy}
use Rattle.platform.specs.declared.platforms.Platform.{Ghosts as PlatformGhosts}
use Rattle.device_session.specs.Sessions.{Session}
use Rattle.device_session.specs.declared.refusals.CommitReply.{CommitReply}
use Rattle.device_session.specs.declared.refusals.CommitReply.TheVariants as commits
use Rattle.session_calls.specs.Commits.{AnswersReply, most_stopped}
use Rattle.device_session.specs.Publishing.{most_commit}
use Rattle.session_calls.specs.declared.stops.DeviceStop.TheVariants as stopping
use Rattle.session_calls.specs.declared.stops.DeviceStop.{DeviceStop}
use Rattle.volume_lines.specs.Lines.{Line, Create, Read, Write, Trim, Destroy, Commit, asked}
use Rattle.volume_lines.specs.Replies.{Reply, Created, Exists, NoRoom, Unknown, Content, Done, Range, Full, Destroyed, Uncommitted, Committed, Bad}
use Rattle.volume_lines.specs.declared.lines.Line.{Line as Parsed}
use Rattle.volume_lines.specs.declared.replies.Reply.{Reply as Given}
use Rattle.volume_desk.specs.Syncs.{changes_for, changes_in, changes_with}
use Rattle.volume_desk.specs.Turns.{commit_reply, destroy_reply}

-- and what it did behind that
pub changed_behind : (most old mid new : ℕ) → mid ≡ old → MayRiseBy most mid new → MayRiseBy most old new
changed_behind most old mid new same may = subst (λ (n : ℕ). MayRiseBy most n new) same may

-- a commit syncs and replaces the root record twice at most, whatever it answers
pub replied_twice : (reply : CommitReply) (old new : ℕ) → MayRiseBy (most_commit (Ok reply)) old new → MayRiseBy 2 old new
replied_twice (commits.Committed number) old new may = may
replied_twice (commits.Full needed free) old new may = counted_few 0 2 old new (omega arith) may

pub stopped_twice : (stop : DeviceStop) (old new : ℕ) → MayRiseBy (most_stopped stop) old new → MayRiseBy 2 old new
stopped_twice stopping.Platform old new may = may
stopped_twice stopping.Tape old new may = counted_few 0 2 old new (omega arith) may
stopped_twice stopping.Ledger old new may = counted_few 1 2 old new (omega arith) may
stopped_twice stopping.BadRoot old new may = counted_few 0 2 old new (omega arith) may
stopped_twice (stopping.BadRecord addr) old new may = counted_few 0 2 old new (omega arith) may
stopped_twice stopping.Memory old new may = counted_few 0 2 old new (omega arith) may

-- a commit that was answered, or a line that was this one
pub commit_changes : {S R W : Type 0} (P : PlatformGhosts S) (platform platform_now : S) (tape tape_now : R) (ledger ledger_now : W) (session now : Session) (reply : CommitReply) (given : Given) (buffer : List ℕ)
    → AnswersReply P platform platform_now tape tape_now ledger ledger_now session now reply → given ≡ commit_reply reply → MayRiseBy 2 (P.changes platform) (P.changes platform_now)
    → MayRiseBy (changes_in Commit buffer (Ok given)) (P.changes platform) (P.changes platform_now)
commit_changes P platform platform_now tape tape_now ledger ledger_now session now (commits.Committed number) given buffer answers is may =
    subst (λ (r : Given). MayRiseBy (changes_in Commit buffer (Ok r)) (P.changes platform) (P.changes platform_now)) (sym is) may
commit_changes P platform platform_now tape tape_now ledger ledger_now session now (commits.Full needed free) given buffer answers is may =
    subst (λ (r : Given). MayRiseBy (changes_in Commit buffer (Ok r)) (P.changes platform) (P.changes platform_now)) (sym is) (counted_not 0 (P.changes platform) (P.changes platform_now) (ap P.changes answers.same.1))

pub destroy_changes : {S R W : Type 0} (P : PlatformGhosts S) (platform platform_now : S) (tape tape_now : R) (ledger ledger_now : W) (session now : Session) (reply : CommitReply) (given : Given) (name buffer : List ℕ)
    → AnswersReply P platform platform_now tape tape_now ledger ledger_now session now reply → given ≡ destroy_reply reply → MayRiseBy 2 (P.changes platform) (P.changes platform_now)
    → MayRiseBy (changes_in (Destroy name) buffer (Ok given)) (P.changes platform) (P.changes platform_now)
destroy_changes P platform platform_now tape tape_now ledger ledger_now session now (commits.Committed number) given name buffer answers is may =
    subst (λ (r : Given). MayRiseBy (changes_in (Destroy name) buffer (Ok r)) (P.changes platform) (P.changes platform_now)) (sym is) may
destroy_changes P platform platform_now tape tape_now ledger ledger_now session now (commits.Full needed free) given name buffer answers is may =
    subst (λ (r : Given). MayRiseBy (changes_in (Destroy name) buffer (Ok r)) (P.changes platform) (P.changes platform_now)) (sym is) (counted_not 0 (P.changes platform) (P.changes platform_now) (ap P.changes answers.same.1))

pub changes_as : (old new : ℕ) (line was : Parsed) (before buffer : List ℕ) (answer : Result Given DeviceStop) → line ≡ was → MayRiseBy (changes_in (asked was before) buffer answer) old new → MayRiseBy (changes_in (asked line before) buffer answer) old new
changes_as old new line was before buffer answer is may = subst (λ (l : Parsed). MayRiseBy (changes_in (asked l before) buffer answer) old new) (sym is) may

-- no more for a reply than for none
pub with_most : (it : Line) (reply : Reply) → changes_with it reply ≤ changes_for it
with_most (Create name count) reply = omega arith
with_most (Read name block) reply = omega arith
with_most (Write name block content) reply = omega arith
with_most (Trim name block) reply = omega arith
with_most (Destroy name) (Destroyed number) = omega arith
with_most (Destroy name) Created = omega arith
with_most (Destroy name) Exists = omega arith
with_most (Destroy name) NoRoom = omega arith
with_most (Destroy name) Unknown = omega arith
with_most (Destroy name) (Content bytes) = omega arith
with_most (Destroy name) Done = omega arith
with_most (Destroy name) Range = omega arith
with_most (Destroy name) Full = omega arith
with_most (Destroy name) Uncommitted = omega arith
with_most (Destroy name) (Committed number) = omega arith
with_most (Destroy name) Bad = omega arith
with_most Commit (Committed number) = omega arith
with_most Commit Created = omega arith
with_most Commit Exists = omega arith
with_most Commit NoRoom = omega arith
with_most Commit Unknown = omega arith
with_most Commit (Content bytes) = omega arith
with_most Commit Done = omega arith
with_most Commit Range = omega arith
with_most Commit Full = omega arith
with_most Commit Uncommitted = omega arith
with_most Commit (Destroyed number) = omega arith
with_most Commit Bad = omega arith
