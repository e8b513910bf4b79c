-- How many pages a line reads at most, by its calls.
use Rattle.std.proofs.Common.{◌≡◌, ◌≤◌, ◌+◌, ◌*◌, ◌∙◌, ℕ, zero, suc, true, false, List, [], ◌∷◌, Option, None, Some, Result, Ok, ap, sym, subst, arith}
use Rattle.std.specs.Prelude.{bytes_eq, if◌then◌else◌, slice_get}
use Rattle.std.proofs.lemmas.Cmp.{nat_list_eq_equiv}
use Rattle.platform.specs.declared.platforms.Platform.{Ghosts as PlatformGhosts}
use Rattle.device_session.specs.Open.{IsOpen}
use Rattle.device_session.specs.Sessions.{Session}
use Rattle.device_session.specs.declared.refusals.CommitReply.{CommitReply}
use Rattle.device_session.specs.declared.refusals.CommitReply.TheVariants as commits
use Rattle.session_calls.specs.Along.{Along, Drawn}
use Rattle.session_calls.specs.Calling.{Calls}
use Rattle.session_calls.specs.Goes.{Goes}
use Rattle.session_calls.specs.declared.stops.DeviceStop.{DeviceStop}
use Rattle.session_calls.proofs.CallLaws.{along_more, calls_more, calls_of}
use Rattle.volume_table.specs.declared.volume.Volume.{Volume}
use Rattle.volume_lines.specs.Lines.{Line, Read, Destroy, asked}
use Rattle.volume_lines.specs.declared.lines.Line.{Line as Parsed}
use Rattle.volume_lines.specs.Replies as told
use Rattle.volume_lines.specs.Replies.{Reply}
use Rattle.volume_lines.specs.declared.replies.Reply.{Reply as Given}
use Rattle.volume_desk.specs.Reads.{count_of, reads_for, reads_in, reads_out, reads_with}
use Rattle.volume_desk.specs.Turns.{destroy_reply}

-- ---- one block

-- an update of one reads two pages for each level at most, and there are 20 at most
pub along_block : {S : Type 0} (P : PlatformGhosts S) (updates : ℕ) (platform platform_now : S) (drawn drawn_now : Drawn) (session now : Session) (head : ℕ) → IsOpen session head
    → Along P updates (2 * session.grove.level) platform platform_now drawn drawn_now session now → Along P updates 40 platform platform_now drawn drawn_now session now
along_block P updates platform platform_now drawn drawn_now session now head there_open along =
    along_more P updates updates (2 * session.grove.level) 40 platform platform_now drawn drawn_now session now (omega arith) (omega (arith, there_open.level)) along

pub calls_block : {S X : Type 0} (P : PlatformGhosts S) (updates : ℕ) (platform platform_now : S) (drawn drawn_now : Drawn) (session now : Session) (result : Result X DeviceStop) (head : ℕ) → IsOpen session head
    → Goes P updates (2 * session.grove.level) platform platform_now drawn drawn_now session now result → Calls P updates 40 platform platform_now drawn drawn_now session now result
calls_block P updates platform platform_now drawn drawn_now session now result head there_open goes =
    calls_more P updates updates (2 * session.grove.level) 40 platform platform_now drawn drawn_now session now result (omega arith) (omega (arith, there_open.level))
    (calls_of P updates (2 * session.grove.level) platform platform_now drawn drawn_now session now result goes)

-- a read reads one for each level, and the block's own
pub read_most : (table : List Volume) (name : List ℕ) (block : ℕ) (reply : Reply) (bytes : List ℕ) (level : ℕ) → reply ≡ told.Content bytes → level ≤ 20 → level + 1 ≤ reads_with table (Read name block) reply
read_most table name block reply bytes level is low =
    let most : level + 1 ≤ 21 = omega (arith, low) in subst (λ (r : Reply). level + 1 ≤ reads_with table (Read name block) r) (sym is) most

-- ---- the volume of a name

same_bytes : (a b : List ℕ) → a ≡ b → bytes_eq a b ≡ true
same_bytes a b same = subst (λ (bytes : List ℕ). bytes_eq a bytes ≡ true) same (nat_list_eq_equiv.refl a)

-- has no more blocks than are counted
pub counts_volume : (table : List Volume) (name : List ℕ) (at : ℕ) (v : Volume) → slice_get table at ≡ Some v → v.name ≡ name → v.count ≤ count_of table name
counts_volume [] name at v there same = let none : None ≡ Some v = there in cc
counts_volume (w ∷ table) name zero v there same =
    let one : Some w ≡ Some v = there in
    let is : w ≡ v = cc in
    let count : w.count ≡ v.count = ap (λ (x : Volume). x.count) is in
    let test : bytes_eq w.name name ≡ true = same_bytes w.name name (ap (λ (x : Volume). x.name) is ∙ same) in
    subst (λ b. v.count ≤ (if b then w.count + count_of table name else count_of table name)) (sym test) (omega (arith, count))
counts_volume (w ∷ table) name (suc at) v there same =
    let more : v.count ≤ count_of table name = counts_volume table name at v there same in
    elim (bytes_eq w.name name) as (λ b. v.count ≤ (if b then w.count + count_of table name else count_of table name)) [ true ↦ omega (arith, more) | false ↦ more ]

-- ---- a line

-- with its reply it reads no more than it may
pub with_reply : (table : List Volume) (it : Line) (reply : Reply) → reads_with table it reply ≤ reads_for table it
with_reply table it told.Exists = omega arith
with_reply table it told.NoRoom = omega arith
with_reply table it told.Unknown = omega arith
with_reply table it told.Range = omega arith
with_reply table it told.Full = omega arith
with_reply table it reply = omega arith

-- a destroy that took its volume out, whatever its commit answers
pub destroy_reads : (table : List Volume) (name : List ℕ) (reply : CommitReply) (answer : Given) (buffer : List ℕ) (reads reads_now : ℕ) → answer ≡ destroy_reply reply → reads_now ≤ reads + reads_for table (Destroy name)
    → reads_now ≤ reads + reads_in table (Destroy name) buffer (Ok answer)
destroy_reads table name (commits.Committed number) answer buffer reads reads_now is few = subst (λ (a : Given). reads_now ≤ reads + reads_in table (Destroy name) buffer (Ok a)) (sym is) few
destroy_reads table name (commits.Full needed free) answer buffer reads reads_now is few = subst (λ (a : Given). reads_now ≤ reads + reads_in table (Destroy name) buffer (Ok a)) (sym is) few

-- a volume that is taken out, or isn't
pub takes_some_reads : (table : List Volume) (name : List ℕ) (refused : Option Given) (reply : Given) (reads reads_now : ℕ) → refused ≡ Some reply → reads_now ≤ reads + reads_out table name (Ok refused) → reads_now ≤ reads
takes_some_reads table name refused reply reads reads_now is few =
    let none : reads_now ≤ reads + 0 = subst (λ (r : Option Given). reads_now ≤ reads + reads_out table name (Ok r)) is few in omega (arith, none)

pub takes_none_reads : (table : List Volume) (name : List ℕ) (refused : Option Given) (reads reads_now : ℕ) → refused ≡ None → reads_now ≤ reads + reads_out table name (Ok refused) → reads_now ≤ reads + reads_for table (Destroy name)
takes_none_reads table name refused reads reads_now is few = subst (λ (r : Option Given). reads_now ≤ reads + reads_out table name (Ok r)) is few

-- a line that is this one reads as this one
pub calls_as : {S : Type 0} (P : PlatformGhosts S) (updates : ℕ) (platform platform_now : S) (drawn drawn_now : Drawn) (session now : Session) (table : List Volume) (line was : Parsed) (before buffer : List ℕ) (result : Result Given DeviceStop) → line ≡ was
    → Calls P updates (reads_in table (asked was before) buffer result) platform platform_now drawn drawn_now session now result → Calls P updates (reads_in table (asked line before) buffer result) platform platform_now drawn drawn_now session now result
calls_as P updates platform platform_now drawn drawn_now session now table line was before buffer result is calls =
    subst (λ (l : Parsed). Calls P updates (reads_in table (asked l before) buffer result) platform platform_now drawn drawn_now session now result) (sym is) calls
