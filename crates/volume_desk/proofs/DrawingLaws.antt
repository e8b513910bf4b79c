-- Which keys a line draws, by its calls.
use Rattle.std.proofs.Common.{◌≡◌, ◌≤◌, ◌+◌, ℕ, List, [], ◌∷◌, Option, None, Some, Result, Ok, Err, length, refl, ap, sym, subst, arith}
use Rattle.std.specs.Prelude.{IfOk, OnOk}
use Rattle.sdbt_base.specs.Told.{Drew}
use Rattle.page_store.proofs.KeepingLaws.{drew_none, drew_then}
use Rattle.sdbt_base.specs.declared.tapes.Tape.{Ghosts as TapeGhosts}
use Rattle.platform.specs.declared.platforms.Platform.{Ghosts as PlatformGhosts}
use Rattle.device_session.specs.Sessions.{Session}
use Rattle.device_session.specs.declared.refusals.CommitReply.{CommitReply}
use Rattle.device_session.specs.declared.refusals.CommitReply.TheVariants as commits
use Rattle.session_calls.specs.Commits.{AnswersReply, DrewForPages}
use Rattle.session_calls.specs.declared.stops.DeviceStop.{DeviceStop}
use Rattle.volume_table.specs.declared.volume.Volume.{Volume}
use Rattle.volume_lines.specs.Lines.{Line, Read, Write, Trim, Destroy, Commit, asked}
use Rattle.volume_lines.specs.declared.lines.Line.{Line as Parsed}
use Rattle.volume_lines.specs.Replies.{said}
use Rattle.volume_lines.specs.declared.replies.Reply.{Reply as Given}
use Rattle.volume_lines.specs.declared.replies.Reply.TheVariants as given
use Rattle.volume_desk.specs.Causes.{Draws}
use Rattle.volume_desk.specs.Reads.{reads_in}
use Rattle.volume_desk.specs.Drawing.{DrewFor, DrewOne, Seals, Spends, Tally, TakesDrew, tally}
use Rattle.volume_desk.specs.Turns.{NoBlock, commit_reply, destroy_reply}

-- ---- no key

pub seals_none : (drawn : Option (List (List ℕ))) (pages pages_now : ℕ) → pages_now ≡ pages → Seals (tally drawn pages) [] (tally drawn pages_now)
seals_none drawn pages pages_now same = record { drew = drew_none drawn drawn refl; adds = omega (arith, same) }

-- a write that is refused for its name or its number
pub refused_drew : (from : Tally) (table : List Volume) (name : List ℕ) (block : ℕ) (content buffer : List ℕ) (reply : Given) → NoBlock table name block reply → DrewFor from (Write name block content) (said reply buffer) from
refused_drew from table name block content buffer given.Unknown none = ([], refl, seals_none from.drawn from.pages from.pages refl)
refused_drew from table name block content buffer given.Range none = ([], refl, seals_none from.drawn from.pages from.pages refl)
refused_drew from table name block content buffer given.Created none = absurd none
refused_drew from table name block content buffer given.Exists none = absurd none
refused_drew from table name block content buffer given.NoRoom none = absurd none
refused_drew from table name block content buffer (given.Content count) none = absurd none
refused_drew from table name block content buffer given.Done none = absurd none
refused_drew from table name block content buffer given.Full none = absurd none
refused_drew from table name block content buffer (given.Destroyed number) none = absurd none
refused_drew from table name block content buffer given.Uncommitted none = absurd none
refused_drew from table name block content buffer (given.Committed number) none = absurd none
refused_drew from table name block content buffer given.Bad none = absurd none

-- a line that leaves the tape and adds no page, whatever its answer
pub read_spends : {T : Type 0} (tells : Type 0) (tape : T) (drawn : Option (List (List ℕ))) (pages pages_now reads reads_now : ℕ) (table : List Volume) (name : List ℕ) (block : ℕ) (buffer : List ℕ) (answer : Result Given DeviceStop) → pages_now ≡ pages
    → (tells → reads_now ≤ reads + reads_in table (Read name block) buffer answer) → Spends tells tape tape (tally drawn pages) (tally drawn pages_now) reads reads_now table (Read name block) buffer answer
read_spends tells tape drawn pages pages_now reads reads_now table name block buffer (Ok reply) same read = record { undrawn = λ none. refl; unadded = λ none. same; drew = ([], refl, seals_none drawn pages pages_now same); read = read }
read_spends tells tape drawn pages pages_now reads reads_now table name block buffer (Err stop) same read = record { undrawn = λ none. refl; unadded = λ none. same; drew = tt; read = read }

pub trim_spends : {T : Type 0} (tells : Type 0) (tape : T) (drawn : Option (List (List ℕ))) (pages pages_now reads reads_now : ℕ) (table : List Volume) (name : List ℕ) (block : ℕ) (buffer : List ℕ) (answer : Result Given DeviceStop) → pages_now ≡ pages
    → (tells → reads_now ≤ reads + reads_in table (Trim name block) buffer answer) → Spends tells tape tape (tally drawn pages) (tally drawn pages_now) reads reads_now table (Trim name block) buffer answer
trim_spends tells tape drawn pages pages_now reads reads_now table name block buffer (Ok reply) same read = record { undrawn = λ none. refl; unadded = λ none. same; drew = ([], refl, seals_none drawn pages pages_now same); read = read }
trim_spends tells tape drawn pages pages_now reads reads_now table name block buffer (Err stop) same read = record { undrawn = λ none. refl; unadded = λ none. same; drew = tt; read = read }

-- ---- one key

pub seals_one : (drawn drawn_now : Option (List (List ℕ))) (pages pages_now : ℕ) (key : List ℕ) → Drew drawn key drawn_now → pages_now ≡ pages + 1 → Seals (tally drawn pages) (key ∷ []) (tally drawn_now pages_now)
seals_one drawn drawn_now pages pages_now key drew adds = record { drew = drew; adds = omega (arith, adds) }

-- and then nothing that draws
pub one_then : {X E : Type 0} (drawn drawn_now : Option (List (List ℕ))) (pages pages_now : ℕ) (key : List ℕ) (result : Result X E) → Drew drawn key drawn_now → pages_now ≡ pages + 1 → OnOk result (DrewOne (tally drawn pages) (tally drawn_now pages_now))
one_then drawn drawn_now pages pages_now key (Ok x) drew adds = (key, seals_one drawn drawn_now pages pages_now key drew adds)
one_then drawn drawn_now pages pages_now key (Err e) drew adds = tt

-- ---- commits

-- one for which pages lack leaves the pages
pub short_head : {S R W : Type 0} (P : PlatformGhosts S) (platform platform_now : S) (tape tape_now : R) (ledger ledger_now : W) (session now : Session) (reply : CommitReply) → AnswersReply P platform platform_now tape tape_now ledger ledger_now session now reply
    → (needed free : ℕ) → reply ≡ commits.Full needed free → P.head platform_now ≡ P.head platform
short_head P platform platform_now tape tape_now ledger ledger_now session now (commits.Committed number) answers needed free is = absurd cc
short_head P platform platform_now tape tape_now ledger ledger_now session now (commits.Full some left) answers needed free is = ap P.head answers.same.1

-- one that was answered
pub commit_drew : {S R : Type 0} (P : PlatformGhosts S) (T : TapeGhosts R) (platform platform_now : S) (tape tape_now : R) (reply : CommitReply) (answer : Given) (buffer : List ℕ) → answer ≡ commit_reply reply
    → DrewForPages P T platform platform_now tape tape_now → ((needed free : ℕ) → reply ≡ commits.Full needed free → P.head platform_now ≡ P.head platform)
    → DrewFor (tally (T.drawn tape) (P.head platform)) Commit (said answer buffer) (tally (T.drawn tape_now) (P.head platform_now))
commit_drew P T platform platform_now tape tape_now (commits.Committed number) answer buffer is (keys, adds, drew) same =
    subst (λ (a : Given). DrewFor (tally (T.drawn tape) (P.head platform)) Commit (said a buffer) (tally (T.drawn tape_now) (P.head platform_now))) (sym is) (keys, tt, record { drew = drew; adds = adds })
commit_drew P T platform platform_now tape tape_now (commits.Full needed free) answer buffer is (keys, adds, drew) same =
    let none : length keys ≡ 0 = omega (arith, adds, same needed free refl) in
    subst (λ (a : Given). DrewFor (tally (T.drawn tape) (P.head platform)) Commit (said a buffer) (tally (T.drawn tape_now) (P.head platform_now))) (sym is) (keys, none, record { drew = drew; adds = adds })

-- the same behind a table that was written
pub destroy_drew : {S R : Type 0} (P : PlatformGhosts S) (T : TapeGhosts R) (first platform platform_now : S) (start tape tape_now : R) (name : List ℕ) (reply : CommitReply) (answer : Given) (buffer : List ℕ) → answer ≡ destroy_reply reply
    → DrewOne (tally (T.drawn start) (P.head first)) (tally (T.drawn tape) (P.head platform)) → DrewForPages P T platform platform_now tape tape_now → ((needed free : ℕ) → reply ≡ commits.Full needed free → P.head platform_now ≡ P.head platform)
    → DrewFor (tally (T.drawn start) (P.head first)) (Destroy name) (said answer buffer) (tally (T.drawn tape_now) (P.head platform_now))
destroy_drew P T first platform platform_now start tape tape_now name (commits.Committed number) answer buffer is (key, one) (keys, adds, drew) same =
    let all = drew_then (T.drawn start) (T.drawn tape) (T.drawn tape_now) (key ∷ []) keys one.drew drew in
    subst (λ (a : Given). DrewFor (tally (T.drawn start) (P.head first)) (Destroy name) (said a buffer) (tally (T.drawn tape_now) (P.head platform_now))) (sym is)
    (key ∷ keys, omega arith, record { drew = all; adds = omega (arith, adds, one.adds) })
destroy_drew P T first platform platform_now start tape tape_now name (commits.Full needed free) answer buffer is (key, one) (keys, adds, drew) same =
    let none : length keys ≡ 0 = omega (arith, adds, same needed free refl) in
    let all = drew_then (T.drawn start) (T.drawn tape) (T.drawn tape_now) (key ∷ []) keys one.drew drew in
    subst (λ (a : Given). DrewFor (tally (T.drawn start) (P.head first)) (Destroy name) (said a buffer) (tally (T.drawn tape_now) (P.head platform_now))) (sym is)
    (key ∷ keys, omega (arith, none), record { drew = all; adds = omega (arith, adds, one.adds) })

-- ---- a volume that is taken out, or isn't
pub takes_some_drew : (from now : Tally) (name buffer : List ℕ) (refused : Option Given) (reply : Given) → refused ≡ Some reply → TakesDrew from now name buffer refused → DrewFor from (Destroy name) (said reply buffer) now
takes_some_drew from now name buffer refused reply is takes = subst (λ (r : Option Given). TakesDrew from now name buffer r) is takes

pub takes_none_drew : (from now : Tally) (name buffer : List ℕ) (refused : Option Given) → refused ≡ None → TakesDrew from now name buffer refused → DrewOne from now
takes_none_drew from now name buffer refused is takes = subst (λ (r : Option Given). TakesDrew from now name buffer r) is takes

-- ---- a line that draws
pub spends_some : {T : Type 0} (tells : Type 0) (tape tape_now : T) (from now : Tally) (reads reads_now : ℕ) (table : List Volume) (it : Line) (buffer : List ℕ) (answer : Result Given DeviceStop) → Draws it → IfOk answer (λ reply. DrewFor from it (said reply buffer) now)
    → (tells → reads_now ≤ reads + reads_in table it buffer answer) → Spends tells tape tape_now from now reads reads_now table it buffer answer
spends_some tells tape tape_now from now reads reads_now table it buffer answer draws drew read = record { undrawn = λ none. absurd (none draws); unadded = λ none. absurd (none draws); drew = drew; read = read }

-- ---- a line that is this one spends as this one
pub spends_as : {T : Type 0} (tells : Type 0) (tape tape_now : T) (from now : Tally) (reads reads_now : ℕ) (table : List Volume) (line was : Parsed) (before buffer : List ℕ) (answer : Result Given DeviceStop) → line ≡ was
    → Spends tells tape tape_now from now reads reads_now table (asked was before) buffer answer → Spends tells tape tape_now from now reads reads_now table (asked line before) buffer answer
spends_as tells tape tape_now from now reads reads_now table line was before buffer answer is spends = subst (λ (l : Parsed). Spends tells tape tape_now from now reads reads_now table (asked l before) buffer answer) (sym is) spends
