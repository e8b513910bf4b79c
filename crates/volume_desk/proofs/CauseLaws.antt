-- Why a line is answered so, by its calls: what stopped a call for a block may stop the line that made the call; and which table there is behind a reply.
use Rattle.std.proofs.Common.{◌≡◌, ◌⊎◌, ℕ, List, Option, None, Some, Result, Ok, Err, inl, inr, refl, ap, subst, sym}
use Rattle.std.specs.Prelude.{IfErr}
use Rattle.platform.specs.Image.{Image}
use Rattle.platform.specs.History.{History}
use Rattle.device_session.specs.Damage.{IsAtLimit}
use Rattle.device_session.specs.Sessions.{Session}
use Rattle.device_session.specs.declared.refusals.CommitReply.{CommitReply}
use Rattle.device_session.specs.declared.refusals.CommitReply.TheVariants as commits
use Rattle.session_calls.specs.Blame.{IsOfCall}
use Rattle.session_calls.specs.Commits.{LeavesLedger}
use Rattle.session_calls.specs.Damage.{IsMiscountedAt, IsMounted, IsWrongNode, IsWrongPage, MeetsDamage, ReadsAny, TrimsAny, WritesAny}
use Rattle.session_calls.specs.declared.stops.DeviceStop.{DeviceStop}
use Rattle.session_calls.specs.declared.stops.DeviceStop.TheVariants as stops
use Rattle.session_calls.proofs.NodeLaws.{node_or, wrong_page}
use Rattle.volume_table.specs.declared.volume.Volume.{Volume}
use Rattle.volume_lines.specs.Lines.{Line, Create, Read, Write, Trim, Destroy, Commit, asked}
use Rattle.volume_lines.specs.declared.lines.Line.{Line as Parsed}
use Rattle.volume_lines.specs.Replies as told
use Rattle.volume_lines.specs.Replies.{Reply, said}
use Rattle.volume_lines.specs.declared.replies.Reply.{Reply as Given}
use Rattle.volume_lines.specs.declared.replies.Reply.TheVariants as given
use Rattle.volume_desk.specs.Causes.{AnswersAlong, AnswersOver, Changes, Commits, Draws, HasBlock, IsAccepted, IsBounded, IsShortOf, IsStepAt, LacksBlock, MayStop, MeetsNode, MeetsRecord, Sizes, StopsAny, TakesOver, TurnsTable}
use Rattle.volume_desk.specs.Done.{IsCleared}
use Rattle.volume_desk.specs.Turns.{IsBlockAt, NoBlock, commit_reply, destroy_reply}

-- ---- stops

-- less is said of what is met at the bounds of the count
step_where : {Was Bound : Type 0} (image : Image) (addr : ℕ) → (Was → Bound) → IsWrongNode image addr ⊎ (IsMiscountedAt image addr × Was) → IsStepAt Bound image addr
step_where image addr less (inl node) = inl node
step_where image addr less (inr counted) = inr (counted.0, less counted.1)

pub read_may : (Known : Type 0) (image after : Image) (session : Session) (at : ℕ) (bytes name : List ℕ) (block : ℕ) (stop : DeviceStop) (table : List Volume) → ReadsAny Known image after session at bytes (Err stop)
    → MayStop Known after session table (Read name block) stop
read_may Known image after session at bytes name block stops.Platform table any = tt
read_may Known image after session at bytes name block stops.Memory table any = absurd any
read_may Known image after session at bytes name block stops.Tape table any = absurd any
read_may Known image after session at bytes name block stops.Ledger table any = absurd any
read_may Known image after session at bytes name block stops.BadRoot table any = absurd any
read_may Known image after session at bytes name block (stops.BadRecord addr) table any = any

pub trim_may : (Known : Type 0) (image after : Image) (session : Session) (at : ℕ) (name : List ℕ) (block : ℕ) (stop : DeviceStop) (table : List Volume) → TrimsAny Known image after session at (Err stop)
    → MayStop Known after session table (Trim name block) stop
trim_may Known image after session at name block stops.Platform table any = tt
trim_may Known image after session at name block stops.Memory table any = tt
trim_may Known image after session at name block stops.Tape table any = absurd any
trim_may Known image after session at name block stops.Ledger table any = absurd any
trim_may Known image after session at name block stops.BadRoot table any = absurd any
trim_may Known image after session at name block (stops.BadRecord addr) table any = λ known. step_where after addr (λ un. un.1) (any known)

pub write_may : (Known : Type 0) (image after : Image) (session : Session) (at : ℕ) (name : List ℕ) (block : ℕ) (content : List ℕ) (stop : DeviceStop) (table : List Volume) → WritesAny Known image after session at (Err stop)
    → MayStop Known after session table (Write name block content) stop
write_may Known image after session at name block content stops.Platform table any = tt
write_may Known image after session at name block content stops.Memory table any = tt
write_may Known image after session at name block content stops.Tape table any = tt
write_may Known image after session at name block content stops.Ledger table any = absurd any
write_may Known image after session at name block content stops.BadRoot table any = absurd any
write_may Known image after session at name block content (stops.BadRecord addr) table any = λ known. step_where after addr (λ past. past.1) (any known)

-- what an update of a block names
pub write_names : (Known : Type 0) (image after : Image) (session : Session) (at : ℕ) (stop : DeviceStop) → WritesAny Known image after session at (Err stop) → Known → MeetsNode (IsAtLimit session) after stop
write_names Known image after session at stops.Platform any known = tt
write_names Known image after session at stops.Memory any known = tt
write_names Known image after session at stops.Tape any known = tt
write_names Known image after session at stops.Ledger any known = tt
write_names Known image after session at stops.BadRoot any known = tt
write_names Known image after session at (stops.BadRecord addr) any known = step_where after addr (λ past. past.1) (any known)

pub trim_names : (Known : Type 0) (image after : Image) (session : Session) (at : ℕ) (stop : DeviceStop) → TrimsAny Known image after session at (Err stop) → Known → MeetsNode (session.mapped ≡ 0) after stop
trim_names Known image after session at stops.Platform any known = tt
trim_names Known image after session at stops.Memory any known = tt
trim_names Known image after session at stops.Tape any known = tt
trim_names Known image after session at stops.Ledger any known = tt
trim_names Known image after session at stops.BadRoot any known = tt
trim_names Known image after session at (stops.BadRecord addr) any known = step_where after addr (λ un. un.1) (any known)

-- where it says less
pub names_where : (Was Bound : Type 0) (image : Image) (stop : DeviceStop) → (Was → Bound) → MeetsNode Was image stop → MeetsNode Bound image stop
names_where Was Bound image stops.Platform less met = tt
names_where Was Bound image stops.Memory less met = tt
names_where Was Bound image stops.Tape less met = tt
names_where Was Bound image stops.Ledger less met = tt
names_where Was Bound image stops.BadRoot less met = tt
names_where Was Bound image (stops.BadRecord addr) less met = step_where image addr less met

pub names_all : {X : Type 0} (Was Bound : Type 0) (image : Image) (result : Result X DeviceStop) → (Was → Bound) → IfErr result (MeetsNode Was image) → IfErr result (MeetsNode Bound image)
names_all Was Bound image (Ok done) less met = tt
names_all Was Bound image (Err stop) less met = names_where Was Bound image stop less met

-- a line that may stop at whatever an update of a block comes to
pub call_may : (Known : Type 0) (image : Image) (session : Session) (table : List Volume) (it : Line) (stop : DeviceStop) → Draws it → Changes it → ((addr : ℕ) → (Known → IsStepAt (IsBounded session table it) image addr) → MeetsRecord Known image session table it addr) → IsOfCall stop
    → (Known → MeetsNode (IsBounded session table it) image stop) → MayStop Known image session table it stop
call_may Known image session table it stops.Platform draws changes meets of_call met = tt
call_may Known image session table it stops.Tape draws changes meets of_call met = draws
call_may Known image session table it stops.Memory draws changes meets of_call met = changes
call_may Known image session table it (stops.BadRecord addr) draws changes meets of_call met = meets addr met
call_may Known image session table it stops.Ledger draws changes meets of_call met = absurd of_call
call_may Known image session table it stops.BadRoot draws changes meets of_call met = absurd of_call

-- and one that commits
pub commit_may : {W : Type 0} (Known : Type 0) (image : Image) (it : Line) (session : Session) (table : List Volume) (ledger ledger_now : W) (stop : DeviceStop) → Draws it → Changes it → Commits it → LeavesLedger ledger ledger_now stop → MayStop Known image session table it stop
commit_may Known image it session table ledger ledger_now stops.Platform draws changes commits left = tt
commit_may Known image it session table ledger ledger_now stops.Tape draws changes commits left = draws
commit_may Known image it session table ledger ledger_now stops.Memory draws changes commits left = changes
commit_may Known image it session table ledger ledger_now stops.Ledger draws changes commits left = commits
commit_may Known image it session table ledger ledger_now stops.BadRoot draws changes commits left = absurd left
commit_may Known image it session table ledger ledger_now (stops.BadRecord addr) draws changes commits left = absurd left

-- where more is known
meets_known : (Known Other : Type 0) (image : Image) (session : Session) (table : List Volume) (it : Line) (addr : ℕ) → (Other → Known) → MeetsRecord Known image session table it addr → MeetsRecord Other image session table it addr
meets_known Known Other image session table (Create name count) addr known meets = λ other. meets (known other)
meets_known Known Other image session table (Read name block) addr known meets = λ other. meets (known other)
meets_known Known Other image session table (Write name block content) addr known meets = λ other. meets (known other)
meets_known Known Other image session table (Trim name block) addr known meets = λ other. meets (known other)
meets_known Known Other image session table (Destroy name) addr known meets = λ other. meets (known other)
meets_known Known Other image session table Commit addr known meets = absurd meets

may_known : (Known Other : Type 0) (image : Image) (session : Session) (table : List Volume) (it : Line) (stop : DeviceStop) → (Other → Known) → MayStop Known image session table it stop → MayStop Other image session table it stop
may_known Known Other image session table it stops.Platform known may = tt
may_known Known Other image session table it stops.Tape known may = may
may_known Known Other image session table it stops.Ledger known may = may
may_known Known Other image session table it stops.Memory known may = may
may_known Known Other image session table it stops.BadRoot known may = absurd may
may_known Known Other image session table it (stops.BadRecord addr) known may = meets_known Known Other image session table it addr known may

pub stops_known : (Known Other : Type 0) (image : Image) (session : Session) (blocks : ℕ) (table : List Volume) (it : Line) (stop : DeviceStop) → (Other → Known) → StopsAny Known image session blocks table it stop → StopsAny Other image session blocks table it stop
stops_known Known Other image session blocks table it stop known (may, accepted) = (may_known Known Other image session table it stop known may, accepted)

-- a record that doesn't fit is a wrong page
step_page : {Bound : Type 0} (image : Image) (addr : ℕ) → IsStepAt Bound image addr → IsWrongPage image addr
step_page image addr step = node_or image addr (wrong_page step)

record_is_wrong : (Known : Type 0) (image : Image) (session : Session) (table : List Volume) (it : Line) (addr : ℕ) → MeetsRecord Known image session table it addr → Known → IsWrongPage image addr
record_is_wrong Known image session table (Create name count) addr meets known = step_page image addr (meets known)
record_is_wrong Known image session table (Read name block) addr meets known = inl (meets known)
record_is_wrong Known image session table (Write name block content) addr meets known = step_page image addr (meets known)
record_is_wrong Known image session table (Trim name block) addr meets known = step_page image addr (meets known)
record_is_wrong Known image session table (Destroy name) addr meets known = step_page image addr (meets known)
record_is_wrong Known image session table Commit addr meets known = absurd meets

pub may_meets : (Known : Type 0) (image : Image) (session : Session) (table : List Volume) (it : Line) (stop : DeviceStop) → MayStop Known image session table it stop → Known → MeetsDamage image stop
may_meets Known image session table it stops.Platform may known = tt
may_meets Known image session table it stops.Tape may known = tt
may_meets Known image session table it stops.Ledger may known = tt
may_meets Known image session table it stops.Memory may known = tt
may_meets Known image session table it stops.BadRoot may known = absurd may
may_meets Known image session table it (stops.BadRecord addr) may known = record_is_wrong Known image session table it addr may known

-- ---- replies

-- there is no such block
no_block_said : (table : List Volume) (name : List ℕ) (block : ℕ) (reply : Given) (buffer : List ℕ) → NoBlock table name block reply → LacksBlock table name block (said reply buffer)
no_block_said table name block given.Unknown buffer lacks = lacks
no_block_said table name block given.Range buffer out = out
no_block_said table name block given.Created buffer none = absurd none
no_block_said table name block given.Exists buffer none = absurd none
no_block_said table name block given.NoRoom buffer none = absurd none
no_block_said table name block (given.Content count) buffer none = absurd none
no_block_said table name block given.Done buffer none = absurd none
no_block_said table name block given.Full buffer none = absurd none
no_block_said table name block (given.Destroyed number) buffer none = absurd none
no_block_said table name block given.Uncommitted buffer none = absurd none
no_block_said table name block (given.Committed number) buffer none = absurd none
no_block_said table name block given.Bad buffer none = absurd none

pub read_refused : (here : Sizes) (needed behind : ℕ) (table : List Volume) (name : List ℕ) (block : ℕ) (reply : Given) (buffer : List ℕ) → NoBlock table name block reply → TurnsTable here needed behind table (Read name block) (said reply buffer) table
read_refused here needed behind table name block reply buffer none = inl (no_block_said table name block reply buffer none, refl)

pub write_refused : (here : Sizes) (needed behind : ℕ) (table : List Volume) (name : List ℕ) (block : ℕ) (content : List ℕ) (reply : Given) (buffer : List ℕ) → NoBlock table name block reply
    → TurnsTable here needed behind table (Write name block content) (said reply buffer) table
write_refused here needed behind table name block content reply buffer none = inl (no_block_said table name block reply buffer none, refl)

pub trim_refused : (here : Sizes) (needed behind : ℕ) (table : List Volume) (name : List ℕ) (block : ℕ) (reply : Given) (buffer : List ℕ) → NoBlock table name block reply → TurnsTable here needed behind table (Trim name block) (said reply buffer) table
trim_refused here needed behind table name block reply buffer none = inl (no_block_said table name block reply buffer none, refl)

-- there is one
pub has_block : (table : List Volume) (name : List ℕ) (block at : ℕ) → IsBlockAt table name block at → HasBlock table name block
has_block table name block at is = (is.v, is.named, is.below)

pub read_done : (here : Sizes) (needed behind : ℕ) (table : List Volume) (name : List ℕ) (block at : ℕ) (reply : Reply) (bytes : List ℕ) → reply ≡ told.Content bytes → IsBlockAt table name block at → TurnsTable here needed behind table (Read name block) reply table
read_done here needed behind table name block at reply bytes same is =
    let done : TurnsTable here needed behind table (Read name block) (told.Content bytes) table = inr (table, (has_block table name block at is, refl), inl (tt, refl)) in
    subst (λ (r : Reply). TurnsTable here needed behind table (Read name block) r table) (sym same) done

-- ---- a commit, and a destroy
pub commit_turns : (here : Sizes) (needed behind : ℕ) (table : List Volume) (reply : CommitReply) (answer : Given) (buffer : List ℕ) → answer ≡ commit_reply reply → ((wanted free : ℕ) → reply ≡ commits.Full wanted free → IsShortOf here needed)
    → TurnsTable here needed behind table Commit (said answer buffer) table
commit_turns here needed behind table (commits.Committed number) answer buffer is short =
    let done : TurnsTable here needed behind table Commit (told.Committed number) table = inr (table, refl, inl (tt, refl)) in
    subst (λ (r : Reply). TurnsTable here needed behind table Commit r table) (sym (ap (λ (a : Given). said a buffer) is)) done
commit_turns here needed behind table (commits.Full wanted free) answer buffer is short =
    let full : TurnsTable here needed behind table Commit told.Full table = inr (table, refl, inr (short wanted free refl, refl, refl)) in
    subst (λ (r : Reply). TurnsTable here needed behind table Commit r table) (sym (ap (λ (a : Given). said a buffer) is)) full

pub destroy_turns : (here : Sizes) (needed behind : ℕ) (table left : List Volume) (name : List ℕ) (reply : CommitReply) (answer : Given) (buffer : List ℕ) → answer ≡ destroy_reply reply → IsAccepted here.blocks table (Destroy name) left
    → ((wanted free : ℕ) → reply ≡ commits.Full wanted free → IsShortOf here behind) → TurnsTable here needed behind table (Destroy name) (said answer buffer) left
destroy_turns here needed behind table left name (commits.Committed number) answer buffer is accepted short =
    let done : TurnsTable here needed behind table (Destroy name) (told.Destroyed number) left = inr (left, accepted, inl (tt, refl)) in
    subst (λ (r : Reply). TurnsTable here needed behind table (Destroy name) r left) (sym (ap (λ (a : Given). said a buffer) is)) done
destroy_turns here needed behind table left name (commits.Full wanted free) answer buffer is accepted short =
    let done : TurnsTable here needed behind table (Destroy name) told.Uncommitted left = inr (left, accepted, inl (short wanted free refl, refl)) in
    subst (λ (r : Reply). TurnsTable here needed behind table (Destroy name) r left) (sym (ap (λ (a : Given). said a buffer) is)) done

pub takes_some_any : (tells : Type 0) (before image : Image) (session now : Session) (here : Sizes) (table left : List Volume) (name buffer : List ℕ) (refused : Option Given) (reply : Given) → refused ≡ Some reply
    → TakesOver tells before image session now here table left name buffer (Ok refused) → AnswersOver tells before image session now here table left (Destroy name) buffer (Ok reply)
takes_some_any tells before image session now here table left name buffer refused reply is takes = subst (λ (r : Option Given). TakesOver tells before image session now here table left name buffer (Ok r)) is takes

pub takes_none_any : (tells : Type 0) (before image : Image) (session now : Session) (here : Sizes) (table left : List Volume) (name buffer : List ℕ) (refused : Option Given) → refused ≡ None
    → TakesOver tells before image session now here table left name buffer (Ok refused) → IsAccepted here.blocks table (Destroy name) left × (tells × IsMounted before session → IsCleared before session image now table name left)
takes_none_any tells before image session now here table left name buffer refused is takes = subst (λ (r : Option Given). TakesOver tells before image session now here table left name buffer (Ok r)) is takes

-- ---- a line that is this one is answered as this one

pub over_as : (tells : Type 0) (before image : Image) (session now : Session) (here : Sizes) (table left : List Volume) (line was : Parsed) (bytes buffer : List ℕ) (result : Result Given DeviceStop) → line ≡ was
    → AnswersOver tells before image session now here table left (asked was bytes) buffer result → AnswersOver tells before image session now here table left (asked line bytes) buffer result
over_as tells before image session now here table left line was bytes buffer result is any = subst (λ (l : Parsed). AnswersOver tells before image session now here table left (asked l bytes) buffer result) (sym is) any

pub along_as : (tells : Type 0) (old new : History) (session : Session) (after : Option Session) (here : Sizes) (table left : List Volume) (line was : Parsed) (bytes buffer : List ℕ) (result : Result Given DeviceStop) → line ≡ was
    → AnswersAlong tells old new session after here table left (asked was bytes) buffer result → AnswersAlong tells old new session after here table left (asked line bytes) buffer result
along_as tells old new session after here table left line was bytes buffer result is any = subst (λ (l : Parsed). AnswersAlong tells old new session after here table left (asked l bytes) buffer result) (sym is) any
