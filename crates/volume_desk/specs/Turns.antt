-- What a line makes of a session's array and its table, and of the device below them.
use Rattle.std.specs.Prelude.{◌≡◌, ◌≢◌, ◌≤◌, ◌<◌, ◌+◌, ◌-◌, ◌*◌, ◌⊎◌, ℕ, true, List, [], ◌∷◌, Option, None, Some, Result, Ok, Err, length}
use Rattle.sdbt_base.specs.Arrays.{Device, Session as OpenSession, mounted}
use Rattle.platform.specs.Image.{Image}
use Rattle.page_store.specs.Floors.{low_of}
use Rattle.page_store.specs.Stands.{Stands}
use Rattle.device_course.specs.Course.{MadeBetween}
use Rattle.device_course.specs.States.{Outside, IsAt}
use Rattle.device_session.specs.Open.{needed_by}
use Rattle.device_session.specs.Sessions.{Session}
use Rattle.device_session.specs.declared.refusals.CommitReply.{CommitReply}
use Rattle.device_session.specs.declared.refusals.CommitReply.TheVariants as commits
use Rattle.line_run.specs.Stops.{IsSound}
use Rattle.device_course.specs.Held.{Held, Needs, device_of, state_of}
use Rattle.device_course.specs.Leading.{last_of, marks_of}
use Rattle.session_calls.specs.declared.stops.DeviceStop.{DeviceStop}
use Rattle.session_calls.specs.declared.stops.DeviceStop.TheVariants as stops
use Rattle.volume_table.specs.Tables.{Lacks}
use Rattle.volume_table.specs.declared.volume.Volume.{Volume}
use Rattle.volume_lines.specs.Lines.{Line, Create, Read, Write, Trim, Destroy, Commit}
use Rattle.volume_lines.specs.declared.lines.Line.{Line as Parsed}
use Rattle.volume_lines.specs.declared.lines.Line.TheVariants as parsed
use Rattle.volume_lines.specs.Replies.{Reply, said}
use Rattle.volume_lines.specs.declared.replies.Reply.{Reply as Given}
use Rattle.volume_lines.specs.declared.replies.Reply.TheVariants as given
use Rattle.volume_terms.specs.Destroyed.{IfDestroyed}
use Rattle.volume_terms.specs.Turn.{Destroys, Serves}
use Rattle.volume_terms.specs.Volumes.{IsTabled, IsNamed, IsTaken, changed}
use Rattle.volume_desk.specs.declared.serving.Answered.{Answered}

-- the session, over an image of so many pages, and the table stand for this: the array is the session's, block 0 of it spells the table, and a commit of it needs 41 pages for each
-- update at most
pub record IsHeld (image : Image) (head : ℕ) (session : Session) (table : List Volume) (held : Held) : Type 0 where
  pub at : IsAt image (Some session) (state_of held)
  pub pages : held.pages ≡ head
  pub needs : needed_by session ≤ 41 * held.updates
  pub tabled : IsTabled held table

-- the root record is of all the pages that there are
abbrev pub IsOfAll : Image → Type 0
IsOfAll image = low_of image ≡ length image.recorded

-- behind a reply the image stands for the state's device; and where the reply says that a volume was destroyed, the root record is of all the pages that there are
pub record Shows (image : Image) (reply : Reply) (held : Held) : Type 0 where
  pub stands : Stands image (Some held.device)
  pub settled : IfDestroyed reply (IsOfAll image)

-- a reply to what was asked, from this state: it led to another, for which the session and the table stand now, and the device came to be the one of that state
pub record Served (old new : Outside) (table table_now : List Volume) (now : Session) (entry : Held) (it : Line) (reply : Reply) : Type 0 where
  pub next : Held
  pub held : IsHeld new.history.present new.head now table_now next
  pub serves : Serves old.capacity table entry it reply next
  pub made : MadeBetween old.history new.history entry.device (Some next.device ∷ []) next.device
  pub settled : IfDestroyed reply (IsOfAll new.history.present)

-- the same of calls that leave the device
pub record Changed (image : Image) (head : ℕ) (table_now : List Volume) (now : Session) (entry : Held) (Does : Reply → Held → Type 0) (reply : Reply) : Type 0 where
  pub next : Held
  pub held : IsHeld image head now table_now next
  pub does : Does reply next
  pub same : next.device ≡ entry.device

-- what was asked came to be nothing, or, where the platform failed in a commit, perhaps the state behind it
abbrev pub StopsAt : ℕ → List Volume → Held → Line → List Held → DeviceStop → Type 0
StopsAt capacity table entry it ahead stops.Platform = (ahead ≡ []) ⊎ ((reply : Reply) × (next : Held) × (ahead ≡ next ∷ []) × Serves capacity table entry it reply next)
StopsAt capacity table entry it ahead stops.Tape = ahead ≡ []
StopsAt capacity table entry it ahead stops.Ledger = ahead ≡ []
StopsAt capacity table entry it ahead stops.Memory = ahead ≡ []
StopsAt capacity table entry it ahead stops.BadRoot = ⊥
StopsAt capacity table entry it ahead (stops.BadRecord addr) = ⊥

-- pages are free for it: one where it writes a block, and be it the table's; and where it commits, those of the changes that there are
abbrev pub HasPages : ℕ → Held → Line → Type 0
HasPages capacity held (Create name count) = held.pages ≢ capacity
HasPages capacity held (Read name block) = Unit {0}
HasPages capacity held (Write name block content) = held.pages ≢ capacity
HasPages capacity held (Trim name block) = Unit {0}
HasPages capacity held (Destroy name) = held.pages ≢ capacity
HasPages capacity held Commit = (held.session.touched ≡ true) × (needed : ℕ) × Needs held needed × (needed ≤ capacity - held.pages)

-- a stop at what was asked, from this state: nothing that is said of pages refuses it
pub record Stopped (old new : Outside) (table : List Volume) (entry : Held) (it : Line) (stop : DeviceStop) : Type 0 where
  pub ahead : List Held
  pub is : StopsAt old.capacity table entry it ahead stop
  pub pages : HasPages old.capacity entry it
  pub made : MadeBetween old.history new.history entry.device (marks_of device_of ahead) (last_of entry ahead).device

-- the session with which a run goes on
abbrev pub goes_on : Result Answered DeviceStop → Option Session
goes_on (Ok done) = Some done.session
goes_on (Err stop) = None

-- what was asked is served from each state that the session and the table stand for
abbrev pub ServesAs : Outside → Outside → List Volume → List Volume → List ℕ → Held → Line → Result Answered DeviceStop → Type 0
ServesAs old new table table_now buffer entry it (Ok done) = Served old new table table_now done.session entry it (said done.reply buffer)
ServesAs old new table table_now buffer entry it (Err stop) = Stopped old new table entry it stop

-- what calls for blocks came to that have a reply; a stop came over no damage, and with this room
abbrev pub TurnsTo : Image → ℕ → List Volume → Session → Held → (Reply → Held → Type 0) → Type 0 → List ℕ → Result Given DeviceStop → Type 0
TurnsTo image head table_now now entry Does Room buffer (Ok reply) = Changed image head table_now now entry Does (said reply buffer)
TurnsTo image head table_now now entry Does Room buffer (Err stop) = IsSound stop × Room

-- a change of a session's array that was done; a stop came over no damage
abbrev pub ChangesTo : Image → Session → Device → OpenSession → Result (Unit {0}) DeviceStop → Type 0
ChangesTo image now device next (Ok done) = IsAt image (Some now) (mounted device next)
ChangesTo image now device next (Err stop) = IsSound stop

-- a block of a volume, and that of the device which it is
pub record IsBlockAt (table : List Volume) (name : List ℕ) (block at : ℕ) : Type 0 where
  pub v : Volume
  pub named : IsNamed table name v
  pub below : block < v.count
  pub is : at ≡ v.start + block

-- the reply where there is no such block
abbrev pub NoBlock : List Volume → List ℕ → ℕ → Given → Type 0
NoBlock table name block given.Unknown = Lacks table name
NoBlock table name block given.Range = (v : Volume) × IsNamed table name v × (v.count ≤ block)
NoBlock table name block _ = ⊥

-- what a commit is answered with, and a destroy
abbrev pub commit_reply : CommitReply → Given
commit_reply (commits.Committed number) = given.Committed number
commit_reply (commits.Full needed free) = given.Full

abbrev pub destroy_reply : CommitReply → Given
destroy_reply (commits.Committed number) = given.Destroyed number
destroy_reply (commits.Full needed free) = given.Uncommitted

-- a volume is taken out: the table without it is written, and all of its blocks are trimmed
pub record TakenOut (image : Image) (head capacity : ℕ) (table table_now : List Volume) (now : Session) (entry : Held) (name : List ℕ) : Type 0 where
  pub v : Volume
  pub same : v.name ≡ name
  pub taken : IsTaken table v table_now
  pub free : entry.pages ≢ capacity
  pub held : IsHeld image head now table_now (changed entry table_now v)

-- or there is a reply that it wasn't, or a stop over no damage, and with a page free
abbrev pub TakesOut : Image → ℕ → ℕ → List Volume → List Volume → Session → Held → List ℕ → List ℕ → Result (Option Given) DeviceStop → Type 0
TakesOut image head capacity table table_now now entry name buffer (Ok None) = TakenOut image head capacity table table_now now entry name
TakesOut image head capacity table table_now now entry name buffer (Ok (Some reply)) = Changed image head table_now now entry (λ told next. Destroys capacity table entry name told next) (said reply buffer)
TakesOut image head capacity table table_now now entry name buffer (Err stop) = IsSound stop × (entry.pages ≢ capacity)

-- a line that makes no commit
abbrev pub IsOfBlocks : Parsed → Type 0
IsOfBlocks parsed.Commit = ⊥
IsOfBlocks (parsed.Destroy name) = ⊥
IsOfBlocks _ = Unit {0}
