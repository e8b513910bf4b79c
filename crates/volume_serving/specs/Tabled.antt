-- Which replies lines have over the table in memory, what a line found, left and kept with the sessions that it began and ended with, how many pages it read, and at which line the device may stop a run, on any pages.
use Rattle.std.specs.Prelude.{◌≡◌, ◌≤◌, ◌+◌, ◌⊎◌, ℕ, List, [], ◌∷◌, Option, Some, Ok, Err, OnOk, length}
use Rattle.platform.specs.History.{Extends, History, image_at, moment}
use Rattle.device_course.specs.States.{Outside}
use Rattle.device_session.specs.Open.{blocks_of, needed_by}
use Rattle.device_session.specs.Sessions.{Session}
use Rattle.line_run.specs.Stops.{Ending}
use Rattle.line_run.specs.declared.stop.Stop.TheVariants as stops
use Rattle.session_calls.specs.Damage.{IsMounted}
use Rattle.session_calls.specs.declared.stops.DeviceStop.{DeviceStop}
use Rattle.volume_table.specs.declared.volume.Volume.{Volume}
use Rattle.volume_lines.specs.Grammar.{IsBad, Spells}
use Rattle.volume_lines.specs.Lines.{Line}
use Rattle.volume_lines.specs.Replies.{Reply, Bad}
use Rattle.volume_desk.specs.Causes.{Sizes, StopsAny, TurnsTable, sizes}
use Rattle.volume_desk.specs.Done.{Across, DoesAny, WasOver}
use Rattle.volume_desk.specs.Reads.{reads_for, reads_with}

-- of the line behind those that have replies
abbrev pub IfNext : List Reply → List (List ℕ) → (List ℕ → Type 0) → Type 0
IfNext [] (line ∷ lines) Claim = Claim line
IfNext [] [] Claim = ⊥
IfNext (reply ∷ replies) (line ∷ lines) Claim = IfNext replies lines Claim
IfNext (reply ∷ replies) [] Claim = ⊥

-- where the device stopped the run, this is so of the stop and of what the line in hand asks for
abbrev pub IfStopped : (DeviceStop → Line → Type 0) → List (List ℕ) → List Reply → Ending → Type 0
IfStopped Claim lines replies (Err (stops.Device stop)) = IfNext replies lines (λ text. (it : Line) × Spells text it × Claim stop it)
IfStopped Claim lines replies (Ok done) = Unit {0}
IfStopped Claim lines replies (Err stops.Source) = Unit {0}
IfStopped Claim lines replies (Err stops.Limit) = Unit {0}
IfStopped Claim lines replies (Err stops.Sink) = Unit {0}

-- where a run is between two lines: the moment, the session, the table in memory, and how often a page was read or the cell looked at until then
pub record Pause : Type 0 where
  pub at : ℕ
  pub session : Session
  pub table : List Volume
  pub reads : ℕ

abbrev pub pause : ℕ → Session → List Volume → ℕ → Pause
pause at session table reads = record { at = at; session = session; table = table; reads = reads }

-- there, with this session and this table, where these moments have come and so much was read
abbrev pub paused : Outside → Session → List Volume → Pause
paused here session table = pause (moment here.history) session table here.reads

-- a line with this reply led from the one to the other: no earlier, and to a session that is on the root record in the cell then, of as many blocks; and it read so many pages at most
pub record LedTo (history : History) (here : Pause) (it : Line) (reply : Reply) (next : Pause) : Type 0 where
  pub later : here.at ≤ next.at
  pub within : next.at ≤ moment history
  pub mounted : IsMounted (image_at history next.at) next.session
  pub blocks : blocks_of next.session ≡ blocks_of here.session
  pub reads : next.reads ≤ here.reads + reads_with here.table it reply

-- what a line did, by its reply, where it began and ended: what it found was so of the session that it began with, at the moment at which it began, and what it left, and kept, is so of that and of the session and
-- the moment that it ended with. What a destroy had left before its commit was so at a moment between the two. Where pages lacked for it, they lacked there
abbrev pub Did : Type 0 → ℕ → ℕ → History → Pause → Line → Reply → Pause → Type 0
Did tells blocks capacity history here it reply next = tells → LedTo history here it reply next
    × TurnsTable (sizes blocks (length (image_at history next.at).recorded) capacity) (needed_by here.session) (needed_by next.session) here.table it reply next.table
    × DoesAny (Across (image_at history here.at) here.session (image_at history next.at) next.session) (λ Claim. WasOver here.at next.at history (Claim (image_at history here.at) here.session)) here.table reply it next.table

-- a reply to a line that began here, and where it ended, of which this is so; a line outside the grammar ends where it began
abbrev pub IsTurnOn : Sizes → (Pause → Line → Reply → Pause → Type 0) → Pause → List ℕ → Reply → Pause → Type 0
IsTurnOn within DidSo here line reply next = ((it : Line) × Spells line it × TurnsTable within (needed_by here.session) (needed_by next.session) here.table it reply next.table × DidSo here it reply next) ⊎ (IsBad line × (reply ≡ Bad) × (next ≡ here))

-- these replies belong to the first of these lines, in their order, and each line began where the one before it ended: with its session, at its moment, over its table
abbrev pub AreTurnsOn : Sizes → (Pause → Line → Reply → Pause → Type 0) → Pause → List (List ℕ) → List Reply → Pause → Type 0
AreTurnsOn within DidSo here lines [] last = last ≡ here
AreTurnsOn within DidSo here [] (reply ∷ replies) last = ⊥
AreTurnsOn within DidSo here (line ∷ lines) (reply ∷ replies) last = (next : Pause) × IsTurnOn within DidSo here line reply next × AreTurnsOn within DidSo next lines replies last

-- where lines ended is where the run is now: it goes on with this session and this table
abbrev pub IsNow : Outside → Option Session → List Volume → Pause → Type 0
IsNow now after table last = (session : Session) × (after ≡ Some session) × (last ≡ paused now session table)

-- no more is read than was where these lines had their replies; or the line in hand, which has none, read so many pages at most
abbrev pub ReadsOn : ℕ → Pause → List (List ℕ) → List Reply → Type 0
ReadsOn reads last lines replies = (reads ≤ last.reads) ⊎ IfNext replies lines (λ line. (it : Line) × Spells line it × (reads ≤ last.reads + reads_for last.table it))

-- over a device of so many blocks, from here on, each reply is one that its line may have over the table behind those before it; where pages lacked, they lack at the end too; what a line found,
-- left and kept is so of where it began and ended, and it read no more than it may; and the line at which the device stopped the run is one that is not refused, and that may stop so
pub record OnTables (tells : Type 0) (blocks : ℕ) (start : Pause) (after : Option Session) (table_now : List Volume) (old new : Outside) (lines : List (List ℕ)) (replies : List Reply) (ending : Ending) : Type 0 where
  pub last : Pause
  pub extends : tells → Extends old.history new.history
  pub turns : AreTurnsOn (sizes blocks new.head new.capacity) (Did tells blocks new.capacity new.history) start lines replies last
  pub going : OnOk ending (IsNow new after table_now last)
  pub reads : tells → ReadsOn new.reads last lines replies
  pub stopped : IfStopped (λ stop it. StopsAny tells new.history.present last.session blocks last.table it stop) lines replies ending
