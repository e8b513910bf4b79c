-- What a run that handled some lines put, and which replies belong to them.
use Rattle.std.specs.Prelude.{◌≡◌, ◌≤◌, ◌⊎◌, ℕ, List, [], ◌∷◌, ◌++◌, Option, None, Some, Result, Ok, Err, length, flat_map}
use Rattle.sdbt_base.specs.Told.{Got}
use Rattle.platform.specs.History.{History, image_at, moment}
use Rattle.device_course.specs.States.{IsLater, Outside}
use Rattle.line_run.specs.Puts.{IsBehind, IsFirstPart, no_line}
use Rattle.line_run.specs.Stops.{Ending}
use Rattle.line_run.specs.declared.stop.Stop.{Stop}
use Rattle.line_run.specs.declared.stop.Stop.TheVariants as stops
use Rattle.device_session.specs.Sessions.{Session}
use Rattle.device_course.specs.Held.{Held, device_of}
use Rattle.device_course.specs.Leading.{Led, last_of}
use Rattle.session_calls.specs.declared.stops.DeviceStop.TheVariants as device
use Rattle.volume_lines.specs.Replies.{Reply, line_of}
use Rattle.volume_terms.specs.Turn.{Turn}
use Rattle.device_course.specs.Course.{MadeBetween}
use Rattle.volume_desk.specs.Turns.{HasPages, Shows}
use Rattle.volume_table.specs.declared.volume.Volume.{Volume}
use Rattle.volume_serving.specs.Drawing.{DrewUntil, tally_of}
use Rattle.volume_serving.specs.Syncing.{ChangesFew}
use Rattle.volume_serving.specs.Tabled.{IfNext, IfStopped, OnTables, paused}
use Rattle.volume_serving.specs.World.{World, IsOn}

-- how many replies there are: one for each line, but where the device or the output stopped the run
abbrev pub AreMany : ℕ → ℕ → Ending → Type 0
AreMany replies lines (Ok done) = replies ≡ lines
AreMany replies lines (Err stops.Source) = replies ≡ lines
AreMany replies lines (Err stops.Limit) = replies ≡ lines
AreMany replies lines (Err (stops.Device stop)) = replies ≤ lines
AreMany replies lines (Err stops.Sink) = replies ≤ lines

-- the state that one more reply leads to, whose line was put in part
abbrev pub IsCut : ℕ → Held → List (List ℕ) → List Reply → List ℕ → List Held → Type 0
IsCut capacity last lines replies part ahead =
    (reply : Reply) × (next : Held) × (ahead ≡ next ∷ []) × IsFirstPart (line_of reply) part × IfNext replies lines (λ line. Turn capacity last line reply next)

-- the state that the line in hand made, where the platform failed in its commit
abbrev pub IsMade : ℕ → Held → List (List ℕ) → List Reply → List Held → Type 0
IsMade capacity last lines replies ahead = (reply : Reply) × (next : Held) × (ahead ≡ next ∷ []) × IfNext replies lines (λ line. Turn capacity last line reply next)

-- where a run is that ends so, after the replies that led to this state: in it; or, at a stop, perhaps in the one that the line in hand led to
abbrev pub EndsOn : Outside → Option Session → List Volume → ℕ → Held → List (List ℕ) → List Reply → List ℕ → List Held → Ending → Type 0
EndsOn new after table capacity last lines replies part ahead (Ok done) = (ahead ≡ []) × IsOn new after table last
EndsOn new after table capacity last lines replies part ahead (Err stops.Source) = (ahead ≡ []) × IsOn new after table last
EndsOn new after table capacity last lines replies part ahead (Err stops.Limit) = (ahead ≡ []) × IsOn new after table last
EndsOn new after table capacity last lines replies part ahead (Err stops.Sink) = IsCut capacity last lines replies part ahead
EndsOn new after table capacity last lines replies part ahead (Err (stops.Device device.Platform)) = (ahead ≡ []) ⊎ IsMade capacity last lines replies ahead
EndsOn new after table capacity last lines replies part ahead (Err (stops.Device device.Tape)) = ahead ≡ []
EndsOn new after table capacity last lines replies part ahead (Err (stops.Device device.Ledger)) = ahead ≡ []
EndsOn new after table capacity last lines replies part ahead (Err (stops.Device device.Memory)) = ahead ≡ []
EndsOn new after table capacity last lines replies part ahead (Err (stops.Device device.BadRoot)) = ⊥
EndsOn new after table capacity last lines replies part ahead (Err (stops.Device (device.BadRecord addr))) = ⊥

-- behind each reply there is a moment, in their order and from this one on, at which the image stands for the device of the reply's state; and behind a volume that was destroyed the
-- root record is of all the pages that there are then
abbrev pub AreShown : History → ℕ → List Reply → List Held → Type 0
AreShown new from [] [] = Unit {0}
AreShown new from [] (state ∷ states) = ⊥
AreShown new from (reply ∷ replies) [] = ⊥
AreShown new from (reply ∷ replies) (state ∷ states) = (at : ℕ) × (from ≤ at) × (at ≤ moment new) × Shows (image_at new at) reply state × AreShown new at replies states

-- the replies are those of volumes, from this state on, the devices that they led through were made in their order, and each of them there was behind its reply. Where the device stopped the run, pages are free
-- for the line in hand
pub record OnLines (old new : Outside) (after : Option Session) (table : List Volume) (entry : Held) (lines : List (List ℕ)) (replies : List Reply) (part : List ℕ) (ending : Ending) : Type 0 where
  pub ahead : List Held
  pub led : Led (Turn old.capacity) device_of (MadeBetween old.history new.history) entry lines replies ahead
  pub ends : EndsOn new after table old.capacity (last_of entry led.states) lines replies part ahead ending
  pub pages : IfStopped (λ stop it. HasPages old.capacity (last_of entry led.states) it) lines replies ending
  pub shown : AreShown new.history (moment old.history) replies led.states

-- a run that handled these lines, over a device of so many blocks: what it put is the lines of its replies, and perhaps a part behind them; which keys they drew; and how often it synced for them
pub record Replied (tells : Type 0) (blocks : ℕ) (old new : World) (ending : Ending) (lines : List (List ℕ)) (put : List ℕ) : Type 0 where
  pub replies : List Reply
  pub part : List ℕ
  pub put_is : put ≡ flat_map line_of replies ++ part
  pub behind : IsBehind line_of no_line part ending
  pub many : AreMany (length replies) (length lines) ending
  pub tables : (held : Session) → old.session ≡ Some held → OnTables tells blocks (paused old.outside held old.table) new.session new.table old.outside new.outside lines replies ending
  pub drew : DrewUntil (tally_of old.outside) lines replies (tally_of new.outside)
  pub later : IsLater old.outside new.outside
  pub changes : tells → ChangesFew old.changes new.changes lines replies
  pub led : tells → (entry : Held) → IsOn old.outside old.session old.table entry → OnLines old.outside new.outside new.session new.table entry lines replies part ending

-- the same of what an output has got
pub record Handled (tells : Type 0) (blocks : ℕ) (old new : World) (ending : Ending) (lines : List (List ℕ)) (written written_now : Option (List ℕ)) : Type 0 where
  pub put : List ℕ
  pub got : Got written put written_now
  pub replied : Replied tells blocks old new ending lines put

-- how a part of a run ends that hands a session on, and the session with which the run goes on
abbrev pub ending_of : Result Session Stop → Ending
ending_of (Ok session) = Ok tt
ending_of (Err stop) = Err stop

abbrev pub goes_on : Result Session Stop → Option Session
goes_on (Ok session) = Some session
goes_on (Err stop) = None
