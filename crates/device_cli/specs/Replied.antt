-- What a run that handled some lines put, and which replies belong to them.
use Rattle.std.specs.Prelude.{◌≡◌, ◌⊎◌, ℕ, ◌≤◌, List, [], ◌∷◌, ◌++◌, Option, None, Result, Ok, Err, OnOk, IsOk, length, flat_map}
use Rattle.platform.specs.Image.{Image}
use Rattle.platform.specs.History.{During, Turns, moment}
use Rattle.sdbt_base.specs.Told.{Got}
use Rattle.script_lang.specs.Replies.{line_of, said, Reply}
use Rattle.script_lang.specs.declared.replies.Reply.{Reply as Given}
use Rattle.sdbt_base.specs.Arrays.{State, Device, closed}
use Rattle.script_lang.specs.Answers.{IsMark, IsAnswer, answer, none_counted}
use Rattle.script_lang.specs.Commands.{Command}
use Rattle.line_run.specs.Puts.{IsBehind, IsFirstPart}
use Rattle.line_run.specs.Stops.{Ending, IsSound}
use Rattle.device_session.specs.Sessions.{Session}
use Rattle.device_cli.specs.Causes.{Draws, PutsEntry, HasCalled, HasLacked, MeetsRecord, IsOf, SoOn, HasMet}
use Rattle.device_cli.specs.Drawing.{DrewUntil}
use Rattle.device_cli.specs.Looks.{LooksOn}
use Rattle.device_cli.specs.World.{World, is_full, AreEnough, IsLater}
use Rattle.device_course.specs.Marks.{Leaves, mark_at, last_mark}
use Rattle.device_course.specs.Course.{Made}
use Rattle.device_cli.specs.Represents.{Represents, Stood, StandsFor}
use Rattle.device_cli.specs.Pages.{updates_of, Standing, standing, AnswersOn, AreShort, IfNext}
use Rattle.device_cli.specs.Seen.{SeenOn}
use Rattle.device_cli.specs.Added.{IsNear}
use Rattle.line_run.specs.declared.stop.Stop.TheVariants as stops
use Rattle.session_calls.specs.declared.stops.DeviceStop.{DeviceStop}
use Rattle.session_calls.specs.declared.stops.DeviceStop.TheVariants as device

-- how many replies there are: one for each line, but where the device or the output stopped the run
abbrev pub AreMany : ℕ → ℕ → Ending → Type 0
AreMany replies lines (Ok done) = replies ≡ lines
AreMany replies lines (Err stops.Source) = replies ≡ lines
AreMany replies lines (Err stops.Limit) = replies ≡ lines
AreMany replies lines (Err (stops.Device stop)) = replies ≤ lines
AreMany replies lines (Err stops.Sink) = replies ≤ lines

-- the device stopped a run at the line behind those that have replies, as the line's command may; or before the first line, where the root record can't be served, or the platform failed at the look at
-- the cell, at which this holds
abbrev pub IsStopAt : Type 0 → Type 0 → World → List Reply → List (List ℕ) → DeviceStop → Type 0
IsStopAt tells Before now replies lines device.Platform = Before ⊎ IfNext replies lines (IsOf (HasCalled tells now.history.present))
IsStopAt tells Before now replies lines device.BadRoot = Unit {0}
IsStopAt tells Before now replies lines device.Tape = IfNext replies lines (IsOf Draws)
IsStopAt tells Before now replies lines device.Ledger = IfNext replies lines (IsOf PutsEntry)
IsStopAt tells Before now replies lines device.Memory = IfNext replies lines (IsOf (HasLacked tells now.history.present now.head now.capacity))
IsStopAt tells Before now replies lines (device.BadRecord addr) = IfNext replies lines (IsOf (HasMet tells now.history.present addr))

-- where it came to a record that doesn't fit, the line's command may do so with the session that the lines before it left
abbrev pub MeetsWith : Type 0 → World → Ending → List Reply → List (List ℕ) → Option Session → Type 0
MeetsWith tells now (Err (stops.Device (device.BadRecord addr))) replies lines last = IfNext replies lines (IsOf (λ command. MeetsRecord tells last now.history.present command addr))
MeetsWith tells now _ replies lines last = Unit {0}

abbrev pub IsEndingAt : Type 0 → Type 0 → World → List Reply → List (List ℕ) → Ending → Type 0
IsEndingAt tells Before now replies lines (Err (stops.Device stop)) = IsStopAt tells Before now replies lines stop
IsEndingAt tells Before now replies lines _ = Unit {0}

-- how a run over a device that stands ends, after the replies that led from `entry` to `now`: in that state, with as many
-- pages; by a fault alone; or, where the output failed, with a first part of one more reply's line, for the device after it
abbrev pub EndsIn : World → World → Standing → List (List ℕ) → List Reply → List ℕ → Standing → Ending → Type 0
EndsIn old new entry lines replies part now (Ok done) = Stood new now.state × (new.head ≡ now.pages)
EndsIn old new entry lines replies part now (Err stops.Source) = Stood new now.state × (new.head ≡ now.pages)
EndsIn old new entry lines replies part now (Err stops.Limit) = Stood new now.state × (new.head ≡ now.pages)
EndsIn old new entry lines replies part now (Err (stops.Device stop)) = IsSound stop
EndsIn old new entry lines replies part now (Err stops.Sink) =
    (reply : Reply) × (next : Standing) × AnswersOn old.capacity entry lines (replies ++ reply ∷ []) next
    × (next.pages ≡ new.head) × IsFirstPart (line_of reply) part × StandsFor new.history.present next.state.device

-- the reply to the line in hand may have come to be where the platform or the output failed, and else none
abbrev pub IsAhead : Ending → List Reply → Type 0
IsAhead (Ok done) ahead = ahead ≡ []
IsAhead (Err stops.Source) ahead = ahead ≡ []
IsAhead (Err stops.Limit) ahead = ahead ≡ []
IsAhead (Err stops.Sink) ahead = length ahead ≤ 1
IsAhead (Err (stops.Device device.Platform)) ahead = length ahead ≤ 1
IsAhead (Err (stops.Device device.Tape)) ahead = ahead ≡ []
IsAhead (Err (stops.Device device.Ledger)) ahead = ahead ≡ []
IsAhead (Err (stops.Device device.Memory)) ahead = ahead ≡ []
IsAhead (Err (stops.Device device.BadRoot)) ahead = ahead ≡ []
IsAhead (Err (stops.Device (device.BadRecord addr))) ahead = ahead ≡ []

-- whatever a loss of power leaves of the image stands for the device after the first k of these replies
abbrev pub HasMark : State → List (List ℕ) → List Reply → ℕ → Image → Type 0
HasMark entry lines replies k image = (there : Option Device) × IsMark entry lines replies k there × Leaves there image

-- the image stands for the device after all of the replies, or after those and some of the ones ahead
pub record ExitsAt (image : Image) (entry : State) (lines : List (List ℕ)) (replies ahead : List Reply) : Type 0 where
  pub mark : ℕ
  pub from : length replies ≤ mark
  pub there : Option Device
  pub is_mark : IsMark entry lines (replies ++ ahead) mark there
  pub stands : StandsFor image there

-- the k-th of these devices is the one after the first k replies
pub record AreMarks (entry : State) (lines : List (List ℕ)) (replies : List Reply) (marks : List (Option Device)) : Type 0 where
  pub many : length marks ≡ length replies
  pub each : (k : ℕ) → k ≤ length replies → IsMark entry lines replies k (mark_at entry.device marks k)

-- the replies are those of the array, from what the first line meets on; those to `seize` lines belong to moments in the order of the lines; and the devices that they
-- passed, with the one of a reply ahead, were made in their order
pub record Answered (old new : World) (ending : Ending) (entry : Standing) (lines : List (List ℕ)) (replies : List Reply) (part : List ℕ) : Type 0 where
  pub now : Standing
  pub answers : AnswersOn old.capacity entry lines replies now
  pub seen : SeenOn old.capacity new.history (moment old.history) entry lines replies now
  pub ends : EndsIn old new entry lines replies part now ending
  pub near : IsNear ending now lines replies new.head
  pub ahead : List Reply
  pub is_ahead : IsAhead ending ahead
  pub marks : List (Option Device)
  pub are : AreMarks entry.state lines (replies ++ ahead) marks
  pub made : Made old.history new.history None entry.state marks (closed (last_mark entry.state.device marks))

-- a run that handled these lines: what it put is the lines of its replies, and perhaps a part behind them. From each
-- state that the start stood for, after so many updates as are enough for its session, the replies are those of the array. `Before` is what holds where the platform failed before the first line
pub record Replied (tells Before : Type 0) (old new : World) (last : DeviceStop → List ℕ) (ending : Ending) (lines : List (List ℕ)) (put : List ℕ) : Type 0 where
  pub replies : List Reply
  pub part : List ℕ
  pub put_is : put ≡ flat_map line_of replies ++ part
  pub behind : IsBehind line_of last part ending
  pub many : AreMany (length replies) (length lines) ending
  pub stopped : IsEndingAt tells Before new replies lines ending
  pub drew : DrewUntil old.drawn lines replies new.drawn
  pub so : SoOn tells old.history new.history old.session new.session lines replies (MeetsWith tells new ending replies lines)
  pub later : IsLater old new
  pub full : (updates : ℕ) → AreEnough old.session updates → AreShort new.head new.capacity updates lines replies
  pub enough : (updates : ℕ) → AreEnough old.session updates → OnOk ending (AreEnough new.session (updates_of updates replies))
  pub looks : LooksOn tells old new lines replies (IsOk ending)
  pub answered : tells → (entry : State) (updates : ℕ) → Stood old entry → AreEnough old.session updates → Answered old new ending (standing entry old.head updates) lines replies part

-- the same of what an output has got
pub record Handled (tells Before : Type 0) (old new : World) (last : DeviceStop → List ℕ) (ending : Ending) (lines : List (List ℕ)) (written written_now : Option (List ℕ)) : Type 0 where
  pub put : List ℕ
  pub got : Got written put written_now
  pub replied : Replied tells Before old new last ending lines put

-- what was answered to a command, where the bytes of a reply stand at the front of a buffer
abbrev pub outcome : Result Given DeviceStop → List ℕ → Result Reply DeviceStop
outcome (Ok reply) buffer = Ok (said reply buffer)
outcome (Err stop) buffer = Err stop

-- what a stop at a command leaves of a device: itself at each moment; or, where the platform failed, itself until a moment
-- from which on it leaves the device after the command
abbrev pub Halts : World → World → State → Command → DeviceStop → Type 0
Halts old new entry command device.Platform =
    Turns old.history new.history (Leaves entry.device) (Leaves (answer (is_full old entry command) none_counted entry command).1.device)
Halts old new entry command device.Tape = During old.history new.history (Leaves entry.device)
Halts old new entry command device.Ledger = During old.history new.history (Leaves entry.device)
Halts old new entry command device.Memory = During old.history new.history (Leaves entry.device)
Halts old new entry command device.BadRoot = ⊥
Halts old new entry command (device.BadRecord addr) = ⊥

-- what the serving of a command did from a state: a reply of the array, full exactly where it needs more pages than are
-- free, and the state after it; or a stop without damage
abbrev pub Serves : World → World → State → Command → Result Reply DeviceStop → Type 0
Serves old new entry command (Ok reply) =
    (now : State) × IsAnswer (is_full old entry command) entry command reply now × Represents new now
    × Turns old.history new.history (Leaves entry.device) (Leaves now.device)
Serves old new entry command (Err stop) = Halts old new entry command stop
