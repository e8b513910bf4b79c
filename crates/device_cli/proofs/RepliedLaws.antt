-- How runs compose.
use Rattle.std.proofs.Common.{◌≡◌, ℕ, ◌≤◌, ◌+◌, ◌-◌, ◌*◌, true, false, List, [], ◌∷◌, ◌++◌, Option, None, Some, Ok, Err, length, take, inl, inr, refl, sym, ◌∙◌, subst, ap, arith, append_assoc, length-append}
use Rattle.std.specs.Prelude.{IfSome, OnOk, IsOk}
use Rattle.std.proofs.lemmas.Grind.{flat_map-append, common_steps}
use Rattle.std.proofs.lemmas.List.{append-nil}
use Rattle.platform.specs.Image.{Image}
use Rattle.platform.specs.History.{Extends, During, Turns, moment}
use Rattle.platform.proofs.Moments.{LeavesOnly-now, During-now, During-start, Turns-not, Extends-refl}
use Rattle.page_store.proofs.StandsLaws.{one_device, stands_leaves}
use Rattle.sdbt_base.proofs.ToldLaws.{Got-nothing, Got-then}
use Rattle.script_lang.specs.Grammar.{Spells, IsBad}
use Rattle.script_lang.specs.Replies.{line_of, Reply, Full, Bad}
use Rattle.script_lang.specs.Commands.{Command, Format, Write, Commit, Upgrade}
use Rattle.sdbt_base.specs.Arrays.{State, Device, Session as OpenSession, closed}
use Rattle.script_lang.specs.Answers.{Turn, answer, none_counted}
use Rattle.device_terms.specs.Served.{IsServedImage}
use Rattle.device_session.specs.Open.{IsOpen}
use Rattle.device_session.specs.Sessions.{Session}
use Rattle.device_session.proofs.CountLaws.{needs_some, needs_none}
use Rattle.device_course.specs.States.{IsSessionOf}
use Rattle.device_cli.specs.Parts.{Adds}
use Rattle.device_cli.proofs.TurnLaws.{parts, turning}
use Rattle.device_cli.proofs.UpgradeLaws.{adds_device, leaves_device, root_most}
use Rattle.script_lang.specs.Arrays.{needs_room}
use Rattle.line_run.specs.Stops.{IsOfLine, Ending, IsSound}
use Rattle.device_cli.specs.Looks.{LooksOn}
use Rattle.device_cli.proofs.LookLaws.{looks_cut, looks_idle, looks_then, looks_longer, looks_weaker}
use Rattle.device_cli.specs.World.{World, drew_by, is_full, needed_of, AreEnough, IsLater}
use Rattle.device_course.specs.Marks.{Leaves, last_mark}
use Rattle.device_course.specs.Course.{Made}
use Rattle.device_course.proofs.MadeLaws.{shut, made_none, made_one, made_stopped, made_then, made_closed}
use Rattle.device_cli.specs.Represents.{Stood, StandsFor}
use Rattle.device_cli.specs.Added.{left_by, LacksPages, LeavesFew, HasAdded, IsNear}
use Rattle.device_cli.specs.Pages.{needed_for, updates_after, updates_of, upgrade_of, Standing, standing, TurnOn, AnswersOn, IsShort}
use Rattle.device_cli.specs.Replied.{AreMany, IsStopAt, IsEndingAt, MeetsWith, IsAhead, AreMarks, EndsIn, Answered, Replied, Handled, Halts, Serves}
use Rattle.line_run.specs.Puts.{no_line, IsBehind, HasPut}
use Rattle.device_cli.specs.Causes.{MayStop, SoOn}
use Rattle.device_cli.proofs.DrawingLaws.{IfNext-behind, IfNext-longer, until_none, until_then, until_longer}
use Rattle.device_cli.specs.Drawing.{DrewUntil}
use Rattle.device_cli.proofs.ReplyLaws.{so_cut, so_idle, so_longer, so_then, so_ended}
use Rattle.device_cli.specs.Seen.{Saw, SeenOn}
use Rattle.device_cli.proofs.SeenLaws.{saw_plain, SeenOn-append, SeenOn-longer}
use Rattle.line_run.specs.declared.stop.Stop.{Stop}
use Rattle.line_run.specs.declared.stop.Stop.TheVariants as stops
use Rattle.session_calls.specs.declared.stops.DeviceStop.{DeviceStop}
use Rattle.session_calls.specs.declared.stops.DeviceStop.TheVariants as device
use Rattle.device_cli.proofs.PageLaws.{turn_of, near_turn, answers_of, updates_on, AnswersOn-append, AnswersOn-longer, updates_of-append, AreShort-later, AreShort-append, AreShort-longer}
use Rattle.device_cli.proofs.PassLaws.{AreMarks-none, AreMarks-one, AreMarks-then, AreMarks-longer}

-- no command needs more where a commit doesn't
needed_more : (command : Command) (changes more upgrade : ℕ) → changes ≤ more → needed_for command changes upgrade ≤ needed_for command more upgrade
needed_more Commit changes more upgrade less = less
needed_more _ changes more upgrade less = omega arith

-- from one world to itself, and on from one to the next
pub IsLater-refl : (w : World) → w.head ≤ w.capacity → IsLater w w
IsLater-refl w room = record { capacity = refl; rises = omega arith; within = room }

pub IsLater-then : (a b c : World) → IsLater a b → IsLater b c → IsLater a c
IsLater-then a b c p q = record { capacity = q.capacity ∙ p.capacity; rises = omega (arith, p.rises, q.rises); within = q.within }

-- no device was made
pub made_idle : (old new : World) (entry : State) → Stood old entry → Stood new entry × During old.history new.history (Leaves entry.device)
    → Made old.history new.history None entry [] (closed entry.device)
made_idle old new entry rep (there, during) =
    made_none old.history new.history None entry (closed entry.device) rep.there.device during refl (shut new.history.present entry.device there.there.device there.served)

-- no lines, and nothing put, while the platform stood still
pub Replied-idle : (tells : Type 0) (old new : World) (last : DeviceStop → List ℕ) → IsLater old new → new.head ≡ old.head → (tells → (new.reads ≤ old.reads) × (new.changes ≡ old.changes)) → new.session ≡ old.session
    → new.drawn ≡ old.drawn → (tells → Extends old.history new.history) → (tells → new.history.present ≡ old.history.present) → (tells → (entry : State) → Stood old entry → Stood new entry × During old.history new.history (Leaves entry.device))
    → Replied tells ⊥ old new last (Ok tt) [] []
Replied-idle tells old new last later same unread held undrawn extends kept still = record {
  replies = [];
  part = [];
  put_is = refl;
  behind = refl;
  many = refl;
  stopped = tt;
  drew = until_none old.drawn new.drawn [] undrawn;
  so = so_idle tells old.history new.history old.session new.session _ extends kept held tt;
  later = later;
  full = λ updates enough. tt;
  enough = λ updates enough. subst (λ (session : Option Session). AreEnough session updates) (sym held) enough;
  looks = looks_idle tells old new _ held unread;
  answered = λ told entry updates rep enough. let both = still told entry rep in record {
    now = standing entry old.head updates;
    answers = refl;
    seen = refl;
    ends = (both.0, same);
    near = same;
    ahead = [];
    is_ahead = refl;
    marks = [];
    are = AreMarks-none entry [];
    made = made_idle old new entry rep both;
  };
}

-- no time passed
still_there : (w : World) (entry : State) → Stood w entry → Stood w entry × During w.history w.history (Leaves entry.device)
still_there w entry rep = (rep, During-start w.history (Leaves entry.device) (stands_leaves w.history.present _ rep.there.device))

-- no lines, and nothing put
pub Replied-nothing : (tells : Type 0) (w : World) (last : DeviceStop → List ℕ) → w.head ≤ w.capacity → Replied tells ⊥ w w last (Ok tt) [] []
Replied-nothing tells w last fits = Replied-idle tells w w last (IsLater-refl w fits) refl (λ told. (omega arith, refl)) refl refl (λ told. Extends-refl w.history) (λ told. refl) (λ told entry rep. still_there w entry rep)

-- what the serving of a line did from a state: a reply that belongs to it, and the state after it
abbrev pub Turned : World → World → State → ℕ → List ℕ → Reply → Type 0
Turned old new entry updates line reply =
    (now : State) × TurnOn old.capacity (standing entry old.head updates) line reply (standing now new.head (updates_after reply updates)) × Stood new now × Turns old.history new.history (Leaves entry.device) (Leaves now.device)
    × Saw new.history (moment old.history) entry.device old.head reply

-- the device after it was made
made_turned : (old new : World) (entry now : State) → Stood old entry → Stood new now → Turns old.history new.history (Leaves entry.device) (Leaves now.device)
    → Made old.history new.history None entry (now.device ∷ []) (closed now.device)
made_turned old new entry now rep there turns =
    made_closed old.history new.history new.session entry now (now.device ∷ [])
    (made_one old.history new.history new.session entry now now.device rep.there.device turns there)

-- where so many updates are enough before a line, that many with those of its reply are after it
abbrev pub StaysEnough : World → World → Reply → Type 0
StaysEnough old new reply = (updates : ℕ) → AreEnough old.session updates → AreEnough new.session (updates_after reply updates)

-- a reply that too few pages are free is true
abbrev pub TellsShort : World → World → List ℕ → Reply → Type 0
TellsShort old new line reply =
    (updates : ℕ) → AreEnough old.session updates → reply ≡ Full → (command : Command) × Spells line command × IsShort command updates new.head new.capacity

-- what a line gives from each state, after so many updates as are enough
abbrev pub TurnsEach : Type 0 → World → World → List ℕ → Reply → Type 0
TurnsEach tells old new line reply = tells → (entry : State) (updates : ℕ) → Stood old entry → AreEnough old.session updates → Turned old new entry updates line reply

-- a line with its reply
pub Replied-line : (tells : Type 0) (old new : World) (last : DeviceStop → List ℕ) (line : List ℕ) (reply : Reply)
    → IsLater old new → DrewUntil old.drawn (line ∷ []) (reply ∷ []) new.drawn → SoOn tells old.history new.history old.session new.session (line ∷ []) (reply ∷ []) (λ last. Unit {0}) → TellsShort old new line reply → StaysEnough old new reply
    → LooksOn tells old new (line ∷ []) (reply ∷ []) (IsOk {T = Unit {0}} {E = Stop} (Ok tt)) → TurnsEach tells old new line reply → Replied tells ⊥ old new last (Ok tt) (line ∷ []) (line_of reply)
Replied-line tells old new last line reply later drew so full enough looks turned = record {
  replies = reply ∷ [];
  part = [];
  put_is = grind (arith, common_steps);
  behind = refl;
  many = refl;
  stopped = tt;
  drew = drew;
  so = so;
  later = later;
  full = λ updates paid. (full updates paid, tt);
  enough = enough;
  looks = looks;
  answered = λ told entry updates rep paid.
      let t = turned told entry updates rep paid in
      let now = standing t.0 new.head (updates_after reply updates) in
      let turn = turn_of old.capacity (standing entry old.head updates) line reply now t.1 in
      record {
        now = now;
        answers = (now, t.1, refl);
        seen = (t.4, now, t.1, refl);
        ends = (t.2, refl);
        near = refl;
        ahead = [];
        is_ahead = refl;
        marks = t.0.device ∷ [];
        are = AreMarks-one entry t.0 line reply turn;
        made = made_turned old new entry t.0 rep t.2 t.3;
      };
}

-- a line whose reply was put in part
pub Replied-part : (tells : Type 0) (old new : World) (last : DeviceStop → List ℕ) (line : List ℕ) (reply : Reply) (n : ℕ)
    → IsLater old new → DrewUntil old.drawn (line ∷ []) [] new.drawn → (tells → Extends old.history new.history) → LooksOn tells old new (line ∷ []) [] (IsOk {T = Unit {0}} {E = Stop} (Err stops.Sink)) → TurnsEach tells old new line reply
    → Replied tells ⊥ old new last (Err stops.Sink) (line ∷ []) (take n (line_of reply))
Replied-part tells old new last line reply n later drew extends looks turned = record {
  replies = [];
  part = take n (line_of reply);
  put_is = refl;
  behind = inl (reply, (n, refl));
  many = omega arith;
  stopped = tt;
  drew = drew;
  so = so_cut tells old.history new.history old.session new.session line [] _ extends tt;
  later = later;
  full = λ updates enough. tt;
  enough = λ updates enough. tt;
  looks = looks;
  answered = λ told entry updates rep enough.
      let t = turned told entry updates rep enough in
      let now = standing t.0 new.head (updates_after reply updates) in
      let turn = turn_of old.capacity (standing entry old.head updates) line reply now t.1 in
      record {
        now = standing entry old.head updates;
        answers = refl;
        seen = refl;
        ends = (reply, now, (now, t.1, refl), refl, (n, refl), t.2.there.device);
        near = near_turn old.capacity (standing entry old.head updates) line reply now t.1;
        ahead = reply ∷ [];
        is_ahead = omega arith;
        marks = t.0.device ∷ [];
        are = AreMarks-one entry t.0 line reply turn;
        made = made_turned old new entry t.0 rep t.2 t.3;
      };
}

-- what a stop at a line left
record Halted (old new : World) (entry : State) (line : List ℕ) (stop : DeviceStop) : Type 0 where
  sound : IsSound stop
  ahead : List Reply
  is_ahead : IsAhead (Err (stops.Device stop)) ahead
  marks : List (Option Device)
  are : AreMarks entry (line ∷ []) ahead marks
  made : Made old.history new.history None entry marks (closed (last_mark entry.device marks))

halted_still : (old new : World) (entry : State) (line : List ℕ) (stop : DeviceStop) → IsSound stop → IsAhead (Err (stops.Device stop)) [] → Stood old entry → IsServedImage new.history.present
    → During old.history new.history (Leaves entry.device) → Halted old new entry line stop
halted_still old new entry line stop sound none rep served during = record {
  sound = sound;
  ahead = [];
  is_ahead = none;
  marks = [];
  are = AreMarks-none entry (line ∷ []);
  made = made_none old.history new.history None entry (closed entry.device) rep.there.device during refl
      (shut new.history.present entry.device (LeavesOnly-now new.history (λ left. StandsFor left entry.device) (During-now old.history new.history (Leaves entry.device) during)) served);
}

halted_turned : (old new : World) (entry now : State) (line : List ℕ) (reply : Reply) → Turn entry line reply now → Stood old entry → IsServedImage new.history.present
    → Turns old.history new.history (Leaves entry.device) (Leaves now.device) → Halted old new entry line device.Platform
halted_turned old new entry now line reply turn rep served turns = elim (made_stopped old.history new.history entry now.device rep.there.device served turns) [
  | inl none ↦ record { sound = tt; ahead = []; is_ahead = omega arith; marks = []; are = AreMarks-none entry (line ∷ []); made = none }
  | inr one ↦ record { sound = tt; ahead = reply ∷ []; is_ahead = omega arith; marks = now.device ∷ []; are = AreMarks-one entry now line reply turn; made = one }
]

halted : (old new : World) (entry : State) (line : List ℕ) (command : Command) (stop : DeviceStop) → Spells line command → Stood old entry → IsServedImage new.history.present
    → Halts old new entry command stop → Halted old new entry line stop
halted old new entry line command device.Platform spells rep served h =
    let next = answer (is_full old entry command) none_counted entry command in
    halted_turned old new entry next.1 line next.0 (inl (command, spells, is_full old entry command, (none_counted, refl))) rep served h
halted old new entry line command device.Tape spells rep served h = halted_still old new entry line device.Tape tt refl rep served h
halted old new entry line command device.Ledger spells rep served h = halted_still old new entry line device.Ledger tt refl rep served h
halted old new entry line command device.Memory spells rep served h = halted_still old new entry line device.Memory tt refl rep served h
halted old new entry line command device.BadRoot spells rep served h = absurd h
halted old new entry line command (device.BadRecord addr) spells rep served h = absurd h

-- a stop leaves no more where a commit needs no more
left_more : (stop : DeviceStop) (command : Command) (changes more upgrade : ℕ) → changes ≤ more → left_by stop command changes upgrade ≤ left_by stop command more upgrade
left_more device.Platform command changes more upgrade less = needed_more command changes more upgrade less
left_more device.Ledger command changes more upgrade less = needed_more command changes more upgrade less
left_more device.Tape Commit changes more upgrade less = less
left_more device.Tape _ changes more upgrade less = omega arith
left_more device.Memory command changes more upgrade less = omega arith
left_more device.BadRoot command changes more upgrade less = omega arith
left_more (device.BadRecord addr) Upgrade changes more upgrade less = omega arith
left_more (device.BadRecord addr) _ changes more upgrade less = omega arith

-- a line that the device stopped at
pub Replied-stop : (tells : Type 0) (old new : World) (line : List ℕ) (command : Command) (stop : DeviceStop) → Spells line command → IsLater old new → DrewUntil old.drawn (line ∷ []) [] new.drawn → (tells → Extends old.history new.history) → LeavesFew tells old.history.present stop command (needed_of old.session) old.head new.head
    → IsEndingAt tells ⊥ new [] (line ∷ []) (Err (stops.Device stop)) → MeetsWith tells new (Err (stops.Device stop)) [] (line ∷ []) old.session
    → LooksOn tells old new (line ∷ []) [] (IsOk {T = Unit {0}} {E = Stop} (Err (stops.Device stop)))
    → (tells → IsServedImage new.history.present) → (tells → (entry : State) → Stood old entry → Halts old new entry command stop)
    → Replied tells ⊥ old new no_line (Err (stops.Device stop)) (line ∷ []) []
Replied-stop tells old new line command stop spells later drew extends added damage met looks served halts = record {
  replies = [];
  part = [];
  put_is = refl;
  behind = refl;
  many = omega arith;
  stopped = damage;
  drew = drew;
  so = so_cut tells old.history new.history old.session new.session line [] _ extends met;
  later = later;
  full = λ updates enough. tt;
  enough = λ updates enough. tt;
  looks = looks;
  answered = λ told entry updates rep enough.
      let h = halted old new entry line command stop spells rep (served told) (halts told entry rep) in
      record {
        now = standing entry old.head updates;
        answers = refl;
        seen = refl;
        ends = h.sound;
        near = inr (later.rises, (command, spells, omega (arith, leaves_device tells old.history.present entry stop command (needed_of old.session) old.head new.head told rep.there.device added, left_more stop command (needed_of old.session) (41 * updates) (upgrade_of entry) enough)));
        ahead = h.ahead;
        is_ahead = h.is_ahead;
        marks = h.marks;
        are = h.are;
        made = h.made;
      };
}

HasAdded-behind : (most : Command → ℕ) (lines more : List (List ℕ)) (replies others : List Reply) (pages now : ℕ) → length replies ≡ length lines
    → HasAdded most more others pages now → HasAdded most (lines ++ more) (replies ++ others) pages now
HasAdded-behind most lines more replies others pages now same (inl e) = inl e
HasAdded-behind most lines more replies others pages now same (inr (rises, next)) = inr (rises, IfNext-behind _ lines more replies others same next)

IsNear-then : (ending : Ending) (met : Standing) (lines more : List (List ℕ)) (replies others : List Reply) (now : ℕ) → length replies ≡ length lines
    → IsNear ending met more others now → IsNear ending met (lines ++ more) (replies ++ others) now
IsNear-then (Ok done) met lines more replies others now same h = h
IsNear-then (Err stops.Source) met lines more replies others now same h = h
IsNear-then (Err stops.Limit) met lines more replies others now same h = h
IsNear-then (Err stops.Sink) met lines more replies others now same h = HasAdded-behind _ lines more replies others met.pages now same h
IsNear-then (Err (stops.Device stop)) met lines more replies others now same h = HasAdded-behind _ lines more replies others met.pages now same h

HasAdded-longer : (most : Command → ℕ) (lines more : List (List ℕ)) (replies : List Reply) (pages now : ℕ) → HasAdded most lines replies pages now → HasAdded most (lines ++ more) replies pages now
HasAdded-longer most lines more replies pages now (inl e) = inl e
HasAdded-longer most lines more replies pages now (inr (rises, next)) = inr (rises, IfNext-longer _ lines more replies next)

IsNear-longer : (stop : Stop) (met : Standing) (lines more : List (List ℕ)) (replies : List Reply) (now : ℕ) → IsNear (Err stop) met lines replies now → IsNear (Err stop) met (lines ++ more) replies now
IsNear-longer stops.Source met lines more replies now h = h
IsNear-longer stops.Limit met lines more replies now h = h
IsNear-longer stops.Sink met lines more replies now h = HasAdded-longer _ lines more replies met.pages now h
IsNear-longer (stops.Device stop) met lines more replies now h = HasAdded-longer _ lines more replies met.pages now h

AreMany-then : (ending : Ending) (a b c d : ℕ) → a ≡ b → AreMany c d ending → AreMany (a + c) (b + d) ending
AreMany-then (Ok done) a b c d e h = omega (arith, e, h)
AreMany-then (Err stops.Source) a b c d e h = omega (arith, e, h)
AreMany-then (Err stops.Limit) a b c d e h = omega (arith, e, h)
AreMany-then (Err stops.Sink) a b c d e h = omega (arith, e, h)
AreMany-then (Err (stops.Device stop)) a b c d e h = omega (arith, e, h)

IsStopAt-then : (tells : Type 0) (now : World) (stop : DeviceStop) (lines more : List (List ℕ)) (replies others : List Reply) → length replies ≡ length lines
    → IsStopAt tells ⊥ now others more stop → IsStopAt tells ⊥ now (replies ++ others) (lines ++ more) stop
IsStopAt-then tells now device.Platform lines more replies others same (inl never) = absurd never
IsStopAt-then tells now device.Platform lines more replies others same (inr h) = inr (IfNext-behind _ lines more replies others same h)
IsStopAt-then tells now device.BadRoot lines more replies others same h = tt
IsStopAt-then tells now device.Tape lines more replies others same h = IfNext-behind _ lines more replies others same h
IsStopAt-then tells now device.Ledger lines more replies others same h = IfNext-behind _ lines more replies others same h
IsStopAt-then tells now device.Memory lines more replies others same h = IfNext-behind _ lines more replies others same h
IsStopAt-then tells now (device.BadRecord addr) lines more replies others same h = IfNext-behind _ lines more replies others same h

IsEndingAt-then : (tells : Type 0) (now : World) (ending : Ending) (lines more : List (List ℕ)) (replies others : List Reply) → length replies ≡ length lines
    → IsEndingAt tells ⊥ now others more ending → IsEndingAt tells ⊥ now (replies ++ others) (lines ++ more) ending
IsEndingAt-then tells now (Ok done) lines more replies others same h = tt
IsEndingAt-then tells now (Err stops.Source) lines more replies others same h = tt
IsEndingAt-then tells now (Err stops.Limit) lines more replies others same h = tt
IsEndingAt-then tells now (Err stops.Sink) lines more replies others same h = tt
IsEndingAt-then tells now (Err (stops.Device stop)) lines more replies others same h = IsStopAt-then tells now stop lines more replies others same h

MeetsWith-then : (tells : Type 0) (now : World) (ending : Ending) (lines more : List (List ℕ)) (replies others : List Reply) → length replies ≡ length lines
    → (last : Option Session) → MeetsWith tells now ending others more last → MeetsWith tells now ending (replies ++ others) (lines ++ more) last
MeetsWith-then tells now (Ok done) lines more replies others same last h = tt
MeetsWith-then tells now (Err stops.Source) lines more replies others same last h = tt
MeetsWith-then tells now (Err stops.Limit) lines more replies others same last h = tt
MeetsWith-then tells now (Err stops.Sink) lines more replies others same last h = tt
MeetsWith-then tells now (Err (stops.Device device.Platform)) lines more replies others same last h = tt
MeetsWith-then tells now (Err (stops.Device device.BadRoot)) lines more replies others same last h = tt
MeetsWith-then tells now (Err (stops.Device device.Tape)) lines more replies others same last h = tt
MeetsWith-then tells now (Err (stops.Device device.Ledger)) lines more replies others same last h = tt
MeetsWith-then tells now (Err (stops.Device device.Memory)) lines more replies others same last h = tt
MeetsWith-then tells now (Err (stops.Device (device.BadRecord addr))) lines more replies others same last h = IfNext-behind _ lines more replies others same h

-- what the second run answers, counted from the first one's start
EndsIn-then : (old middle new : World) (ending : Ending) (entry mid now : Standing) (lines more : List (List ℕ)) (replies others : List Reply) (part : List ℕ)
    → middle.capacity ≡ old.capacity → length replies ≡ length lines → AnswersOn old.capacity entry lines replies mid
    → EndsIn middle new mid more others part now ending → EndsIn old new entry (lines ++ more) (replies ++ others) part now ending
EndsIn-then old middle new (Ok done) entry mid now lines more replies others part capacity same h k = k
EndsIn-then old middle new (Err stops.Source) entry mid now lines more replies others part capacity same h k = k
EndsIn-then old middle new (Err stops.Limit) entry mid now lines more replies others part capacity same h k = k
EndsIn-then old middle new (Err (stops.Device stop)) entry mid now lines more replies others part capacity same h k = k
EndsIn-then old middle new (Err stops.Sink) entry mid now lines more replies others part capacity same h (reply, next, answers, pages, cut, stands) = (
  reply,
  next,
  subst (λ (all : List Reply). AnswersOn old.capacity entry (lines ++ more) all next) (sym (append_assoc replies others (reply ∷ [])))
      (AnswersOn-append old.capacity entry mid next lines more replies (others ++ reply ∷ []) same h
      (subst (λ (c : ℕ). AnswersOn c mid more (others ++ reply ∷ []) next) capacity answers)),
  pages,
  cut,
  stands,
)

-- no reply is ahead
AreMarks-all : (entry : State) (lines : List (List ℕ)) (replies ahead : List Reply) (marks : List (Option Device)) → ahead ≡ []
    → AreMarks entry lines (replies ++ ahead) marks → AreMarks entry lines replies marks
AreMarks-all entry lines replies ahead marks none are =
    subst (λ (all : List Reply). AreMarks entry lines all marks) (ap (λ (more : List Reply). replies ++ more) none ∙ append-nil replies) are

-- the devices of some lines, which led to this state, and of more lines from there on
Made-then : (first second third : World) (entry mid : State) (one two : List (Option Device)) → Stood second mid
    → Made first.history second.history None entry one (closed (last_mark entry.device one)) → Made second.history third.history None mid two (closed (last_mark mid.device two))
    → (mid.device ≡ last_mark entry.device one) × Made first.history third.history None entry (one ++ two) (closed (last_mark entry.device (one ++ two)))
Made-then first second third entry mid one two stood a b =
    let last : mid.device ≡ last_mark entry.device one = one_device second.history.present mid.device (last_mark entry.device one) stood.there.device a.exits.there.device in
    let there : Made first.history second.history second.session entry one mid = record { passes = a.passes; last = last; exits = stood } in
    let all = made_then first.history second.history third.history second.session None entry mid (closed (last_mark mid.device two)) one two there b in
    (last, subst (λ (d : Option Device). Made first.history third.history None entry (one ++ two) (closed d)) all.last all)

-- what the first of two runs answered, and then the second from where it ended
Answered-then : (old mid new : World) (ending : Ending) (entry : Standing) (lines more : List (List ℕ)) (replies others : List Reply) (none part : List ℕ)
    → IsLater old mid → length replies ≡ length lines → (p : Answered old mid (Ok tt) entry lines replies none) → Answered mid new ending p.now more others part
    → Answered old new ending entry (lines ++ more) (replies ++ others) part
Answered-then old mid new ending entry lines more replies others none part later same p q =
    let answers = answers_of old.capacity entry lines replies p.now p.answers in
    let made = Made-then old mid new entry.state p.now.state p.marks q.marks p.ends.0 p.made q.made in
    record {
      now = q.now;
      answers = AnswersOn-append old.capacity entry p.now q.now lines more replies others same p.answers (subst (λ (c : ℕ). AnswersOn c p.now more others q.now) later.capacity q.answers);
      seen = SeenOn-append old.capacity mid.history new.history (moment old.history) entry p.now q.now lines more replies others q.made.passes.extends
          p.made.passes.extends.later same p.seen (subst (λ (c : ℕ). SeenOn c new.history (moment mid.history) p.now more others q.now) later.capacity q.seen);
      near = IsNear-then ending q.now lines more replies others new.head same q.near;
      ends = EndsIn-then old mid new ending entry p.now q.now lines more replies others part later.capacity same p.answers q.ends;
      ahead = q.ahead;
      is_ahead = q.is_ahead;
      marks = p.marks ++ q.marks;
      are = subst (λ (all : List Reply). AreMarks entry.state (lines ++ more) all (p.marks ++ q.marks)) (sym (append_assoc replies others q.ahead))
          (AreMarks-then entry.state p.now.state lines more replies (others ++ q.ahead) p.marks q.marks same answers made.0
          (AreMarks-all entry.state lines replies p.ahead p.marks p.is_ahead p.are) q.are);
      made = made.1;
    }

enough_then : (ending : Ending) (session : Option Session) (updates : ℕ) (replies others : List Reply) → OnOk ending (AreEnough session (updates_of (updates_of updates replies) others))
    → OnOk ending (AreEnough session (updates_of updates (replies ++ others)))
enough_then (Ok done) session updates replies others h = subst (λ (n : ℕ). AreEnough session n) (sym (updates_of-append updates replies others)) h
enough_then (Err stop) session updates replies others h = tt

-- one run after another, which answered all its lines
pub Replied-then : (tells : Type 0) (old mid new : World) (last : DeviceStop → List ℕ) (ending : Ending) (lines more : List (List ℕ)) (put others : List ℕ)
    → Replied tells ⊥ old mid last (Ok tt) lines put → Replied tells ⊥ mid new last ending more others → Replied tells ⊥ old new last ending (lines ++ more) (put ++ others)
Replied-then tells old mid new last ending lines more put others p q =
    record {
      replies = p.replies ++ q.replies;
      part = q.part;
      put_is = grind (arith, common_steps, flat_map-append line_of p.replies q.replies, p.put_is, q.put_is, p.behind);
      behind = q.behind;
      many = rw (length-append p.replies q.replies, length-append lines more) (AreMany-then ending _ _ _ _ p.many q.many);
      stopped = IsEndingAt-then tells new ending lines more p.replies q.replies p.many q.stopped;
      drew = until_then old.drawn mid.drawn new.drawn lines more p.replies q.replies p.many p.drew q.drew;
      so = so_then tells old.history mid.history new.history old.session mid.session new.session lines more p.replies q.replies _ _ _ p.many (MeetsWith-then tells new ending lines more p.replies q.replies p.many) p.so q.so;
      later = IsLater-then old mid new p.later q.later;
      full = λ updates paid. AreShort-append new.head new.capacity updates lines more p.replies q.replies p.many
          (AreShort-later mid new updates lines p.replies q.later (p.full updates paid)) (q.full (updates_of updates p.replies) (p.enough updates paid));
      enough = λ updates paid. enough_then ending new.session updates p.replies q.replies (q.enough (updates_of updates p.replies) (p.enough updates paid));
      looks = looks_then tells old mid new lines more p.replies q.replies _ _ p.many refl p.looks q.looks;
      answered = λ told entry updates rep paid.
          let first = p.answered told entry updates rep paid in
          let met = standing entry old.head updates in
          let same = updates_on old.capacity met lines p.replies first.now first.answers in
          let still : AreEnough mid.session first.now.updates = subst (λ (n : ℕ). AreEnough mid.session n) (sym same) (p.enough updates paid) in
          Answered-then old mid new ending met lines more p.replies q.replies p.part q.part p.later p.many first
          (subst (λ (n : ℕ). Answered mid new ending (standing first.now.state n first.now.updates) more q.replies q.part) first.ends.1
          (q.answered told first.now.state first.now.updates first.ends.0 still));
    }

AreMany-longer : (stop : Stop) (a b c : ℕ) → b ≤ c → IsOfLine stop → AreMany a b (Err stop) → AreMany a c (Err stop)
AreMany-longer stops.Source a b c most line h = absurd line
AreMany-longer stops.Limit a b c most line h = absurd line
AreMany-longer stops.Sink a b c most line h = omega (arith, h)
AreMany-longer (stops.Device stop) a b c most line h = omega (arith, h)

IsStopAt-longer : (tells : Type 0) (now : World) (stop : DeviceStop) (lines more : List (List ℕ)) (replies : List Reply)
    → IsStopAt tells ⊥ now replies lines stop → IsStopAt tells ⊥ now replies (lines ++ more) stop
IsStopAt-longer tells now device.Platform lines more replies (inl never) = absurd never
IsStopAt-longer tells now device.Platform lines more replies (inr h) = inr (IfNext-longer _ lines more replies h)
IsStopAt-longer tells now device.BadRoot lines more replies h = tt
IsStopAt-longer tells now device.Tape lines more replies h = IfNext-longer _ lines more replies h
IsStopAt-longer tells now device.Ledger lines more replies h = IfNext-longer _ lines more replies h
IsStopAt-longer tells now device.Memory lines more replies h = IfNext-longer _ lines more replies h
IsStopAt-longer tells now (device.BadRecord addr) lines more replies h = IfNext-longer _ lines more replies h

IsEndingAt-longer : (tells : Type 0) (now : World) (stop : Stop) (lines more : List (List ℕ)) (replies : List Reply)
    → IsEndingAt tells ⊥ now replies lines (Err stop) → IsEndingAt tells ⊥ now replies (lines ++ more) (Err stop)
IsEndingAt-longer tells now stops.Source lines more replies h = tt
IsEndingAt-longer tells now stops.Limit lines more replies h = tt
IsEndingAt-longer tells now stops.Sink lines more replies h = tt
IsEndingAt-longer tells now (stops.Device stop) lines more replies h = IsStopAt-longer tells now stop lines more replies h

MeetsWith-longer : (tells : Type 0) (now : World) (stop : Stop) (lines more : List (List ℕ)) (replies : List Reply)
    → (last : Option Session) → MeetsWith tells now (Err stop) replies lines last → MeetsWith tells now (Err stop) replies (lines ++ more) last
MeetsWith-longer tells now stops.Source lines more replies last h = tt
MeetsWith-longer tells now stops.Limit lines more replies last h = tt
MeetsWith-longer tells now stops.Sink lines more replies last h = tt
MeetsWith-longer tells now (stops.Device device.Platform) lines more replies last h = tt
MeetsWith-longer tells now (stops.Device device.BadRoot) lines more replies last h = tt
MeetsWith-longer tells now (stops.Device device.Tape) lines more replies last h = tt
MeetsWith-longer tells now (stops.Device device.Ledger) lines more replies last h = tt
MeetsWith-longer tells now (stops.Device device.Memory) lines more replies last h = tt
MeetsWith-longer tells now (stops.Device (device.BadRecord addr)) lines more replies last h = IfNext-longer _ lines more replies h

EndsIn-longer : (old new : World) (stop : Stop) (entry now : Standing) (lines more : List (List ℕ)) (replies : List Reply) (part : List ℕ)
    → EndsIn old new entry lines replies part now (Err stop) → EndsIn old new entry (lines ++ more) replies part now (Err stop)
EndsIn-longer old new stops.Source entry now lines more replies part k = k
EndsIn-longer old new stops.Limit entry now lines more replies part k = k
EndsIn-longer old new (stops.Device stop) entry now lines more replies part k = k
EndsIn-longer old new stops.Sink entry now lines more replies part (reply, next, answers, pages, cut, stands) =
    (reply, next, AnswersOn-longer old.capacity entry next lines more (replies ++ reply ∷ []) answers, pages, cut, stands)

-- a run that stopped at a line may have had more of them
pub Replied-longer : (tells : Type 0) (old new : World) (last : DeviceStop → List ℕ) (stop : Stop) (lines more : List (List ℕ)) (put : List ℕ)
    → IsOfLine stop → Replied tells ⊥ old new last (Err stop) lines put → Replied tells ⊥ old new last (Err stop) (lines ++ more) put
Replied-longer tells old new last stop lines more put line p = record {
  replies = p.replies;
  part = p.part;
  put_is = p.put_is;
  behind = p.behind;
  many = AreMany-longer stop (length p.replies) (length lines) (length (lines ++ more)) (omega (arith, length-append lines more)) line p.many;
  stopped = IsEndingAt-longer tells new stop lines more p.replies p.stopped;
  drew = until_longer old.drawn new.drawn lines more p.replies p.drew;
  so = so_longer tells old.history new.history old.session new.session lines more p.replies _ _ (MeetsWith-longer tells new stop lines more p.replies) p.so;
  later = p.later;
  full = λ updates enough. AreShort-longer new.head new.capacity updates lines more p.replies (p.full updates enough);
  enough = λ updates enough. tt;
  looks = looks_longer tells old new lines more p.replies _ _ (λ ok. absurd cc) p.looks;
  answered = λ told entry updates rep enough. let first = p.answered told entry updates rep enough in record {
    now = first.now;
    answers = AnswersOn-longer old.capacity (standing entry old.head updates) first.now lines more p.replies first.answers;
    seen = SeenOn-longer old.capacity new.history (moment old.history) (standing entry old.head updates) first.now lines more p.replies first.seen;
    near = IsNear-longer stop first.now lines more p.replies new.head first.near;
    ends = EndsIn-longer old new stop (standing entry old.head updates) first.now lines more p.replies p.part first.ends;
    ahead = first.ahead;
    is_ahead = first.is_ahead;
    marks = first.marks;
    are = AreMarks-longer entry lines more (p.replies ++ first.ahead) first.marks first.are;
    made = first.made;
  };
}

-- the same of what an output has got
pub Handled-nothing : (tells : Type 0) (w : World) (last : DeviceStop → List ℕ) (written : Option (List ℕ)) → w.head ≤ w.capacity → Handled tells ⊥ w w last (Ok tt) [] written written
Handled-nothing tells w last written room = record { put = []; got = Got-nothing written; replied = Replied-nothing tells w last room }

pub Handled-then : (tells : Type 0) (old mid new : World) (last : DeviceStop → List ℕ) (ending : Ending) (lines more : List (List ℕ)) (a b c : Option (List ℕ))
    → Handled tells ⊥ old mid last (Ok tt) lines a b → Handled tells ⊥ mid new last ending more b c → Handled tells ⊥ old new last ending (lines ++ more) a c
Handled-then tells old mid new last ending lines more a b c p q = record {
  put = p.put ++ q.put;
  got = Got-then a p.put b q.put c p.got q.got;
  replied = Replied-then tells old mid new last ending lines more p.put q.put p.replied q.replied;
}

pub Handled-longer : (tells : Type 0) (old new : World) (last : DeviceStop → List ℕ) (stop : Stop) (lines more : List (List ℕ)) (a b : Option (List ℕ))
    → IsOfLine stop → Handled tells ⊥ old new last (Err stop) lines a b → Handled tells ⊥ old new last (Err stop) (lines ++ more) a b
Handled-longer tells old new last stop lines more a b line p =
    record { put = p.put; got = p.got; replied = Replied-longer tells old new last stop lines more p.put line p.replied }

-- lines that have their replies, and then a stop
stopped : (tells : Type 0) (old new : World) (last : DeviceStop → List ℕ) (stop : Stop) (lines : List (List ℕ)) (put : List ℕ) (p : Replied tells ⊥ old new last (Ok tt) lines put)
    → ((held : Option Session) → MeetsWith tells new (Err stop) p.replies lines held) → IsBehind line_of last p.part (Err stop) → AreMany (length p.replies) (length lines) (Err stop) → IsEndingAt tells ⊥ new p.replies lines (Err stop)
    → ((entry : Standing) → Answered old new (Ok tt) entry lines p.replies p.part → Answered old new (Err stop) entry lines p.replies p.part)
    → Replied tells ⊥ old new last (Err stop) lines put
stopped tells old new last stop lines put p none behind many damage answered = record {
  replies = p.replies;
  part = p.part;
  put_is = p.put_is;
  behind = behind;
  many = many;
  stopped = damage;
  drew = p.drew;
  so = so_ended tells old.history new.history old.session new.session lines p.replies _ _ (λ held met. none held) p.so;
  later = p.later;
  full = p.full;
  enough = λ updates enough. tt;
  looks = looks_weaker tells old new lines p.replies _ _ (λ ok. absurd cc) p.looks;
  answered = λ told entry updates rep enough. answered (standing entry old.head updates) (p.answered told entry updates rep enough);
}

-- the input ended or failed before a next line: no line is left without its reply
Replied-cut : (tells : Type 0) (old new : World) (last : DeviceStop → List ℕ) (lines : List (List ℕ)) (put : List ℕ)
    → Replied tells ⊥ old new last (Ok tt) lines put → Replied tells ⊥ old new last (Err stops.Source) lines put × Replied tells ⊥ old new last (Err stops.Limit) lines put
Replied-cut tells old new last lines put p = (
  stopped tells old new last stops.Source lines put p (λ held. tt) p.behind p.many tt
      (λ entry f. record { now = f.now; answers = f.answers; seen = f.seen; ends = f.ends; near = f.near; ahead = f.ahead; is_ahead = f.is_ahead; marks = f.marks; are = f.are; made = f.made }),
  stopped tells old new last stops.Limit lines put p (λ held. tt) p.behind p.many tt
      (λ entry f. record { now = f.now; answers = f.answers; seen = f.seen; ends = f.ends; near = f.near; ahead = f.ahead; is_ahead = f.is_ahead; marks = f.marks; are = f.are; made = f.made }),
)

pub Handled-cut : (tells : Type 0) (old new : World) (last : DeviceStop → List ℕ) (lines : List (List ℕ)) (a b : Option (List ℕ))
    → Handled tells ⊥ old new last (Ok tt) lines a b → Handled tells ⊥ old new last (Err stops.Source) lines a b × Handled tells ⊥ old new last (Err stops.Limit) lines a b
Handled-cut tells old new last lines a b p = let cut = Replied-cut tells old new last lines p.put p.replied in
    (record { put = p.put; got = p.got; replied = cut.0 }, record { put = p.put; got = p.got; replied = cut.1 })

-- a line whose reply was put, whole or in part
pub Handled-line : (tells : Type 0) (old new : World) (last : DeviceStop → List ℕ) (line : List ℕ) (reply : Reply) (ending : Ending) (a b : Option (List ℕ))
    → IsLater old new → DrewUntil old.drawn (line ∷ []) (reply ∷ []) new.drawn → DrewUntil old.drawn (line ∷ []) [] new.drawn → SoOn tells old.history new.history old.session new.session (line ∷ []) (reply ∷ []) (λ last. Unit {0}) → TellsShort old new line reply
    → StaysEnough old new reply → LooksOn tells old new (line ∷ []) (reply ∷ []) (IsOk ending) → TurnsEach tells old new line reply → HasPut (line_of reply) ending a b
    → Handled tells ⊥ old new last ending (line ∷ []) a b
Handled-line tells old new last line reply (Ok done) a b later drew cut so full enough looks turned put =
    record { put = line_of reply; got = put; replied = Replied-line tells old new last line reply later drew so full enough looks turned }
Handled-line tells old new last line reply (Err stops.Sink) a b later drew cut so full enough looks turned (n, put) =
    record { put = take n (line_of reply); got = put; replied = Replied-part tells old new last line reply n later cut (λ told. (so told).0) (looks_cut tells old new line reply _ _ (λ ok. absurd cc) looks) turned }
Handled-line tells old new last line reply (Err stops.Source) a b later drew cut so full enough looks turned put = absurd put
Handled-line tells old new last line reply (Err stops.Limit) a b later drew cut so full enough looks turned put = absurd put
Handled-line tells old new last line reply (Err (stops.Device stop)) a b later drew cut so full enough looks turned put = absurd put

-- a line outside the grammar
pub turned_bad : (w : World) (entry : State) (updates : ℕ) (line : List ℕ) → IsBad line → Stood w entry → Turned w w entry updates line Bad
turned_bad w entry updates line bad rep = (
  entry,
  inr (bad, refl, refl),
  rep,
  Turns-not w.history w.history (Leaves entry.device) (Leaves entry.device) (During-start w.history (Leaves entry.device) (stands_leaves w.history.present _ rep.there.device)),
  saw_plain w.history w.history entry.device w.head Bad (Extends-refl w.history) (λ told nodes blocks e. cc),
)

-- a commit of a session needs a page exactly where the state's session was changed
changes_of : (held : Option Session) (image : Image) (there : Option Device) (opened : Option OpenSession) (head : ℕ) → IfSome held (λ session. IsOpen session head) → IsSessionOf held image there opened
    → (needs_room (parts there opened) Commit ≡ true → 1 ≤ needed_of held) × (needs_room (parts there opened) Commit ≡ false → needed_of held ≡ 0)
changes_of None image None None head is h = (λ e. absurd cc, λ e. refl)
changes_of None image (Some d) None head is h = (λ e. absurd cc, λ e. refl)
changes_of None image there (Some t) head is h = absurd h
changes_of (Some session) image there None head is h = absurd h
changes_of (Some session) image None (Some t) head is h = absurd h
changes_of (Some session) image (Some d) (Some t) head is h = (λ e. needs_some session head is (h.1 ∙ e), λ e. needs_none session head is (h.1 ∙ e))

-- a command's line
pub turned_command : (tells : Type 0) (old new : World) (entry : State) (updates : ℕ) (line : List ℕ) (command : Command) (reply : Reply) → tells → Spells line command
    → IfSome old.session (λ session. IsOpen session old.head) → IsServedImage new.history.present → Adds tells old.history.present command reply (needed_of old.session) old.head new.head
    → Saw new.history (moment old.history) entry.device old.head reply → Stood old entry → AreEnough old.session updates
    → Serves old new entry command (Ok reply) → Turned old new entry updates line reply
turned_command tells old new entry updates line command reply told spells ready served pages saw rep enough (now, is, after, turns) =
    let added = adds_device tells old.history.present entry command reply (needed_of old.session) old.head new.head told rep.there.device pages in
    let changes = changes_of old.session old.history.present entry.device entry.session old.head ready rep.there.session in
    let turn = turning entry.device entry.session command (old.capacity - old.head) (needed_of old.session) updates old.head new.head reply now enough changes.0 changes.1 is added in
    (now, inl (command, spells, turn.0, turn.1, turn.2, turn.3, refl), record { there = after; served = served }, turns, saw)

-- a reply that too few pages are free is true for so many updates as are enough
short_of : (tells : Type 0) (image : Image) (command : Command) (changes updates head capacity : ℕ) → changes ≤ 41 * updates → head ≤ capacity → LacksPages tells image command changes head capacity → IsShort command updates head capacity
short_of tells image (Format blocks order) changes updates head capacity enough within few = omega (arith, within, few)
short_of tells image (Write block content) changes updates head capacity enough within few = omega (arith, within, few)
short_of tells image Commit changes updates head capacity enough within few = omega (arith, enough, few)
short_of tells image Upgrade changes updates head capacity enough within (root, on, few) = omega (arith, few, root_most root on.within.in_range)
short_of tells image _ changes updates head capacity enough within few = absurd (omega (arith, few))

pub tells_short : (tells : Type 0) (image : Image) (old new : World) (line : List ℕ) (command : Command) (reply : Reply) → Spells line command → IsLater old new
    → (reply ≡ Full → LacksPages tells image command (needed_of old.session) new.head new.capacity) → TellsShort old new line reply
tells_short tells image old new line command reply spells later full updates enough e =
    (command, spells, short_of tells image command (needed_of old.session) updates new.head new.capacity enough later.within (full e))

stops_there : (tells : Type 0) (held : Option Session) (now : World) (line : List ℕ) (command : Command) (stop : DeviceStop) → Spells line command → MayStop tells held now.history.present now.head now.capacity command stop → IsStopAt tells ⊥ now [] (line ∷ []) stop
stops_there tells held now line command device.Platform spells may = inr (command, spells, (held, may))
stops_there tells held now line command device.BadRoot spells may = tt
stops_there tells held now line command device.Tape spells may = (command, spells, may)
stops_there tells held now line command device.Ledger spells may = (command, spells, may)
stops_there tells held now line command device.Memory spells may = (command, spells, (held, may))
stops_there tells held now line command (device.BadRecord addr) spells may = (command, spells, (held, may))

meets_there : (tells : Type 0) (held : Option Session) (now : World) (line : List ℕ) (command : Command) (stop : DeviceStop) → Spells line command → MayStop tells held now.history.present now.head now.capacity command stop → MeetsWith tells now (Err (stops.Device stop)) [] (line ∷ []) held
meets_there tells held now line command device.Platform spells may = tt
meets_there tells held now line command device.BadRoot spells may = tt
meets_there tells held now line command device.Tape spells may = tt
meets_there tells held now line command device.Ledger spells may = tt
meets_there tells held now line command device.Memory spells may = tt
meets_there tells held now line command (device.BadRecord addr) spells may = (command, spells, may)

-- what a stop leaves says nothing of the tape
pub halts_by : (old new : World) (drawn drawn_now : Option (List (List ℕ))) (entry : State) (command : Command) (stop : DeviceStop) → Halts old new entry command stop → Halts (drew_by drawn old) (drew_by drawn_now new) entry command stop
halts_by old new drawn drawn_now entry command device.Platform h = h
halts_by old new drawn drawn_now entry command device.Tape h = h
halts_by old new drawn drawn_now entry command device.Ledger h = h
halts_by old new drawn drawn_now entry command device.Memory h = h
halts_by old new drawn drawn_now entry command device.BadRoot h = h
halts_by old new drawn drawn_now entry command (device.BadRecord addr) h = h

-- a line that the device stopped at
pub Handled-stop : (tells : Type 0) (old new : World) (line : List ℕ) (command : Command) (stop : DeviceStop) (written : Option (List ℕ)) → Spells line command
    → IsLater old new → DrewUntil old.drawn (line ∷ []) [] new.drawn → (tells → Extends old.history new.history) → LeavesFew tells old.history.present stop command (needed_of old.session) old.head new.head
    → MayStop tells old.session new.history.present new.head new.capacity command stop
    → LooksOn tells old new (line ∷ []) [] (IsOk {T = Unit {0}} {E = Stop} (Err (stops.Device stop)))
    → (tells → IsServedImage new.history.present) → (tells → (entry : State) → Stood old entry → Halts old new entry command stop)
    → Handled tells ⊥ old new no_line (Err (stops.Device stop)) (line ∷ []) written written
Handled-stop tells old new line command stop written spells later drew extends added may looks served halts = record {
  put = [];
  got = Got-nothing written;
  replied = Replied-stop tells old new line command stop spells later drew extends added (stops_there tells old.session new line command stop spells may) (meets_there tells old.session new line command stop spells may) looks served halts;
}

-- ---- how many replies there are

pub count-then : (tells : Type 0) (old mid new : World) (last : DeviceStop → List ℕ) (ending : Ending) (lines more : List (List ℕ)) (a b c : Option (List ℕ))
    → (p : Handled tells ⊥ old mid last (Ok tt) lines a b) (q : Handled tells ⊥ mid new last ending more b c)
    → length p.replied.replies + length q.replied.replies ≤ length (Handled-then tells old mid new last ending lines more a b c p q).replied.replies
unfolding Handled-then Replied-then
count-then tells old mid new last ending lines more a b c p q = omega (arith, length-append p.replied.replies q.replied.replies)

pub count-cut : (tells : Type 0) (old new : World) (last : DeviceStop → List ℕ) (lines : List (List ℕ)) (a b : Option (List ℕ)) (p : Handled tells ⊥ old new last (Ok tt) lines a b)
    → (length p.replied.replies ≤ length (Handled-cut tells old new last lines a b p).0.replied.replies) × (length p.replied.replies ≤ length (Handled-cut tells old new last lines a b p).1.replied.replies)
unfolding Handled-cut Replied-cut stopped
count-cut tells old new last lines a b p = (omega arith, omega arith)
