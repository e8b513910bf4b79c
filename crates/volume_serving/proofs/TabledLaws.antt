-- Replies over a table, and stops at a line, behind other lines and before more of them.
use Rattle.std.proofs.Common.{◌≡◌, ◌≤◌, ◌<◌, ◌+◌, ◌-◌, ◌∙◌, ℕ, List, [], ◌∷◌, ◌++◌, Option, Some, Ok, Err, inl, inr, length, refl, sym, subst, arith}
use Rattle.platform.specs.Image.{Image}
use Rattle.platform.specs.History.{Extends, History, image_at, moment}
use Rattle.platform.proofs.Moments.{Extends-refl, Extends-trans, image_at-now}
use Rattle.device_course.specs.States.{IsLater, Outside}
use Rattle.device_session.specs.Open.{blocks_of, needed_by}
use Rattle.device_session.specs.Sessions.{Session}
use Rattle.line_run.specs.Stops.{Ending, IsOfLine}
use Rattle.line_run.specs.declared.stop.Stop.{Stop}
use Rattle.line_run.specs.declared.stop.Stop.TheVariants as stops
use Rattle.session_calls.specs.Damage.{IsMounted}
use Rattle.session_calls.specs.declared.stops.DeviceStop.{DeviceStop}
use Rattle.volume_table.specs.declared.volume.Volume.{Volume}
use Rattle.volume_lines.specs.Grammar.{Spells}
use Rattle.volume_lines.specs.Lines.{Line, Create, Read, Write, Trim, Destroy, Commit}
use Rattle.volume_lines.specs.Replies.{Reply, Uncommitted}
use Rattle.volume_desk.specs.Causes.{IsDone, LacksPages, Sizes, StopsAny, TurnsTable, sizes}
use Rattle.volume_desk.specs.Done.{Across, DoesAny, WasOver}
use Rattle.volume_desk.specs.Reads.{reads_for, reads_with}
use Rattle.volume_desk.proofs.DoneLaws.{does_follows, was_longer}
use Rattle.volume_serving.specs.Tabled.{AreTurnsOn, Did, IfNext, IfStopped, IsTurnOn, OnTables, Pause, ReadsOn, pause, paused}

-- ---- the line in hand

pub next_behind : (lines more : List (List ℕ)) (replies others : List Reply) (Claim : List ℕ → Type 0) → length replies ≡ length lines → IfNext others more Claim → IfNext (replies ++ others) (lines ++ more) Claim
next_behind [] more [] others Claim same next = next
next_behind [] more (r ∷ replies) others Claim same next = absurd (omega (arith, same))
next_behind (line ∷ lines) more [] others Claim same next = absurd (omega (arith, same))
next_behind (line ∷ lines) more (r ∷ replies) others Claim same next = next_behind lines more replies others Claim (omega (arith, same)) next

pub next_longer : (lines more : List (List ℕ)) (replies : List Reply) (Claim : List ℕ → Type 0) → IfNext replies lines Claim → IfNext replies (lines ++ more) Claim
next_longer [] more [] Claim next = absurd next
next_longer [] more (r ∷ replies) Claim next = absurd next
next_longer (line ∷ lines) more [] Claim next = next
next_longer (line ∷ lines) more (r ∷ replies) Claim next = next_longer lines more replies Claim next

pub if_stopped_behind : (Claim : DeviceStop → Line → Type 0) (lines more : List (List ℕ)) (replies others : List Reply) (ending : Ending) → length replies ≡ length lines → IfStopped Claim more others ending
    → IfStopped Claim (lines ++ more) (replies ++ others) ending
if_stopped_behind Claim lines more replies others (Ok done) same stopped = tt
if_stopped_behind Claim lines more replies others (Err stops.Source) same stopped = tt
if_stopped_behind Claim lines more replies others (Err stops.Limit) same stopped = tt
if_stopped_behind Claim lines more replies others (Err stops.Sink) same stopped = tt
if_stopped_behind Claim lines more replies others (Err (stops.Device stop)) same stopped = next_behind lines more replies others (λ text. (it : Line) × Spells text it × Claim stop it) same stopped

pub if_stopped_longer : (Claim : DeviceStop → Line → Type 0) (lines more : List (List ℕ)) (replies : List Reply) (stop : Stop) → IsOfLine stop → IfStopped Claim lines replies (Err stop) → IfStopped Claim (lines ++ more) replies (Err stop)
if_stopped_longer Claim lines more replies stops.Source line stopped = tt
if_stopped_longer Claim lines more replies stops.Limit line stopped = tt
if_stopped_longer Claim lines more replies stops.Sink line stopped = tt
if_stopped_longer Claim lines more replies (stops.Device stop) line stopped = next_longer lines more replies (λ text. (it : Line) × Spells text it × Claim stop it) stopped

-- ---- what the line in hand read

reads_behind : (reads : ℕ) (last : Pause) (lines more : List (List ℕ)) (replies others : List Reply) → length replies ≡ length lines → ReadsOn reads last more others → ReadsOn reads last (lines ++ more) (replies ++ others)
reads_behind reads last lines more replies others same (inl none) = inl none
reads_behind reads last lines more replies others same (inr next) = inr (next_behind lines more replies others (λ line. (it : Line) × Spells line it × (reads ≤ last.reads + reads_for last.table it)) same next)

reads_longer : (reads : ℕ) (last : Pause) (lines more : List (List ℕ)) (replies : List Reply) → ReadsOn reads last lines replies → ReadsOn reads last (lines ++ more) replies
reads_longer reads last lines more replies (inl none) = inl none
reads_longer reads last lines more replies (inr next) = inr (next_longer lines more replies (λ line. (it : Line) × Spells line it × (reads ≤ last.reads + reads_for last.table it)) next)

-- ---- with more pages

lacks_later : (blocks pages pages_now capacity needed : ℕ) (it : Line) → pages ≤ pages_now → LacksPages (sizes blocks pages capacity) needed it → LacksPages (sizes blocks pages_now capacity) needed it
lacks_later blocks pages pages_now capacity needed (Create name count) rises lacks = let full : capacity ≤ pages = lacks in omega (arith, rises, full)
lacks_later blocks pages pages_now capacity needed (Read name block) rises lacks = absurd lacks
lacks_later blocks pages pages_now capacity needed (Write name block content) rises lacks = let full : capacity ≤ pages = lacks in omega (arith, rises, full)
lacks_later blocks pages pages_now capacity needed (Trim name block) rises lacks = absurd lacks
lacks_later blocks pages pages_now capacity needed (Destroy name) rises lacks = let full : capacity ≤ pages = lacks in omega (arith, rises, full)
lacks_later blocks pages pages_now capacity needed Commit rises lacks = let short : capacity - pages < needed = lacks in omega (arith, rises, short)

done_later : (blocks pages pages_now capacity behind : ℕ) (it : Line) (reply : Reply) → pages ≤ pages_now → IsDone (sizes blocks pages capacity) behind it reply → IsDone (sizes blocks pages_now capacity) behind it reply
done_later blocks pages pages_now capacity behind (Destroy name) Uncommitted rises done = let short : capacity - pages < behind = done in omega (arith, rises, short)
done_later blocks pages pages_now capacity behind it reply rises done = done

turn_later : (blocks pages pages_now capacity needed behind : ℕ) (table next : List Volume) (it : Line) (reply : Reply) → pages ≤ pages_now → TurnsTable (sizes blocks pages capacity) needed behind table it reply next
    → TurnsTable (sizes blocks pages_now capacity) needed behind table it reply next
turn_later blocks pages pages_now capacity needed behind table next it reply rises (inl refused) = inl refused
turn_later blocks pages pages_now capacity needed behind table next it reply rises (inr (done, accepted, inl (is, same))) = inr (done, accepted, inl (done_later blocks pages pages_now capacity behind it reply rises is, same))
turn_later blocks pages pages_now capacity needed behind table next it reply rises (inr (done, accepted, inr (lacks, full, same))) =
    inr (done, accepted, inr (lacks_later blocks pages pages_now capacity needed it rises lacks, full, same))

on_later : (blocks pages pages_now capacity : ℕ) (DidSo Does : Pause → Line → Reply → Pause → Type 0) (here next : Pause) (line : List ℕ) (reply : Reply) → pages ≤ pages_now
    → ((it : Line) → DidSo here it reply next → Does here it reply next) → IsTurnOn (sizes blocks pages capacity) DidSo here line reply next → IsTurnOn (sizes blocks pages_now capacity) Does here line reply next
on_later blocks pages pages_now capacity DidSo Does here next line reply rises follows (inl (it, spelled, turn, did)) =
    inl (it, spelled, turn_later blocks pages pages_now capacity (needed_by here.session) (needed_by next.session) here.table next.table it reply rises turn, follows it did)
on_later blocks pages pages_now capacity DidSo Does here next line reply rises follows (inr bad) = inr bad

turns_later : (blocks pages pages_now capacity : ℕ) (DidSo Does : Pause → Line → Reply → Pause → Type 0) (here last : Pause) (lines : List (List ℕ)) (replies : List Reply) → pages ≤ pages_now
    → ((here : Pause) (it : Line) (reply : Reply) (next : Pause) → DidSo here it reply next → Does here it reply next) → AreTurnsOn (sizes blocks pages capacity) DidSo here lines replies last
    → AreTurnsOn (sizes blocks pages_now capacity) Does here lines replies last
turns_later blocks pages pages_now capacity DidSo Does here last lines [] rises follows turns = turns
turns_later blocks pages pages_now capacity DidSo Does here last [] (reply ∷ replies) rises follows turns = absurd turns
turns_later blocks pages pages_now capacity DidSo Does here last (line ∷ lines) (reply ∷ replies) rises follows (next, turn, turns) = (
  next,
  on_later blocks pages pages_now capacity DidSo Does here next line reply rises (λ it did. follows here it reply next did) turn,
  turns_later blocks pages pages_now capacity DidSo Does next last lines replies rises follows turns,
)

-- ---- what was found or left

-- what was so in a part of a run is so in the longer history
did_longer : (tells : Type 0) (blocks capacity : ℕ) (old new : History) (here : Pause) (it : Line) (reply : Reply) (next : Pause) → (tells → Extends old new) → Did tells blocks capacity old here it reply next → Did tells blocks capacity new here it reply next
did_longer tells blocks capacity old new here it reply next extends did told =
    let longer = extends told in
    let was = did told in
    let led = was.0 in
    let there : image_at new here.at ≡ image_at old here.at = longer.same here.at (omega (arith, led.later, led.within)) in
    let behind : image_at new next.at ≡ image_at old next.at = longer.same next.at led.within in (
      record { later = led.later; within = omega (arith, led.within, longer.later); mounted = subst (λ (i : Image). IsMounted i next.session) (sym behind) led.mounted; blocks = led.blocks; reads = led.reads },
      subst (λ (i : Image). TurnsTable (sizes blocks (length i.recorded) capacity) (needed_by here.session) (needed_by next.session) here.table it reply next.table) (sym behind) was.1,
      does_follows (Across (image_at old here.at) here.session (image_at old next.at) next.session) (λ Claim. WasOver here.at next.at old (Claim (image_at old here.at) here.session))
          (Across (image_at new here.at) here.session (image_at new next.at) next.session) (λ Claim. WasOver here.at next.at new (Claim (image_at new here.at) here.session)) here.table next.table reply it
          (λ Claim does. subst (λ (i : Image). Claim i here.session (image_at new next.at) next.session) (sym there) (subst (λ (i : Image). Claim (image_at old here.at) here.session i next.session) (sym behind) does))
          (λ Claim had. was_longer here.at next.at old new (Claim (image_at new here.at) here.session) longer led.within (subst (λ (i : Image). WasOver here.at next.at old (Claim i here.session)) (sym there) had)) was.2,
    )

-- what a line did is so of where it began and ended
pub did_now : (tells : Type 0) (blocks capacity : ℕ) (old new : History) (session now : Session) (table : List Volume) (it : Line) (reply : Reply) (next : List Volume) (reads reads_now : ℕ) → (tells → reads_now ≤ reads + reads_with table it reply) → (tells → Extends old new) → (tells → IsMounted new.present now) → blocks_of now ≡ blocks_of session
    → (tells → TurnsTable (sizes blocks (length new.present.recorded) capacity) (needed_by session) (needed_by now) table it reply next)
    → DoesAny (λ Claim. tells → Claim old.present session new.present now) (λ Claim. tells → WasOver (moment old) (moment new) new (Claim old.present session)) table reply it next
    → Did tells blocks capacity new (pause (moment old) session table reads) it reply (pause (moment new) now next reads_now)
did_now tells blocks capacity old new session now table it reply next reads reads_now few extends goes many turned does told =
    let longer = extends told in
    let there : image_at new (moment old) ≡ old.present = longer.same (moment old) (omega arith) ∙ image_at-now old (moment old) (omega arith) in
    let behind : image_at new (moment new) ≡ new.present = image_at-now new (moment new) (omega arith) in (
      record { later = longer.later; within = omega arith; mounted = subst (λ (i : Image). IsMounted i now) (sym behind) (goes told); blocks = many; reads = few told },
      subst (λ (i : Image). TurnsTable (sizes blocks (length i.recorded) capacity) (needed_by session) (needed_by now) table it reply next) (sym behind) (turned told),
      does_follows (λ Claim. tells → Claim old.present session new.present now) (λ Claim. tells → WasOver (moment old) (moment new) new (Claim old.present session)) (Across (image_at new (moment old)) session (image_at new (moment new)) now)
          (λ Claim. WasOver (moment old) (moment new) new (Claim (image_at new (moment old)) session)) table next reply it
          (λ Claim does. subst (λ (i : Image). Claim i session (image_at new (moment new)) now) (sym there) (subst (λ (i : Image). Claim old.present session i now) (sym behind) (does told)))
          (λ Claim had. subst (λ (i : Image). WasOver (moment old) (moment new) new (Claim i session)) (sym there) (had told)) does,
    )

-- ---- lines behind others, and more of them

turns_then : (here : Sizes) (DidSo : Pause → Line → Reply → Pause → Type 0) (start mid last : Pause) (lines more : List (List ℕ)) (replies others : List Reply) → length replies ≡ length lines → AreTurnsOn here DidSo start lines replies mid
    → AreTurnsOn here DidSo mid more others last → AreTurnsOn here DidSo start (lines ++ more) (replies ++ others) last
turns_then here DidSo start mid last [] more [] others same one two = subst (λ (p : Pause). AreTurnsOn here DidSo p more others last) one two
turns_then here DidSo start mid last [] more (reply ∷ replies) others same one two = absurd one
turns_then here DidSo start mid last (line ∷ lines) more [] others same one two = absurd (omega (arith, same))
turns_then here DidSo start mid last (line ∷ lines) more (reply ∷ replies) others same (next, turn, one) two = (next, turn, turns_then here DidSo next mid last lines more replies others (omega (arith, same)) one two)

turns_longer : (here : Sizes) (DidSo : Pause → Line → Reply → Pause → Type 0) (start last : Pause) (lines more : List (List ℕ)) (replies : List Reply) → AreTurnsOn here DidSo start lines replies last → AreTurnsOn here DidSo start (lines ++ more) replies last
turns_longer here DidSo start last lines more [] turns = turns
turns_longer here DidSo start last [] more (reply ∷ replies) turns = absurd turns
turns_longer here DidSo start last (line ∷ lines) more (reply ∷ replies) (next, turn, turns) = (next, turn, turns_longer here DidSo next last lines more replies turns)

pub tables_nothing : (tells : Type 0) (blocks : ℕ) (held : Session) (after : Option Session) (table : List Volume) (here : Outside) → after ≡ Some held → OnTables tells blocks (paused here held table) after table here here [] [] (Ok tt)
tables_nothing tells blocks held after table here is = record { last = paused here held table; extends = λ told. Extends-refl here.history; turns = refl; going = (held, is, refl); reads = λ told. inl (omega arith); stopped = tt }

pub tables_then : (tells : Type 0) (blocks : ℕ) (start : Pause) (between after : Option Session) (table_mid table_now : List Volume) (old mid new : Outside) (lines more : List (List ℕ)) (replies others : List Reply) (ending : Ending) → IsLater mid new → length replies ≡ length lines
    → OnTables tells blocks start between table_mid old mid lines replies (Ok tt) → ((held : Session) → between ≡ Some held → OnTables tells blocks (paused mid held table_mid) after table_now mid new more others ending)
    → OnTables tells blocks start after table_now old new (lines ++ more) (replies ++ others) ending
tables_then tells blocks start between after table_mid table_now old mid new lines more replies others ending later same one more_of =
    let here : Sizes = sizes blocks new.head new.capacity in
    let DidSo : Pause → Line → Reply → Pause → Type 0 = Did tells blocks new.capacity new.history in
    let held : Session = one.going.0 in
    let two = more_of held one.going.1 in
    let Later : Pause → Line → Reply → Pause → Type 0 = Did tells blocks mid.capacity new.history in
    let grown : AreTurnsOn (sizes blocks new.head mid.capacity) Later start lines replies one.last =
    turns_later blocks mid.head new.head mid.capacity (Did tells blocks mid.capacity mid.history) Later start one.last lines replies later.rises (λ p it reply next did. did_longer tells blocks mid.capacity mid.history new.history p it reply next two.extends did) one.turns in
    let first : AreTurnsOn here DidSo start lines replies one.last = subst (λ (n : ℕ). AreTurnsOn (sizes blocks new.head n) (Did tells blocks n new.history) start lines replies one.last) (sym later.capacity) grown in
    record {
      last = two.last;
      extends = λ told. Extends-trans old.history mid.history new.history (one.extends told) (two.extends told);
      turns = turns_then here DidSo start one.last two.last lines more replies others same first (subst (λ (p : Pause). AreTurnsOn here DidSo p more others two.last) (sym one.going.2) two.turns);
      going = two.going;
      reads = λ told. reads_behind new.reads two.last lines more replies others same (two.reads told);
      stopped = if_stopped_behind (λ (stop : DeviceStop) (it : Line). StopsAny tells new.history.present two.last.session blocks two.last.table it stop) lines more replies others ending same two.stopped;
    }

pub tables_longer : (tells : Type 0) (blocks : ℕ) (start : Pause) (after : Option Session) (table_now : List Volume) (old new : Outside) (lines more : List (List ℕ)) (replies : List Reply) (stop : Stop) → IsOfLine stop → OnTables tells blocks start after table_now old new lines replies (Err stop)
    → OnTables tells blocks start after table_now old new (lines ++ more) replies (Err stop)
tables_longer tells blocks start after table_now old new lines more replies stop line on = record {
  last = on.last;
  extends = on.extends;
  turns = turns_longer (sizes blocks new.head new.capacity) (Did tells blocks new.capacity new.history) start on.last lines more replies on.turns;
  going = tt;
  reads = λ told. reads_longer new.reads on.last lines more replies (on.reads told);
  stopped = if_stopped_longer (λ (stop : DeviceStop) (it : Line). StopsAny tells new.history.present on.last.session blocks on.last.table it stop) lines more replies stop line on.stopped;
}

-- from an earlier moment on
pub tables_since : (tells : Type 0) (blocks : ℕ) (start : Pause) (after : Option Session) (table_now : List Volume) (first second third : Outside) (lines : List (List ℕ)) (replies : List Reply) (ending : Ending) → (tells → Extends first.history second.history)
    → OnTables tells blocks start after table_now second third lines replies ending → OnTables tells blocks start after table_now first third lines replies ending
tables_since tells blocks start after table_now first second third lines replies ending extends on = record {
  last = on.last;
  extends = λ told. Extends-trans first.history second.history third.history (extends told) (on.extends told);
  turns = on.turns;
  going = on.going;
  reads = on.reads;
  stopped = on.stopped;
}

-- an input that failed behind lines, or its limit
pub tables_cut : (tells : Type 0) (blocks : ℕ) (start : Pause) (after : Option Session) (table_now : List Volume) (old new : Outside) (lines : List (List ℕ)) (replies : List Reply) → OnTables tells blocks start after table_now old new lines replies (Ok tt)
    → OnTables tells blocks start after table_now old new lines replies (Err stops.Source) × OnTables tells blocks start after table_now old new lines replies (Err stops.Limit)
tables_cut tells blocks start after table_now old new lines replies on =
    (record { last = on.last; extends = on.extends; turns = on.turns; going = tt; reads = on.reads; stopped = tt }, record { last = on.last; extends = on.extends; turns = on.turns; going = tt; reads = on.reads; stopped = tt })
