-- What a run says of lines that it handled adds up.
use Rattle.std.proofs.Common.{◌≡◌, ◌≤◌, ◌+◌, ℕ, List, [], ◌∷◌, ◌++◌, Option, None, Some, Result, Ok, Err, inl, inr, length, take, refl, sym, ap, subst, ◌∙◌, append_assoc, append-nil, length-append, arith}
use Rattle.std.specs.Prelude.{IfOk}
use Rattle.std.specs.List.{flat_map}
use Rattle.std.proofs.lemmas.List.Concat.{flat_map-append}
use Rattle.sdbt_base.specs.Arrays.{Device, closed}
use Rattle.sdbt_base.specs.Told.{Got, GotPart}
use Rattle.sdbt_base.proofs.ToldLaws.{Got-nothing, Got-then}
use Rattle.platform.specs.Image.{Image}
use Rattle.platform.specs.History.{Extends, History, moment}
use Rattle.platform.proofs.Moments.{Extends-refl, image_at-now}
use Rattle.device_course.specs.States.{IsLater, Outside}
use Rattle.device_course.proofs.MadeLaws.{made_again, made_start, made_then, shut}
use Rattle.device_session.specs.Open.{blocks_of, needed_by}
use Rattle.device_session.specs.Sessions.{Session}
use Rattle.line_run.specs.Puts.{HasPut, IsBehind, no_line}
use Rattle.line_run.specs.Stops.{Ending, IsOfLine}
use Rattle.line_run.specs.declared.stop.Stop.{Stop}
use Rattle.line_run.specs.declared.stop.Stop.TheVariants as stops
use Rattle.line_run.proofs.ReadingLaws.{Replying}
use Rattle.volume_serving.specs.Ran.{replies_in}
use Rattle.device_course.specs.Held.{Held, device_of}
use Rattle.device_course.specs.Leading.{Led, last_of, marks_of}
use Rattle.device_course.proofs.LeadingLaws.{last_of-append, leads_append, leads_longer}
use Rattle.std.proofs.lemmas.List.{map-append}
use Rattle.session_calls.specs.Damage.{IsMounted}
use Rattle.session_calls.specs.declared.stops.DeviceStop.{DeviceStop}
use Rattle.session_calls.specs.declared.stops.DeviceStop.TheVariants as device
use Rattle.volume_table.specs.declared.volume.Volume.{Volume}
use Rattle.volume_lines.specs.Grammar.{IsBad, Spells}
use Rattle.volume_lines.specs.Lines.{Line}
use Rattle.volume_lines.specs.Replies.{Reply, Bad, line_of}
use Rattle.volume_terms.specs.Turn.{Turn}
use Rattle.volume_terms.specs.Volumes.{IsTabled}
use Rattle.device_course.specs.Course.{MadeBetween}
use Rattle.volume_desk.specs.Causes.{Draws, StopsAny, TurnsTable, sizes}
use Rattle.volume_desk.specs.Done.{DoesAny, WasOver}
use Rattle.volume_desk.specs.Drawing.{DrewFor, tally}
use Rattle.volume_desk.specs.Reads.{reads_for, reads_with}
use Rattle.volume_desk.proofs.ReadLaws.{with_reply}
use Rattle.sdbt_base.specs.Rises.{MayRiseBy}
use Rattle.volume_desk.specs.Syncs.{changes_for, changes_with}
use Rattle.volume_desk.proofs.SyncLaws.{with_most}
use Rattle.volume_desk.specs.Turns.{HasPages, IsHeld, Served, Shows, Stopped, StopsAt}
use Rattle.volume_serving.specs.World.{World, IsOn}
use Rattle.volume_serving.specs.Handled.{ending_of, goes_on, AreMany, AreShown, EndsOn, Handled, OnLines, Replied}
use Rattle.volume_serving.specs.Drawing.{DrewUntil, tally_of}
use Rattle.volume_serving.specs.Syncing.{ChangesFew}
use Rattle.volume_serving.specs.Tabled.{Did, IfStopped, IsTurnOn, OnTables, Pause, ReadsOn, paused}
use Rattle.volume_serving.proofs.DrawingLaws.{until_bad, until_cut, until_line, until_longer, until_none, until_then}
use Rattle.volume_serving.proofs.SyncingLaws.{few_bad, few_cut, few_line, few_longer, few_nothing, few_then}
use Rattle.volume_serving.proofs.TabledLaws.{did_now, if_stopped_behind, if_stopped_longer, next_behind, next_longer, tables_cut, tables_longer, tables_nothing, tables_then}

-- ---- nothing

pub later_none : (here : Outside) → here.head ≤ here.capacity → IsLater here here
later_none here fits = record { capacity = refl; rises = omega arith; within = fits }

later_then : (first second third : Outside) → IsLater first second → IsLater second third → IsLater first third
later_then first second third one two = record { capacity = two.capacity ∙ one.capacity; rises = omega (arith, one.rises, two.rises); within = two.within }

on_nothing : (w : World) (entry : Held) → IsOn w.outside w.session w.table entry → OnLines w.outside w.outside w.session w.table entry [] [] [] (Ok tt)
on_nothing w entry on = record {
  ahead = [];
  led = record {
    states = [];
    leads = tt;
    made = made_start w.outside.history None (closed (Some entry.device)) (shut w.outside.history.present (Some entry.device) on.held.at.there.device on.held.at.served);
  };
  ends = (refl, on);
  pages = tt;
  shown = tt;
}

pub handled_nothing : (tells : Type 0) (blocks : ℕ) (w : World) (written : Option (List ℕ)) → w.outside.head ≤ w.outside.capacity → Handled tells blocks w w (Ok tt) [] written written
handled_nothing tells blocks w written fits = record {
  put = [];
  got = Got-nothing written;
  replied = record { replies = []; part = []; put_is = refl; behind = refl; many = refl; tables = λ held is. tables_nothing tells blocks held w.session w.table w.outside is; drew = until_none (tally_of w.outside) []; changes = λ told. few_nothing w.changes; later = later_none w.outside fits; led = λ told entry on. on_nothing w entry on };
}

-- ---- lines behind others

many_then : (one two lines more : ℕ) (ending : Ending) → one ≡ lines → AreMany two more ending → AreMany (one + two) (lines + more) ending
many_then one two lines more (Ok done) same many = omega (arith, same, many)
many_then one two lines more (Err stops.Source) same many = omega (arith, same, many)
many_then one two lines more (Err stops.Limit) same many = omega (arith, same, many)
many_then one two lines more (Err (stops.Device stop)) same many = omega (arith, same, many)
many_then one two lines more (Err stops.Sink) same many = omega (arith, same, many)

ends_behind : (new : World) (capacity : ℕ) (last : Held) (lines more : List (List ℕ)) (replies others : List Reply) (part : List ℕ) (ahead : List Held) (ending : Ending) → length replies ≡ length lines
    → EndsOn new.outside new.session new.table capacity last more others part ahead ending → EndsOn new.outside new.session new.table capacity last (lines ++ more) (replies ++ others) part ahead ending
ends_behind new capacity last lines more replies others part ahead (Ok done) same ends = ends
ends_behind new capacity last lines more replies others part ahead (Err stops.Source) same ends = ends
ends_behind new capacity last lines more replies others part ahead (Err stops.Limit) same ends = ends
ends_behind new capacity last lines more replies others part ahead (Err stops.Sink) same (reply, next, is, first, turn) =
    (reply, next, is, first, next_behind lines more replies others (λ line. Turn capacity last line reply next) same turn)
ends_behind new capacity last lines more replies others part ahead (Err (stops.Device device.Platform)) same (inl none) = inl none
ends_behind new capacity last lines more replies others part ahead (Err (stops.Device device.Platform)) same (inr (reply, next, is, turn)) =
    inr (reply, next, is, next_behind lines more replies others (λ line. Turn capacity last line reply next) same turn)
ends_behind new capacity last lines more replies others part ahead (Err (stops.Device device.Tape)) same ends = ends
ends_behind new capacity last lines more replies others part ahead (Err (stops.Device device.Ledger)) same ends = ends
ends_behind new capacity last lines more replies others part ahead (Err (stops.Device device.Memory)) same ends = ends
ends_behind new capacity last lines more replies others part ahead (Err (stops.Device device.BadRoot)) same ends = absurd ends
ends_behind new capacity last lines more replies others part ahead (Err (stops.Device (device.BadRecord addr))) same ends = absurd ends

-- from an earlier moment on
pub shown_from : (new : History) (low from : ℕ) (replies : List Reply) (states : List Held) → low ≤ from → AreShown new from replies states → AreShown new low replies states
shown_from new low from [] [] below shown = tt
shown_from new low from [] (state ∷ states) below shown = absurd shown
shown_from new low from (r ∷ replies) [] below shown = absurd shown
shown_from new low from (r ∷ replies) (state ∷ states) below (at, above, until, shows, more) = (at, omega (arith, below, above), until, shows, more)

-- replies, and those behind them
shown_then : (mid new : History) (from : ℕ) (replies others : List Reply) (states thens : List Held) → Extends mid new → from ≤ moment mid → AreShown mid from replies states → AreShown new (moment mid) others thens
    → AreShown new from (replies ++ others) (states ++ thens)
shown_then mid new from [] others [] thens extends within one two = shown_from new from (moment mid) others thens within two
shown_then mid new from [] others (state ∷ states) thens extends within one two = absurd one
shown_then mid new from (r ∷ replies) others [] thens extends within one two = absurd one
shown_then mid new from (r ∷ replies) others (state ∷ states) thens extends within (at, above, until, shows, more) two = (
  at,
  above,
  omega (arith, until, extends.later),
  subst (λ (image : Image). Shows image r state) (sym (extends.same at until)) shows,
  shown_then mid new at replies others states thens extends until more two,
)

made_behind : (first second third : History) (entry between last : Device) (one two : List (Option Device)) → MadeBetween first second entry one between → MadeBetween second third between two last → MadeBetween first third entry (one ++ two) last
made_behind first second third entry between last one two a b =
    made_then first second third None None (closed (Some entry)) (closed (Some between)) (closed (Some last)) one two a b

-- ahead of lines that all have replies is nothing
pub led_whole : (capacity : ℕ) (old new : History) (entry : Held) (lines : List (List ℕ)) (replies : List Reply) (ahead : List Held) → ahead ≡ [] → Led (Turn capacity) device_of (MadeBetween old new) entry lines replies ahead
    → Led (Turn capacity) device_of (MadeBetween old new) entry lines replies []
led_whole capacity old new entry lines replies ahead none led = subst (λ (a : List Held). Led (Turn capacity) device_of (MadeBetween old new) entry lines replies a) none led

-- one part after another, with the states of both
led_both : (capacity : ℕ) (old mid new : History) (entry : Held) (lines more : List (List ℕ)) (replies others : List Reply) (ahead : List Held) → length replies ≡ length lines
    → (one : Led (Turn capacity) device_of (MadeBetween old mid) entry lines replies []) → (two : Led (Turn capacity) device_of (MadeBetween mid new) (last_of entry one.states) more others ahead)
    → (led : Led (Turn capacity) device_of (MadeBetween old new) entry (lines ++ more) (replies ++ others) ahead) × (led.states ≡ one.states ++ two.states)
led_both capacity old mid new entry lines more replies others ahead same one two =
    let all : List Held = one.states ++ (two.states ++ ahead) in
    let end : Device = (last_of (last_of entry one.states) (two.states ++ ahead)).device in
    let first_part : MadeBetween old mid entry.device (marks_of device_of one.states) (last_of entry one.states).device =
    subst (λ (states : List Held). MadeBetween old mid entry.device (marks_of device_of states) (last_of entry states).device) (append-nil one.states) one.made in
    let both : MadeBetween old new entry.device (marks_of device_of one.states ++ marks_of device_of (two.states ++ ahead)) end =
    made_behind old mid new entry.device (last_of entry one.states).device end (marks_of device_of one.states) (marks_of device_of (two.states ++ ahead)) first_part two.made in
    let marks : MadeBetween old new entry.device (marks_of device_of all) end =
    subst (λ (ms : List (Option Device)). MadeBetween old new entry.device ms end) (sym (map-append (λ (h : Held). Some (device_of h)) one.states (two.states ++ ahead))) both in
    let last : MadeBetween old new entry.device (marks_of device_of all) (last_of entry all).device =
    subst (λ (h : Held). MadeBetween old new entry.device (marks_of device_of all) h.device) (sym (last_of-append entry one.states (two.states ++ ahead))) marks in (
      record {
        states = one.states ++ two.states;
        leads = leads_append (Turn capacity) entry lines more replies others one.states two.states same one.leads two.leads;
        made = subst (λ (states : List Held). MadeBetween old new entry.device (marks_of device_of states) (last_of entry states).device) (sym (append_assoc one.states two.states ahead)) last;
      },
      refl,
    )

on_then : (old mid new : World) (entry : Held) (lines more : List (List ℕ)) (replies others : List Reply) (part : List ℕ) (ending : Ending) → mid.outside.capacity ≡ old.outside.capacity → length replies ≡ length lines
    → OnLines old.outside mid.outside mid.session mid.table entry lines replies [] (Ok tt) → ((last : Held) → IsOn mid.outside mid.session mid.table last → OnLines mid.outside new.outside new.session new.table last more others part ending) → OnLines old.outside new.outside new.session new.table entry (lines ++ more) (replies ++ others) part ending
on_then old mid new entry lines more replies others part ending capacity same one two =
    let start : ℕ = moment old.outside.history in
    let between : ℕ = moment mid.outside.history in
    let H : List Held → Type 0 = λ a. (led : Led (Turn old.outside.capacity) device_of (MadeBetween old.outside.history mid.outside.history) entry lines replies a) × IsOn mid.outside mid.session mid.table (last_of entry led.states)
    × AreShown mid.outside.history start replies led.states in
    let first = subst H one.ends.0 (one.led, one.ends.1, one.shown) in
    let led = first.0 in
    let last : Held = last_of entry led.states in
    let next = two last first.1 in
    let C : ℕ → Type 0 = λ n. (led : Led (Turn n) device_of (MadeBetween mid.outside.history new.outside.history) last more others next.ahead) × EndsOn new.outside new.session new.table n (last_of last led.states) more others part next.ahead ending
    × AreShown new.outside.history between others led.states × IfStopped (λ (stop : DeviceStop) (it : Line). HasPages n (last_of last led.states) it) more others ending in
    let second = subst C capacity (next.led, next.ends, next.shown, next.pages) in
    let all = led_both old.outside.capacity old.outside.history mid.outside.history new.outside.history entry lines more replies others next.ahead same led second.0 in
    record {
      ahead = next.ahead;
      led = all.0;
      ends = subst (λ (h : Held). EndsOn new.outside new.session new.table old.outside.capacity h (lines ++ more) (replies ++ others) part next.ahead ending)
          (sym (ap (λ (states : List Held). last_of entry states) all.1 ∙ last_of-append entry led.states second.0.states))
          (ends_behind new old.outside.capacity (last_of last second.0.states) lines more replies others part next.ahead ending same second.1);
      pages = subst (λ (h : Held). IfStopped (λ (stop : DeviceStop) (it : Line). HasPages old.outside.capacity h it) (lines ++ more) (replies ++ others) ending)
          (sym (ap (λ (states : List Held). last_of entry states) all.1 ∙ last_of-append entry led.states second.0.states))
          (if_stopped_behind (λ (stop : DeviceStop) (it : Line). HasPages old.outside.capacity (last_of last second.0.states) it) lines more replies others ending same second.3);
      shown = subst (λ (states : List Held). AreShown new.outside.history start (replies ++ others) states) (sym all.1)
          (shown_then mid.outside.history new.outside.history start replies others led.states second.0.states second.0.made.passes.extends led.made.passes.extends.later first.2 second.2);
    }

pub replied_then : (tells : Type 0) (blocks : ℕ) (old mid new : World) (ending : Ending) (lines more : List (List ℕ)) (put others : List ℕ) → Replied tells blocks old mid (Ok tt) lines put → Replied tells blocks mid new ending more others
    → Replied tells blocks old new ending (lines ++ more) (put ++ others)
replied_then tells blocks old mid new ending lines more put others one two =
    let first : put ≡ flat_map line_of one.replies = one.put_is ∙ ap (λ (l : List ℕ). flat_map line_of one.replies ++ l) one.behind ∙ append-nil (flat_map line_of one.replies) in
    record {
      replies = one.replies ++ two.replies;
      part = two.part;
      put_is = ap (λ (l : List ℕ). l ++ others) first ∙ ap (λ (l : List ℕ). flat_map line_of one.replies ++ l) two.put_is ∙ sym (append_assoc (flat_map line_of one.replies) (flat_map line_of two.replies) two.part)
          ∙ ap (λ (l : List ℕ). l ++ two.part) (sym (flat_map-append line_of one.replies two.replies));
      behind = two.behind;
      many = subst (λ (n : ℕ). AreMany n (length (lines ++ more)) ending) (sym (length-append one.replies two.replies))
          (subst (λ (n : ℕ). AreMany (length one.replies + length two.replies) n ending) (sym (length-append lines more)) (many_then (length one.replies) (length two.replies) (length lines) (length more) ending one.many two.many));
      tables = λ held is. tables_then tells blocks (paused old.outside held old.table) mid.session new.session mid.table new.table old.outside mid.outside new.outside lines more one.replies two.replies ending two.later one.many
          (one.tables held is) two.tables;
      drew = until_then (tally_of old.outside) (tally_of mid.outside) (tally_of new.outside) lines more one.replies two.replies one.many one.drew two.drew;
      changes = λ told. few_then old.changes mid.changes new.changes lines more one.replies two.replies one.many (one.changes told) (two.changes told);
      later = later_then old.outside mid.outside new.outside one.later two.later;
      led = λ told entry on. on_then old mid new entry lines more one.replies two.replies two.part ending one.later.capacity one.many
          (subst (λ (p : List ℕ). OnLines old.outside mid.outside mid.session mid.table entry lines one.replies p (Ok tt)) one.behind (one.led told entry on)) (λ last there. two.led told last there);
    }

pub handled_then : (tells : Type 0) (blocks : ℕ) (old mid new : World) (ending : Ending) (lines more : List (List ℕ)) (a b c : Option (List ℕ)) → Handled tells blocks old mid (Ok tt) lines a b → Handled tells blocks mid new ending more b c
    → Handled tells blocks old new ending (lines ++ more) a c
handled_then tells blocks old mid new ending lines more a b c p q = record {
  put = p.put ++ q.put;
  got = Got-then a p.put b q.put c p.got q.got;
  replied = replied_then tells blocks old mid new ending lines more p.put q.put p.replied q.replied;
}

-- ---- lines that a stop left

many_longer : (replies lines more : ℕ) (stop : Stop) → IsOfLine stop → AreMany replies lines (Err stop) → AreMany replies (lines + more) (Err stop)
many_longer replies lines more stops.Source line many = absurd line
many_longer replies lines more stops.Limit line many = absurd line
many_longer replies lines more stops.Sink line many = omega (arith, many)
many_longer replies lines more (stops.Device stop) line many = omega (arith, many)

ends_longer : (new : World) (capacity : ℕ) (last : Held) (lines more : List (List ℕ)) (replies : List Reply) (part : List ℕ) (ahead : List Held) (stop : Stop) → IsOfLine stop
    → EndsOn new.outside new.session new.table capacity last lines replies part ahead (Err stop) → EndsOn new.outside new.session new.table capacity last (lines ++ more) replies part ahead (Err stop)
ends_longer new capacity last lines more replies part ahead stops.Source line ends = absurd line
ends_longer new capacity last lines more replies part ahead stops.Limit line ends = absurd line
ends_longer new capacity last lines more replies part ahead stops.Sink line (reply, next, is, first, turn) = (reply, next, is, first, next_longer lines more replies (λ l. Turn capacity last l reply next) turn)
ends_longer new capacity last lines more replies part ahead (stops.Device device.Platform) line (inl none) = inl none
ends_longer new capacity last lines more replies part ahead (stops.Device device.Platform) line (inr (reply, next, is, turn)) = inr (reply, next, is, next_longer lines more replies (λ l. Turn capacity last l reply next) turn)
ends_longer new capacity last lines more replies part ahead (stops.Device device.Tape) line ends = ends
ends_longer new capacity last lines more replies part ahead (stops.Device device.Ledger) line ends = ends
ends_longer new capacity last lines more replies part ahead (stops.Device device.Memory) line ends = ends
ends_longer new capacity last lines more replies part ahead (stops.Device device.BadRoot) line ends = absurd ends
ends_longer new capacity last lines more replies part ahead (stops.Device (device.BadRecord addr)) line ends = absurd ends

on_longer : (old new : World) (entry : Held) (lines more : List (List ℕ)) (replies : List Reply) (part : List ℕ) (stop : Stop) → IsOfLine stop → OnLines old.outside new.outside new.session new.table entry lines replies part (Err stop) → OnLines old.outside new.outside new.session new.table entry (lines ++ more) replies part (Err stop)
on_longer old new entry lines more replies part stop line on = record {
  ahead = on.ahead;
  led = record { states = on.led.states; leads = leads_longer (Turn old.outside.capacity) entry lines more replies on.led.states on.led.leads; made = on.led.made };
  ends = ends_longer new old.outside.capacity (last_of entry on.led.states) lines more replies part on.ahead stop line on.ends;
  pages = if_stopped_longer (λ (stop : DeviceStop) (it : Line). HasPages old.outside.capacity (last_of entry on.led.states) it) lines more replies stop line on.pages;
  shown = on.shown;
}

pub handled_longer : (tells : Type 0) (blocks : ℕ) (old new : World) (stop : Stop) (lines more : List (List ℕ)) (a b : Option (List ℕ)) → IsOfLine stop → Handled tells blocks old new (Err stop) lines a b → Handled tells blocks old new (Err stop) (lines ++ more) a b
handled_longer tells blocks old new stop lines more a b line p =
    let r = p.replied in
    record {
      put = p.put;
      got = p.got;
      replied = record {
        replies = r.replies;
        part = r.part;
        put_is = r.put_is;
        behind = r.behind;
        many = subst (λ (n : ℕ). AreMany (length r.replies) n (Err stop)) (sym (length-append lines more)) (many_longer (length r.replies) (length lines) (length more) stop line r.many);
        tables = λ held is. tables_longer tells blocks (paused old.outside held old.table) new.session new.table old.outside new.outside lines more r.replies stop line (r.tables held is);
        drew = until_longer (tally_of old.outside) (tally_of new.outside) lines more r.replies r.drew;
        changes = λ told. few_longer old.changes new.changes lines more r.replies (r.changes told);
        later = r.later;
        led = λ told entry on. on_longer old new entry lines more r.replies r.part stop line (r.led told entry on);
      };
    }

-- over as many blocks
pub handled_of : (tells : Type 0) (blocks same : ℕ) (old new : World) (ending : Ending) (lines : List (List ℕ)) (a b : Option (List ℕ)) → same ≡ blocks → Handled tells same old new ending lines a b → Handled tells blocks old new ending lines a b
handled_of tells blocks same old new ending lines a b is handled = subst (λ (n : ℕ). Handled tells n old new ending lines a b) is handled

-- ---- one line

-- from a state it leads to the next one
pub record IsTurn (old : World) (image : Image) (head : ℕ) (now : Session) (table_now : List Volume) (history : History) (entry : Held) (text : List ℕ) (reply : Reply) : Type 0 where
  pub next : Held
  pub held : IsHeld image head now table_now next
  pub turn : Turn old.outside.capacity entry text reply next
  pub made : MadeBetween old.outside.history history entry.device (Some next.device ∷ []) next.device
  pub shows : Shows image reply next

-- a line outside the grammar leaves all
pub bad_turn : (old : World) (session : Session) (entry : Held) (text : List ℕ) → old.session ≡ Some session → IsBad text → IsOn old.outside old.session old.table entry
    → IsTurn old old.outside.history.present old.outside.head session old.table old.outside.history entry text Bad
bad_turn old session entry text going bad on =
    let same : on.session ≡ session = let e : Some on.session ≡ Some session = sym on.going ∙ going in cc in
    let there : IsHeld old.outside.history.present old.outside.head session old.table entry = subst (λ (s : Session). IsHeld old.outside.history.present old.outside.head s old.table entry) same on.held in
    record {
      next = entry;
      held = there;
      turn = inr (bad, refl, refl);
      made = made_again old.outside.history old.outside.history entry.device
          (made_start old.outside.history None (closed (Some entry.device)) (shut old.outside.history.present (Some entry.device) there.at.there.device there.at.served));
      shows = record { stands = there.at.there.device; settled = tt };
    }

-- one in the grammar is served
pub served_turn : (old : World) (new : Outside) (session now : Session) (table_now : List Volume) (entry : Held) (text : List ℕ) (it : Line) (reply : Reply) → old.session ≡ Some session → Spells text it → IsOn old.outside old.session old.table entry
    → (IsHeld old.outside.history.present old.outside.head session old.table entry → Served old.outside new old.table table_now now entry it reply)
    → IsTurn old new.history.present new.head now table_now new.history entry text reply
served_turn old new session now table_now entry text it reply going spelled on serves =
    let same : on.session ≡ session = let e : Some on.session ≡ Some session = sym on.going ∙ going in cc in
    let there : IsHeld old.outside.history.present old.outside.head session old.table entry = subst (λ (s : Session). IsHeld old.outside.history.present old.outside.head s old.table entry) same on.held in
    let served = serves there in
    record {
      next = served.next;
      held = served.held;
      turn = inl (record { it = it; spelled = spelled; table = old.table; tabled = there.tabled; serves = served.serves });
      made = served.made;
      shows = record { stands = served.held.at.there.device; settled = served.settled };
    }

-- the moment behind it
shown_one : (old new : History) (reply : Reply) (next : Held) → moment old ≤ moment new → Shows new.present reply next → AreShown new (moment old) (reply ∷ []) (next ∷ [])
shown_one old new reply next later shows = (moment new, later, omega arith, subst (λ (image : Image). Shows image reply next) (sym (image_at-now new (moment new) (omega arith))) shows, tt)

-- what is said of it and its reply on any pages: it is one over the table, what a content is, which keys it drew, how many pages it read, and how often it synced, whether the reply is put or not
pub record SaysOf (tells : Type 0) (blocks : ℕ) (old : World) (now : Session) (table_now : List Volume) (new : Outside) (changes_now : ℕ) (text : List ℕ) (reply : Reply) : Type 0 where
  pub extends : tells → Extends old.outside.history new.history
  pub turn : (held : Session) → old.session ≡ Some held
      → IsTurnOn (sizes blocks new.head new.capacity) (Did tells blocks new.capacity new.history) (paused old.outside held old.table) text reply (paused new now table_now)
  pub drew : DrewUntil (tally_of old.outside) (text ∷ []) (reply ∷ []) (tally_of new)
  pub cut : DrewUntil (tally_of old.outside) (text ∷ []) [] (tally_of new)
  pub read : tells → (held : Session) → ReadsOn new.reads (paused old.outside held old.table) (text ∷ []) []
  pub changes : tells → ChangesFew old.changes changes_now (text ∷ []) (reply ∷ [])
  pub cut_changes : tells → ChangesFew old.changes changes_now (text ∷ []) []

-- the session that is held is one
same_held : (old : World) (session held : Session) → old.session ≡ Some session → old.session ≡ Some held → session ≡ held
same_held old session held going is = let e : Some session ≡ Some held = sym going ∙ is in cc

-- a line outside the grammar
pub bad_says : (tells : Type 0) (blocks : ℕ) (old : World) (session : Session) (text : List ℕ) → old.session ≡ Some session → IsBad text → SaysOf tells blocks old session old.table old.outside old.changes text Bad
bad_says tells blocks old session text going bad = record {
  extends = λ told. Extends-refl old.outside.history;
  turn = λ held is. inr (bad, refl, ap (λ (s : Session). paused old.outside s old.table) (same_held old session held going is));
  drew = until_bad (tally_of old.outside) text bad;
  cut = until_none (tally_of old.outside) (text ∷ []);
  read = λ told held. inl (omega arith);
  changes = λ told. few_bad old.changes text (Bad ∷ []);
  cut_changes = λ told. few_bad old.changes text [];
}

-- a line that draws no key leaves the tally
pub still_of : {T : Type 0} (draws : T → Option (List (List ℕ))) (tape tape_now : T) (pages pages_now : ℕ) (it : Line) → ((Draws it → ⊥) → tape_now ≡ tape) → ((Draws it → ⊥) → pages_now ≡ pages) → (Draws it → ⊥)
    → tally (draws tape_now) pages_now ≡ tally (draws tape) pages
still_of draws tape tape_now pages pages_now it undrawn unadded none = λ k. tally (draws (undrawn none k)) (unadded none k)

-- a line that was answered, as one that is cut short
may_stop : (it : Line) (reply : Reply) (old new : ℕ) → MayRiseBy (changes_with it reply) old new → MayRiseBy (changes_for it) old new
may_stop it reply old new may =
    let rises = may.rises in
    let at_most = may.at_most in
    record { rises = rises; at_most = omega (arith, at_most, with_most it reply) }

-- one in the grammar, by what the desk says of it
pub served_says : (tells : Type 0) (blocks : ℕ) (old : World) (session now : Session) (table_now : List Volume) (new : Outside) (changes_now : ℕ) (text : List ℕ) (it : Line) (reply : Reply) → old.session ≡ Some session → Spells text it → (tells → Extends old.outside.history new.history)
    → (tells → IsMounted new.history.present now) → blocks_of now ≡ blocks_of session → TurnsTable (sizes blocks new.head new.capacity) (needed_by session) (needed_by now) old.table it reply table_now
    × DoesAny (λ Claim. tells → Claim old.outside.history.present session new.history.present now) (λ Claim. tells → WasOver (moment old.outside.history) (moment new.history) new.history (Claim old.outside.history.present session)) old.table reply it table_now
    → DrewFor (tally_of old.outside) it reply (tally_of new) → ((Draws it → ⊥) → tally_of new ≡ tally_of old.outside) → (tells → new.reads ≤ old.outside.reads + reads_with old.table it reply)
    → (tells → MayRiseBy (changes_with it reply) old.changes changes_now) → (tells → length new.history.present.recorded ≡ new.head) → SaysOf tells blocks old now table_now new changes_now text reply
served_says tells blocks old session now table_now new changes_now text it reply going spelled extends goes blocks_same any drew still few may pages = record {
  extends = extends;
  turn = λ held is. subst (λ (s : Session). IsTurnOn (sizes blocks new.head new.capacity) (Did tells blocks new.capacity new.history) (paused old.outside s old.table) text reply (paused new now table_now)) (same_held old session held going is)
      (inl (
        it,
        spelled,
        any.0,
        did_now tells blocks new.capacity old.outside.history new.history session now old.table it reply table_now old.outside.reads new.reads few extends goes blocks_same
            (λ told. subst (λ (n : ℕ). TurnsTable (sizes blocks n new.capacity) (needed_by session) (needed_by now) old.table it reply table_now) (sym (pages told)) any.0) any.1,
      ));
  drew = until_line (tally_of old.outside) (tally_of new) text it reply spelled drew;
  cut = until_cut (tally_of old.outside) (tally_of new) text it drew.0 spelled still drew.2.drew;
  read = λ told held. inr (it, spelled, omega (arith, few told, with_reply old.table it reply));
  changes = λ told. few_line old.changes changes_now text it reply spelled (may told);
  cut_changes = λ told. few_cut old.changes changes_now text it spelled (may_stop it reply old.changes changes_now (may told));
}

-- its reply is put
pub line_put : (tells : Type 0) (blocks : ℕ) (old new : World) (now : Session) (text : List ℕ) (reply : Reply) (a b : Option (List ℕ)) → new.session ≡ Some now → IsLater old.outside new.outside
    → SaysOf tells blocks old now new.table new.outside new.changes text reply
    → (tells → (entry : Held) → IsOn old.outside old.session old.table entry → IsTurn old new.outside.history.present new.outside.head now new.table new.outside.history entry text reply) → Got a (line_of reply) b
    → Handled tells blocks old new (Ok tt) (text ∷ []) a b
line_put tells blocks old new now text reply a b going later says turns got = record {
  put = line_of reply;
  got = got;
  replied = record {
    replies = reply ∷ [];
    part = [];
    put_is = sym (append-nil (line_of reply ++ []) ∙ append-nil (line_of reply));
    behind = refl;
    many = refl;
    tables = λ held is. let behind : Pause = paused new.outside now new.table in record { last = behind; extends = says.extends; turns = (behind, says.turn held is, refl); going = (now, going, refl); reads = λ told. inl (omega arith); stopped = tt };
    drew = says.drew;
    changes = says.changes;
    later = later;
    led = λ told entry on.
        let t = turns told entry on in
        record {
          ahead = [];
          led = record { states = t.next ∷ []; leads = (t.turn, tt); made = t.made };
          ends = (refl, record { session = now; going = going; held = t.held });
          pages = tt;
          shown = shown_one old.outside.history new.outside.history reply t.next t.made.passes.extends.later t.shows;
        };
  };
}

-- or only a part of it
pub line_cut : (tells : Type 0) (blocks : ℕ) (old new : World) (now : Session) (image : Image) (head : ℕ) (table_now : List Volume) (text : List ℕ) (reply : Reply) (a b : Option (List ℕ)) → IsLater old.outside new.outside
    → SaysOf tells blocks old now table_now new.outside new.changes text reply
    → (tells → (entry : Held) → IsOn old.outside old.session old.table entry → IsTurn old image head now table_now new.outside.history entry text reply) → GotPart a (line_of reply) b
    → Handled tells blocks old new (Err stops.Sink) (text ∷ []) a b
line_cut tells blocks old new now image head table_now text reply a b later says turns (n, got) = record {
  put = take n (line_of reply);
  got = got;
  replied = record {
    replies = [];
    part = take n (line_of reply);
    put_is = refl;
    behind = inl (reply, (n, refl));
    many = omega arith;
    tables = λ held is. record { last = paused old.outside held old.table; extends = says.extends; turns = refl; going = tt; reads = λ told. says.read told held; stopped = tt };
    drew = says.cut;
    changes = says.cut_changes;
    later = later;
    led = λ told entry on.
        let t = turns told entry on in
        record {
          ahead = t.next ∷ [];
          led = record { states = []; leads = tt; made = t.made };
          ends = (reply, t.next, refl, (n, refl), t.turn);
          pages = tt;
          shown = tt;
        };
  };
}

stop_ends : (new : World) (capacity : ℕ) (table : List Volume) (entry : Held) (text : List ℕ) (it : Line) (ahead : List Held) (stop : DeviceStop) → Spells text it → IsTabled entry table → StopsAt capacity table entry it ahead stop
    → EndsOn new.outside new.session new.table capacity entry (text ∷ []) [] [] ahead (Err (stops.Device stop))
stop_ends new capacity table entry text it ahead device.Platform spelled tabled (inl none) = inl none
stop_ends new capacity table entry text it ahead device.Platform spelled tabled (inr (reply, next, is, serves)) =
    inr (reply, next, is, inl (record { it = it; spelled = spelled; table = table; tabled = tabled; serves = serves }))
stop_ends new capacity table entry text it ahead device.Tape spelled tabled is = is
stop_ends new capacity table entry text it ahead device.Ledger spelled tabled is = is
stop_ends new capacity table entry text it ahead device.Memory spelled tabled is = is
stop_ends new capacity table entry text it ahead device.BadRoot spelled tabled is = absurd is
stop_ends new capacity table entry text it ahead (device.BadRecord addr) spelled tabled is = absurd is

-- the device stopped at it
pub line_stop : (tells : Type 0) (blocks : ℕ) (old new : World) (session : Session) (text : List ℕ) (it : Line) (stop : DeviceStop) (a : Option (List ℕ)) → old.session ≡ Some session → Spells text it
    → StopsAny tells new.outside.history.present session blocks old.table it stop → IsLater old.outside new.outside → (tells → Extends old.outside.history new.outside.history) → DrewUntil (tally_of old.outside) (text ∷ []) [] (tally_of new.outside)
    → (tells → new.outside.reads ≤ old.outside.reads + reads_for old.table it)
    → (tells → MayRiseBy (changes_for it) old.changes new.changes)
    → (tells → (entry : Held) → IsHeld old.outside.history.present old.outside.head session old.table entry → Stopped old.outside new.outside old.table entry it stop)
    → Handled tells blocks old new (Err (stops.Device stop)) (text ∷ []) a a
line_stop tells blocks old new session text it stop a going spelled may later extends drew few syncs stopped = record {
  put = [];
  got = Got-nothing a;
  replied = record {
    replies = [];
    part = [];
    put_is = refl;
    behind = refl;
    many = omega arith;
    tables = λ held is.
        let same : session ≡ held = same_held old session held going is in
        let may_held = subst (λ (s : Session). StopsAny tells new.outside.history.present s blocks old.table it stop) same may in
        record { last = paused old.outside held old.table; extends = extends; turns = refl; going = tt; reads = λ told. inr (it, spelled, few told); stopped = (it, spelled, may_held) };
    drew = drew;
    changes = λ told. few_cut old.changes new.changes text it spelled (syncs told);
    later = later;
    led = λ told entry on.
        let same : on.session ≡ session = let e : Some on.session ≡ Some session = sym on.going ∙ going in cc in
        let there : IsHeld old.outside.history.present old.outside.head session old.table entry = subst (λ (s : Session). IsHeld old.outside.history.present old.outside.head s old.table entry) same on.held in
        let s = stopped told entry there in
        record {
          ahead = s.ahead;
          led = record { states = []; leads = tt; made = s.made };
          ends = stop_ends new old.outside.capacity old.table entry text it s.ahead stop spelled there.tabled s.is;
          pages = (it, spelled, s.pages);
          shown = tt;
        };
  };
}

-- a reply that was put, or was not
pub line_told : (tells : Type 0) (blocks : ℕ) (old : World) (outside : Outside) (changes : ℕ) (now : Session) (table_now : List Volume) (text : List ℕ) (reply : Reply) (result : Result Session Stop) (a b : Option (List ℕ)) → IsLater old.outside outside
    → SaysOf tells blocks old now table_now outside changes text reply
    → (tells → (entry : Held) → IsOn old.outside old.session old.table entry → IsTurn old outside.history.present outside.head now table_now outside.history entry text reply) → IfOk result (λ s. s ≡ now) → HasPut (line_of reply) (ending_of result) a b
    → Handled tells blocks old (record { session = goes_on result; table = table_now; outside = outside; changes = changes }) (ending_of result) (text ∷ []) a b
line_told tells blocks old outside changes now table_now text reply (Ok session) a b later says turns same put =
    line_put tells blocks old (record { session = Some session; table = table_now; outside = outside; changes = changes }) now text reply a b (ap Some same) later says turns put
line_told tells blocks old outside changes now table_now text reply (Err stops.Sink) a b later says turns same put =
    line_cut tells blocks old (record { session = None; table = table_now; outside = outside; changes = changes }) now outside.history.present outside.head table_now text reply a b later says turns put
line_told tells blocks old outside changes now table_now text reply (Err stops.Source) a b later says turns same put = absurd put
line_told tells blocks old outside changes now table_now text reply (Err stops.Limit) a b later says turns same put = absurd put
line_told tells blocks old outside changes now table_now text reply (Err (stops.Device stop)) a b later says turns same put = absurd put

-- ---- an input that failed behind lines

on_cut : (old new : World) (entry : Held) (lines : List (List ℕ)) (replies : List Reply) (part : List ℕ) → OnLines old.outside new.outside new.session new.table entry lines replies part (Ok tt)
    → OnLines old.outside new.outside new.session new.table entry lines replies part (Err stops.Source) × OnLines old.outside new.outside new.session new.table entry lines replies part (Err stops.Limit)
on_cut old new entry lines replies part on = (
  record { ahead = on.ahead; led = on.led; ends = on.ends; pages = tt; shown = on.shown },
  record { ahead = on.ahead; led = on.led; ends = on.ends; pages = tt; shown = on.shown },
)

-- a run that handled its lines, and ended so behind them
handled_ended : (tells : Type 0) (blocks : ℕ) (old new : World) (ending : Ending) (lines : List (List ℕ)) (a b : Option (List ℕ)) (p : Handled tells blocks old new (Ok tt) lines a b) → IsBehind line_of no_line p.replied.part ending
    → AreMany (length p.replied.replies) (length lines) ending
    → ((held : Session) → old.session ≡ Some held → OnTables tells blocks (paused old.outside held old.table) new.session new.table old.outside new.outside lines p.replied.replies ending)
    → ((entry : Held) → OnLines old.outside new.outside new.session new.table entry lines p.replied.replies p.replied.part (Ok tt) → OnLines old.outside new.outside new.session new.table entry lines p.replied.replies p.replied.part ending) → Handled tells blocks old new ending lines a b
handled_ended tells blocks old new ending lines a b p behind many tables on = let r = p.replied in record {
  put = p.put;
  got = p.got;
  replied = record {
    replies = r.replies;
    part = r.part;
    put_is = r.put_is;
    behind = behind;
    many = many;
    tables = tables;
    drew = r.drew;
    changes = r.changes;
    later = r.later;
    led = λ told entry there. on entry (r.led told entry there);
  };
}

pub handled_cut : (tells : Type 0) (blocks : ℕ) (old new : World) (lines : List (List ℕ)) (a b : Option (List ℕ)) → Handled tells blocks old new (Ok tt) lines a b
    → Handled tells blocks old new (Err stops.Source) lines a b × Handled tells blocks old new (Err stops.Limit) lines a b
handled_cut tells blocks old new lines a b p = let r = p.replied in (
  handled_ended tells blocks old new (Err stops.Source) lines a b p r.behind r.many (λ held is. (tables_cut tells blocks (paused old.outside held old.table) new.session new.table old.outside new.outside lines r.replies (r.tables held is)).0) (λ entry on. (on_cut old new entry lines r.replies r.part on).0),
  handled_ended tells blocks old new (Err stops.Limit) lines a b p r.behind r.many (λ held is. (tables_cut tells blocks (paused old.outside held old.table) new.session new.table old.outside new.outside lines r.replies (r.tables held is)).1) (λ entry on. (on_cut old new entry lines r.replies r.part on).1),
)

-- ---- how many replies there are

pub count_then : (tells : Type 0) (blocks : ℕ) (old mid new : World) (ending : Ending) (lines more : List (List ℕ)) (a b c : Option (List ℕ))
    → (p : Handled tells blocks old mid (Ok tt) lines a b) (q : Handled tells blocks mid new ending more b c)
    → length p.replied.replies ≤ length (handled_then tells blocks old mid new ending lines more a b c p q).replied.replies
unfolding handled_then replied_then
count_then tells blocks old mid new ending lines more a b c p q = omega (arith, length-append p.replied.replies q.replied.replies)

pub count_cut : (tells : Type 0) (blocks : ℕ) (old new : World) (lines : List (List ℕ)) (a b : Option (List ℕ)) (p : Handled tells blocks old new (Ok tt) lines a b)
    → (length p.replied.replies ≤ length (handled_cut tells blocks old new lines a b p).0.replied.replies) × (length p.replied.replies ≤ length (handled_cut tells blocks old new lines a b p).1.replied.replies)
unfolding handled_cut handled_ended
count_cut tells blocks old new lines a b p = (omega arith, omega arith)

-- what is said of lines adds up
pub replying : (tells : Type 0) (blocks : ℕ) → Replying World (λ w. w.outside.head ≤ w.outside.capacity) (Handled tells blocks) (replies_in tells blocks)
replying tells blocks = record {
  handling = record {
    nothing = λ w written fits. handled_nothing tells blocks w written fits;
    behind = λ old mid new ending lines more a b c p q. handled_then tells blocks old mid new ending lines more a b c p q;
    longer = λ old new stop lines more a b line p. handled_longer tells blocks old new stop lines more a b line p;
  };
  each = λ old new lines a b p. p.replied.many;
  behind = λ old mid new ending lines more a b c p q. count_then tells blocks old mid new ending lines more a b c p q;
  failed = λ old new lines a b p. ((handled_cut tells blocks old new lines a b p).0, (count_cut tells blocks old new lines a b p).0);
  limit = λ old new lines a b p. ((handled_cut tells blocks old new lines a b p).1, (count_cut tells blocks old new lines a b p).1);
}
