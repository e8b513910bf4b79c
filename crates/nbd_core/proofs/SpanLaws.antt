-- A whole run, from its look at the cell on.
use Rattle.std.proofs.Common.{◌≡◌, ◌≤◌, ◌+◌, ◌*◌, ◌^◌, ℕ, List, [], Option, None, Some, Result, Ok, Err, inl, inr, refl, sym, subst, ◌∙◌, ap, arith}
use Rattle.std.specs.Prelude.{◌⊎◌, IfErr, IfOk, map}
use Rattle.platform.specs.Calls.{Looks}
use Rattle.sdbt_base.specs.declared.sinks.Sink.{Ghosts as SinkGhosts}
use Rattle.sdbt_base.specs.declared.tapes.Tape.{Ghosts as TapeGhosts}
use Rattle.platform.specs.declared.platforms.Platform.{Ghosts as PlatformGhosts}
use Rattle.device_session.specs.Open.{blocks_of, needed_by}
use Rattle.device_session.proofs.CountLaws.{needs_none}
use Rattle.nbd_core.specs.Room.{Room}
use Rattle.device_course.specs.Held.{Held, state_of}
use Rattle.nbd_core.specs.Ample.{HasRoom}
use Rattle.nbd_core.specs.Haggling.{Haggled}
use Rattle.nbd_core.specs.Exchanges.{sent_of, told_of}
use Rattle.nbd_core.specs.Reads.{reads_in}
use Rattle.nbd_core.specs.Served.{EndsFrom, IsAhead, Served}
use Rattle.nbd_core.specs.Turns.{IsFrom, IsStart, Stayed}
use Rattle.nbd_core.specs.declared.haggling.Agreed.TheVariants as agreed
use Rattle.nbd_core.specs.declared.haggling.Agreed.{Agreed}
use Rattle.nbd_core.specs.declared.stop.Stop.{Stop}
use Rattle.nbd_core.specs.declared.stop.Stop.TheVariants as stops
use Rattle.sdbt_base.specs.Arrays.{Device, State, closed}
use Rattle.platform.specs.Image.{Image}
use Rattle.platform.specs.History.{CellStays, Extends, History}
use Rattle.page_store.specs.Stands.{Stands}
use Rattle.device_terms.specs.Served.{IsServedImage, IsServedCell}
use Rattle.device_course.specs.Course.{MadeBetween}
use Rattle.device_course.specs.Keys.{KeepsOn}
use Rattle.device_course.specs.Marks.{last_mark}
use Rattle.device_course.specs.States.{Outside, IsAt, IsListed, around}
use Rattle.device_course.proofs.KeysLaws.{on_look, on_then, listed_image}
use Rattle.device_course.proofs.MadeLaws.{made_kept, made_since, made_then, shut}
use Rattle.device_session.specs.Reading.{room_of}
use Rattle.device_session.specs.Sessions.{Session}
use Rattle.session_calls.specs.Mounts.{IsFound, IsMountStop, MountLeads}
use Rattle.session_calls.specs.declared.stops.DeviceStop.{DeviceStop}
use Rattle.session_calls.specs.declared.stops.DeviceStop.TheVariants as device
use Rattle.nbd_core.specs.Halts.{IsLate}
use Rattle.nbd_core.specs.Running.{Conversed, GoesOn, IsEarly, IsSilent, Says, Talks, OfMount, cell_halt, mount_halt}
use Rattle.session_calls.specs.Spans.{Spans}
use Rattle.session_calls.proofs.SpanLaws.{led_of, mounted_at}
use Rattle.nbd_core.specs.declared.halts.Halt.{Halt}
use Rattle.session_calls.proofs.CarryLaws.{stays_at}
use Rattle.session_calls.proofs.MountLaws.{bad_served}
use Rattle.nbd_core.proofs.DamageLaws.{told_since}
use Rattle.nbd_core.proofs.ReadLaws.{read_more}
use Rattle.nbd_core.proofs.TurnLaws.{array_since}
use Rattle.nbd_core.specs.Changes.{HasChanged, Tally, changes_in, tally}

-- a look at the platform, and what comes behind it
pub spans_looked : (tells : Type 0) (old mid new : Outside) (Going : Type 0) → mid.drawn ≡ old.drawn → mid.written ≡ old.written → mid.head ≡ old.head → mid.capacity ≡ old.capacity
    → (tells → mid.history.present ≡ old.history.present) → (tells → CellStays old.history mid.history) → Spans tells mid new Going → Spans tells old new Going
spans_looked tells old mid new Going undrawn unput head capacity same stays spans = record {
  later = record { capacity = spans.later.capacity ∙ capacity; rises = omega (arith, head, spans.later.rises); within = spans.later.within };
  keeps =
      subst (λ (d : Option (List (List ℕ))). KeepsOn tells d new.drawn old.written new.written None old.history new.history Going (λ keys. Unit {0})) undrawn
      (subst (λ (w : Option (List ℕ)). KeepsOn tells mid.drawn new.drawn w new.written None old.history new.history Going (λ keys. Unit {0})) unput
      (on_then tells mid.drawn mid.drawn new.drawn mid.written mid.written new.written None None old.history mid.history new.history (Unit {0}) Going (λ keys. Unit {0}) tt
      (on_look tells mid.drawn mid.written None old.history mid.history (Unit {0}) (IsListed None mid.history.present) same stays
      (λ told keys kept h. listed_image None old.history.present mid.history.present keys (same told) h)) spans.keeps
      (λ told entry at. (entry, subst (λ (i : Image). IsAt i None entry) (sym (same told)) at))));
  made = λ told there stands served.
      let stands_then : Stands mid.history.present there = subst (λ (i : Image). Stands i there) (sym (same told)) stands in
      let served_then : IsServedImage mid.history.present = subst IsServedImage (sym (same told)) served in
      let m = spans.made told there stands_then served_then in (
        m.0,
        made_then old.history mid.history new.history None None (closed there) (closed there) (closed (last_mark there m.0)) [] m.0
            (stays_at old.history mid.history None (closed there) (closed there) (stays told) stands (shut mid.history.present there stands_then served_then)) m.1,
      );
}

-- ---- why it ends

pub of_mount : (tells : Type 0) (cell : Option (List ℕ)) (pages : ℕ) (stop : DeviceStop) → IsMountStop tells cell pages stop → OfMount stop
of_mount tells cell pages device.Platform is = tt
of_mount tells cell pages device.Memory is = tt
of_mount tells cell pages device.BadRoot is = tt
of_mount tells cell pages device.Tape is = absurd is
of_mount tells cell pages device.Ledger is = absurd is
of_mount tells cell pages (device.BadRecord addr) is = absurd is

-- over a cell that can be served a mount doesn't stop at its root record
pub late_mount : (tells : Type 0) (cell : Option (List ℕ)) (pages : ℕ) (stop : DeviceStop) (halt : Halt) → tells → IsServedCell cell pages → IsMountStop tells cell pages stop → halt ≡ mount_halt stop → IsLate halt
late_mount tells cell pages device.Platform halt told served is e = subst IsLate (sym e) tt
late_mount tells cell pages device.Memory halt told served is e = subst IsLate (sym e) tt
late_mount tells cell pages device.BadRoot halt told served is e = absurd (bad_served cell pages served (is told))
late_mount tells cell pages device.Tape halt told served is e = absurd is
late_mount tells cell pages device.Ledger halt told served is e = absurd is
late_mount tells cell pages (device.BadRecord addr) halt told served is e = absurd is

-- ---- what was said, and a mount that was answered

pub conversed_of : (From : Held → Type 0) (tells : Type 0) (count : Tally) (before after : Outside) (size other : ℕ) (left left_then left_now written written_then written_now : Option (List ℕ)) (first room : Room) (was agreed : Result Agreed Stop) (result : Result (Unit {0}) Halt) → size ≡ other → was ≡ agreed → first.ahead ≡ [] → first.left ≡ 2 ^ 40 → IfErr was (λ stop. stop ≡ stops.Limit → room.left ≡ 0)
    → Haggled size left left_then first room written written_then was → GoesOn From tells count before after other agreed room left_then left_now written_then written_now result → Conversed From tells count before after other left left_now written written_now result
conversed_of From tells count before after size other left left_then left_now written written_then written_now first room was agreed result same is none most limit haggled goes = record {
  first = first;
  room = room;
  fresh = (none, most);
  left_then = left_then;
  written_then = written_then;
  agreed = agreed;
  haggled = subst (λ (n : ℕ). Haggled n left left_then first room written written_then agreed) same (subst (Haggled size left left_then first room written written_then) is haggled);
  limit = subst (λ (r : Result Agreed Stop). IfErr r (λ stop. stop ≡ stops.Limit → room.left ≡ 0)) is limit;
  goes_on = goes;
}

-- ---- from an earlier moment on, since which the device stayed

-- what the run may begin from then is what it may begin from now
abbrev pub Since : (Held → Type 0) → (Held → Type 0) → Outside → Outside → Type 0
Since Earlier From first second = (entry : Held) → Earlier entry → From entry × MadeBetween first.history second.history entry.device [] entry.device

abbrev pub earlier : Tally → ℕ → Tally
earlier count was = record { looks = count.looks + 1; changes = was; changes_now = count.changes_now }

stayed_since : (Earlier From : Held → Type 0) (tells : Type 0) (count : Tally) (was : ℕ) (first second third : Outside) → second.head ≡ first.head → (tells → second.reads ≤ first.reads + 1) → (tells → count.changes ≡ was) → Since Earlier From first second
    → Stayed From tells count second third → Stayed Earlier tells (earlier count was) first third
stayed_since Earlier From tells count was first second third head once still since stayed = record {
  pages = stayed.pages ∙ head;
  reads = λ told. omega (arith, stayed.reads told, once told);
  changes = λ told. stayed.changes told ∙ still told;
  made = λ entry early.
      let s = since entry early in
      made_since first.history second.history third.history entry.device entry.device [] s.1 (stayed.made entry s.0);
}

served_since : (Earlier From : Held → Type 0) (tells : Type 0) (count : Tally) (was : ℕ) (first second third : Outside) (size : ℕ) (left left_now : Option (List ℕ)) (old new : Room) (written written_now : Option (List ℕ)) (result : Result (Unit {0}) Halt) → second.capacity ≡ first.capacity → (tells → second.reads ≤ first.reads + 1) → (tells → count.changes ≡ was) → (tells → Extends first.history second.history) → Since Earlier From first second
    → Served From tells count second third size left left_now old new written written_now result → Served Earlier tells (earlier count was) first third size left left_now old new written written_now result
served_since Earlier From tells count was first second third size left left_now old new written written_now result same once still extends since served = record {
  exchanges = served.exchanges;
  came = served.came;
  put = served.put;
  rest = served.rest;
  part = served.part;
  takes = served.takes;
  got = served.got;
  fit = served.fit;
  said = served.said;
  replied = served.replied;
  ends = served.ends;
  limit = served.limit;
  led = λ entry early.
      let s = since entry early in
      array_since first second third entry (map sent_of served.exchanges) (map told_of served.exchanges) (EndsFrom second.capacity size served.rest new.ahead served.part third.head result) (EndsFrom first.capacity size served.rest new.ahead served.part third.head result) same
      (λ last ahead is. record { to = subst (λ (n : ℕ). IsAhead n size served.rest new.ahead served.part result last ahead) same is.to; near = is.near }) s.1 (served.led entry s.0);
  damage = λ told.
      let was = served.damage told in
      (was.0, was.1, told_since size first.history second.history third.history served.exchanges was.0 was.1 (extends told) was.2);
  short = served.short;
  reads = λ told. read_more size served.rest (second.reads + count.looks + reads_in size served.exchanges) (first.reads + (count.looks + 1) + reads_in size served.exchanges) third.reads (omega (arith, once told)) (served.reads told);
  changes = λ told. subst (λ (n : ℕ). HasChanged size served.rest (changes_in size served.exchanges) n count.changes_now) (still told) (served.changes told);
  unfinished = served.unfinished;
  complete = λ entry early is room. served.complete entry (since entry early).0 is (subst (λ (n : ℕ). HasRoom n size entry served.exchanges) (sym same) room);
}

goes_since : (Earlier From : Held → Type 0) (tells : Type 0) (count : Tally) (was : ℕ) (first second third : Outside) (size : ℕ) (result_of : Result Agreed Stop) (room : Room) (left left_now written written_now : Option (List ℕ)) (result : Result (Unit {0}) Halt) → second.capacity ≡ first.capacity → second.head ≡ first.head → (tells → second.reads ≤ first.reads + 1) → (tells → count.changes ≡ was) → (tells → Extends first.history second.history) → Since Earlier From first second
    → GoesOn From tells count second third size result_of room left left_now written written_now result → GoesOn Earlier tells (earlier count was) first third size result_of room left left_now written written_now result
goes_since Earlier From tells count was first second third size (Ok agreed.Requests) room left left_now written written_now result same head once still extends since (last, served) = (last, served_since Earlier From tells count was first second third size left left_now room last written written_now result same once still extends since served)
goes_since Earlier From tells count was first second third size (Ok agreed.Nothing) room left left_now written written_now result same head once still extends since (a, b, c, stayed) = (a, b, c, stayed_since Earlier From tells count was first second third head once still since stayed)
goes_since Earlier From tells count was first second third size (Err stop) room left left_now written written_now result same head once still extends since (a, b, c, stayed) = (a, b, c, stayed_since Earlier From tells count was first second third head once still since stayed)

pub conversed_since : (Earlier From : Held → Type 0) (tells : Type 0) (count : Tally) (was : ℕ) (first second third : Outside) (size : ℕ) (left left_now written written_now : Option (List ℕ)) (result : Result (Unit {0}) Halt) → second.capacity ≡ first.capacity → second.head ≡ first.head → (tells → second.reads ≤ first.reads + 1) → (tells → count.changes ≡ was) → (tells → Extends first.history second.history) → Since Earlier From first second
    → Conversed From tells count second third size left left_now written written_now result → Conversed Earlier tells (earlier count was) first third size left left_now written written_now result
conversed_since Earlier From tells count was first second third size left left_now written written_now result same head once still extends since conversed = record {
  first = conversed.first;
  room = conversed.room;
  fresh = conversed.fresh;
  left_then = conversed.left_then;
  written_then = conversed.written_then;
  agreed = conversed.agreed;
  haggled = conversed.haggled;
  limit = conversed.limit;
  goes_on = goes_since Earlier From tells count was first second third size conversed.agreed conversed.room conversed.left_then left_now conversed.written_then written_now result same head once still extends since conversed.goes_on;
}

pub silent_since : (Earlier From : Held → Type 0) (tells : Type 0) (count : Tally) (was : ℕ) (first second third : Outside) (left left_now written written_now : Option (List ℕ)) (result : Result (Unit {0}) Halt) → second.head ≡ first.head → (tells → second.reads ≤ first.reads + 1) → (tells → count.changes ≡ was) → Since Earlier From first second
    → IsSilent From tells count second third left left_now written written_now result → IsSilent Earlier tells (earlier count was) first third left left_now written written_now result
silent_since Earlier From tells count was first second third left left_now written written_now result head once still since silent = record {
  untaken = silent.untaken;
  unput = silent.unput;
  early = silent.early;
  stayed = stayed_since Earlier From tells count was first second third head once still since silent.stayed;
}

-- a run that only looks says nothing
pub silent_look : (tells : Type 0) (count : Tally) (old new : Outside) (left written : Option (List ℕ)) (result : Result (Unit {0}) Halt) → IsEarly result → new.head ≡ old.head → (tells → new.reads ≤ old.reads + count.looks) → (tells → count.changes_now ≡ count.changes) → (tells → CellStays old.history new.history)
    → IsSilent (IsStart tells old) tells count old new left left written written result
silent_look tells count old new left written result early head reads still stays = record {
  untaken = refl;
  unput = refl;
  early = early;
  stayed = record { pages = head; reads = reads; changes = still; made = λ entry start. made_kept old.history new.history entry.device start.stands start.served (stays start.told) };
}

pub early_mount : (tells : Type 0) (cell : Option (List ℕ)) (pages : ℕ) (stop : DeviceStop) (halt : Halt) → IsMountStop tells cell pages stop → halt ≡ mount_halt stop → IsEarly (Err halt)
early_mount tells cell pages device.Platform halt is e = subst (λ (h : Halt). IsEarly (Err h)) (sym e) tt
early_mount tells cell pages device.Memory halt is e = subst (λ (h : Halt). IsEarly (Err h)) (sym e) tt
early_mount tells cell pages device.BadRoot halt is e = subst (λ (h : Halt). IsEarly (Err h)) (sym e) tt
early_mount tells cell pages device.Tape halt is e = absurd is
early_mount tells cell pages device.Ledger halt is e = absurd is
early_mount tells cell pages (device.BadRecord addr) halt is e = absurd is

pub early_look : (stop : DeviceStop) (halt : Halt) → (stop ≡ device.BadRoot) ⊎ (stop ≡ device.Platform) → halt ≡ cell_halt stop → IsEarly (Err halt)
early_look stop halt (inl is) e = subst (λ (h : Halt). IsEarly (Err h)) (sym (e ∙ ap cell_halt is)) tt
early_look stop halt (inr is) e = subst (λ (h : Halt). IsEarly (Err h)) (sym (e ∙ ap cell_halt is)) tt

-- behind a look at the cell
pub since_look : (tells : Type 0) (old mid : Outside) → mid.head ≡ old.head → (tells → mid.history.present ≡ old.history.present) → (tells → CellStays old.history mid.history) → Since (IsStart tells old) (IsStart tells mid) old mid
since_look tells old mid head same stays entry start = (
  record {
    told = start.told;
    stands = subst (λ (i : Image). Stands i (Some entry.device)) (sym (same start.told)) start.stands;
    served = subst IsServedImage (sym (same start.told)) start.served;
    session = start.session;
    pages = start.pages ∙ sym head;
    updates = start.updates;
  },
  made_kept old.history mid.history entry.device start.stands start.served (stays start.told),
)

-- the session is on the device that the image stood for
pub blocks_found : {S : Type 0} (P : PlatformGhosts S) (nodes : ℕ) (platform platform_now : S) (session : Session) (result : Result (Option Session) DeviceStop) → result ≡ Ok (Some session) → IfOk result (IsFound P nodes platform platform_now)
    → P.tells → (there : Device) → Stands (P.history platform).present (Some there) → 4096 * blocks_of session ≡ 4096 * there.blocks
blocks_found P nodes platform platform_now session result is finds told there stands =
    let found : IsFound P nodes platform platform_now (Some session) = subst (λ (r : Result (Option Session) DeviceStop). IfOk r (IsFound P nodes platform platform_now)) is finds in
    ap (λ (n : ℕ). 4096 * n) (found.0.holds told there stands).stands.blocks

pub since_mount : {S : Type 0} (P : PlatformGhosts S) (nodes : ℕ) (platform platform_now : S) (old mid : Outside) (session : Session) (result : Result (Option Session) DeviceStop) → result ≡ Ok (Some session) → old.history ≡ P.history platform → mid.history ≡ P.history platform_now → old.head ≡ P.head platform → mid.head ≡ P.head platform_now
    → Looks P platform platform_now → IfOk result (IsFound P nodes platform platform_now)
    → (P.tells → (entry : State) → IsAt (P.history platform).present None entry → MountLeads (P.history platform_now).present entry result)
    → Since (IsStart P.tells old) (IsFrom P.tells mid session) old mid
since_mount P nodes platform platform_now old mid session result is old_history mid_history old_head mid_head looks finds leads entry start =
    let told = start.told in
    let found : IsFound P nodes platform platform_now (Some session) = subst (λ (r : Result (Option Session) DeviceStop). IfOk r (IsFound P nodes platform platform_now)) is finds in
    let stands : Stands (P.history platform).present (Some entry.device) = subst (λ (h : History). Stands h.present (Some entry.device)) old_history start.stands in
    let served : IsServedImage (P.history platform).present = subst (λ (h : History). IsServedImage h.present) old_history start.served in
    let led = led_of (P.history platform_now).present session (closed (Some entry.device)) (subst (MountLeads (P.history platform_now).present (closed (Some entry.device))) is (leads told (closed (Some entry.device)) (shut (P.history platform).present (Some entry.device) stands served))) in
    let at : IsAt mid.history.present (Some session) (state_of entry) = subst (λ (h : History). IsAt h.present (Some session) (state_of entry)) (sym mid_history) (mounted_at (P.history platform_now).present session entry led start.session) in
    let none : needed_by session ≡ 0 = needs_none session (P.head platform_now) found.0.is_open found.0.untouched in
    let stays : CellStays old.history mid.history = subst (λ (h : History). CellStays h mid.history) (sym old_history) (subst (CellStays (P.history platform)) (sym mid_history) (looks.time told)) in (
      (told, record { at = at; pages = start.pages ∙ old_head ∙ sym looks.head ∙ sym mid_head; needs = omega (arith, none) }),
      made_kept old.history mid.history entry.device start.stands start.served stays,
    )

-- which needs no page
pub fresh_found : {S : Type 0} (P : PlatformGhosts S) (nodes : ℕ) (platform platform_now : S) (session : Session) (result : Result (Option Session) DeviceStop) → result ≡ Ok (Some session) → IfOk result (IsFound P nodes platform platform_now) → needed_by session ≡ 0
fresh_found P nodes platform platform_now session result is finds =
    let found : IsFound P nodes platform platform_now (Some session) = subst (λ (r : Result (Option Session) DeviceStop). IfOk r (IsFound P nodes platform platform_now)) is finds in
    needs_none session (P.head platform_now) found.0.is_open found.0.untouched

-- and has room for so many nodes
pub room_found : {S : Type 0} (P : PlatformGhosts S) (nodes : ℕ) (platform platform_now : S) (session : Session) (result : Result (Option Session) DeviceStop) → result ≡ Ok (Some session) → IfOk result (IsFound P nodes platform platform_now) → room_of session ≡ nodes
room_found P nodes platform platform_now session result is finds =
    let found : IsFound P nodes platform platform_now (Some session) = subst (λ (r : Result (Option Session) DeviceStop). IfOk r (IsFound P nodes platform platform_now)) is finds in
    ap (λ cache. cache.capacity) found.0.empty

-- ---- what is said, from the start of a run

pub talks_mounted : {S R W : Type 0} (P : PlatformGhosts S) (T : TapeGhosts R) (L : SinkGhosts W) (nodes : ℕ) (platform platform_now : S) (tape : R) (ledger : W) (after : Outside) (session : Session) (result : Result (Option Session) DeviceStop)
    (left left_now written written_now : Option (List ℕ)) (ending : Result (Unit {0}) Halt) → result ≡ Ok (Some session) → Looks P platform platform_now → IfOk result (IsFound P nodes platform platform_now)
    → (P.tells → (entry : State) → IsAt (P.history platform).present None entry → MountLeads (P.history platform_now).present entry result) → (P.tells → P.reads platform_now ≤ P.reads platform + 1) → (changes_end : ℕ)
    → Says (IsFrom P.tells (around P T L platform_now tape ledger) session) P.tells (tally 0 (P.changes platform_now) changes_end) (around P T L platform_now tape ledger) after (4096 * blocks_of session) left left_now written written_now ending
    → Talks P.tells (tally 1 (P.changes platform) changes_end) (around P T L platform tape ledger) after left left_now written written_now ending
talks_mounted P T L nodes platform platform_now tape ledger after session result left left_now written written_now ending is looks finds leads once changes_end says =
    let count : Tally = tally 0 (P.changes platform_now) changes_end in
    let old : Outside = around P T L platform tape ledger in
    let mid : Outside = around P T L platform_now tape ledger in
    let since : Since (IsStart P.tells old) (IsFrom P.tells mid session) old mid = since_mount P nodes platform platform_now old mid session result is refl refl refl refl looks finds leads in
    elim says [
      | inl silent ↦ inl (silent_since (IsStart P.tells old) (IsFrom P.tells mid session) P.tells count (P.changes platform) old mid after left left_now written written_now ending looks.head once looks.changes since silent)
      | inr conversed ↦ inr record {
        size = 4096 * blocks_of session;
        is = blocks_found P nodes platform platform_now session result is finds;
        conversed = conversed_since (IsStart P.tells old) (IsFrom P.tells mid session) P.tells count (P.changes platform) old mid after (4096 * blocks_of session) left left_now written written_now ending looks.capacity looks.head once looks.changes (λ told. (looks.time told).extends) since conversed;
      }
    ]

pub talks_looked : (tells : Type 0) (count : Tally) (was : ℕ) (old mid after : Outside) (left left_now written written_now : Option (List ℕ)) (ending : Result (Unit {0}) Halt) → mid.head ≡ old.head → mid.capacity ≡ old.capacity
    → (tells → mid.reads ≤ old.reads + 1) → (tells → count.changes ≡ was) → (tells → mid.history.present ≡ old.history.present) → (tells → CellStays old.history mid.history) → Talks tells count mid after left left_now written written_now ending
    → Talks tells (earlier count was) old after left left_now written written_now ending
talks_looked tells count was old mid after left left_now written written_now ending head capacity once still same stays talks =
    let since : Since (IsStart tells old) (IsStart tells mid) old mid = since_look tells old mid head same stays in
    elim talks [
      | inl silent ↦ inl (silent_since (IsStart tells old) (IsStart tells mid) tells count was old mid after left left_now written written_now ending head once still since silent)
      | inr there ↦ inr record {
        size = there.size;
        is = λ told device stands. there.is told device (subst (λ (i : Image). Stands i (Some device)) (sym (same told)) stands);
        conversed = conversed_since (IsStart tells old) (IsStart tells mid) tells count was old mid after there.size left left_now written written_now ending capacity head once still (λ told. (stays told).extends) since there.conversed;
      }
    ]
