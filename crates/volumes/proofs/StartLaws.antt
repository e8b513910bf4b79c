-- From which states a run goes on: behind its mount, and behind the look at its table.
use Rattle.std.proofs.Common.{◌≡◌, ◌≢◌, ◌≤◌, ◌<◌, ◌+◌, ◌^◌, ◌++◌, ℕ, List, [], Option, None, Some, Result, Ok, Err, inl, inr, refl, sym, ap, subst, ◌∙◌, arith}
use Rattle.std.specs.Prelude.{IfErr, IfOk, length}
use Rattle.sdbt_base.specs.Arrays.{Device, Session as OpenSession, State, closed, mounted}
use Rattle.sdbt_base.specs.Told.{Got}
use Rattle.platform.specs.Calls.{Looks}
use Rattle.platform.specs.Image.{Image}
use Rattle.platform.specs.History.{CellStays, Extends, History, moment}
use Rattle.platform.specs.declared.platforms.Platform.{Ghosts as PlatformGhosts}
use Rattle.root_codec.specs.RootRecord.{root_bytes}
use Rattle.page_store.specs.Roots.{IsRootWithin}
use Rattle.page_store.specs.Stands.{Stands}
use Rattle.device_terms.specs.Served.{IsServedCell, IsServedImage}
use Rattle.platform.proofs.Moments.{image_at-now}
use Rattle.device_terms.proofs.MomentLaws.{stays_then}
use Rattle.device_course.specs.States.{IsAt, Outside}
use Rattle.device_course.proofs.MadeLaws.{made_kept, made_since, shut}
use Rattle.device_session.specs.Open.{IsOpen, blocks_of, needed_by}
use Rattle.device_session.specs.Reading.{FindsContent, room_of}
use Rattle.device_session.specs.Sessions.{Session}
use Rattle.device_session.proofs.CountLaws.{needs_none}
use Rattle.line_run.specs.Stops.{Ending}
use Rattle.line_run.specs.declared.stop.Stop.TheVariants as stops
use Rattle.device_course.specs.Held.{Held, device_of, state_of}
use Rattle.device_course.specs.Leading.{Leads, last_of, marks_of}
use Rattle.session_calls.specs.Along.{Along, Drawn}
use Rattle.session_calls.specs.Damage.{IsMounted, MeetsDamage, ReadsAny}
use Rattle.session_calls.specs.Goes.{ReadsBlock}
use Rattle.session_calls.specs.Mounts.{IsFound, IsMountStop, MountLeads}
use Rattle.session_calls.specs.declared.stops.DeviceStop.{DeviceStop}
use Rattle.session_calls.specs.declared.stops.DeviceStop.TheVariants as device
use Rattle.session_calls.proofs.CallLaws.{along_more}
use Rattle.session_calls.proofs.MountLaws.{bad_served}
use Rattle.volume_table.specs.Tables.{IsTable, table_bytes}
use Rattle.volume_table.specs.declared.volume.Volume.{Volume}
use Rattle.volume_lines.specs.Replies.{Reply}
use Rattle.volume_terms.specs.Turn.{Turn}
use Rattle.volume_terms.specs.Volumes.{IsTabled}
use Rattle.volume_terms.proofs.OwnLaws.{are_some, own_replies, volume_there}
use Rattle.device_course.specs.Course.{MadeBetween}
use Rattle.volume_desk.specs.Turns.{HasPages, IsHeld}
use Rattle.volume_serving.specs.Handled.{AreShown, EndsOn}
use Rattle.volume_serving.specs.Ran.{Ran as RanLines}
use Rattle.volume_desk.specs.Drawing.{Tally, tally}
use Rattle.volume_serving.specs.Drawing.{DrewUntil, tally_of}
use Rattle.volume_serving.specs.Tabled.{IfStopped, OnTables, Pause, paused}
use Rattle.volume_serving.specs.Syncing.{ChangesFew}
use Rattle.volume_serving.proofs.SyncingLaws.{few_behind}
use Rattle.volume_serving.proofs.TabledLaws.{tables_since}
use Rattle.volume_serving.proofs.HandledLaws.{shown_from}
use Rattle.volumes.specs.Running.{Answers, Begins, ChangesIn, IsEarly, IsIdle, IsSilent, OnVolumes, ServesBehind, ServesFew, halting}
use Rattle.volumes.specs.Starting.{EndsEarly, FindsFirst, FindsTable, IsFrom, IsOfTable, IsRefusal, IsSpelled, IsStart, SpellsNone, reads_before}
use Rattle.volumes.specs.declared.halts.Halt.{Halt}
use Rattle.volumes.specs.declared.halts.Halt.TheVariants as halts
use Rattle.session_calls.proofs.SpanLaws.{led_of, mounted_at}
use Rattle.volumes.proofs.EndedLaws.{ahead_of, are_destroyed, blocks_below}

-- ---- from an earlier moment on, since which the device stayed

-- what the run may begin from then is what it may begin from now
abbrev pub Since : (Held → Type 0) → (Held → Type 0) → Outside → Outside → Type 0
Since Earlier From first second = (entry : Held) → Earlier entry → From entry × MadeBetween first.history second.history entry.device [] entry.device

silent_since : (tells : Type 0) (Earlier From : Held → Type 0) (first second third : Outside) (halt : Halt) (left left_now written written_now : Option (List ℕ)) → (tells → second.history.present ≡ first.history.present) → (tells → second.reads ≤ first.reads + 1) → Since Earlier From first second
    → IsSilent tells 0 From second third halt left left_now written written_now → IsSilent tells 1 Earlier first third halt left left_now written written_now
silent_since tells Earlier From first second third halt left left_now written written_now image once since silent = record {
  untaken = silent.untaken;
  unput = silent.unput;
  early = silent.early;
  unspelled = λ told is. subst (λ (i : Image). SpellsNone i) (image told) (silent.unspelled told is);
  reads = λ told. omega (arith, once told, silent.reads told);
  stayed = λ entry early.
      let s = since entry early in
      let there = silent.stayed entry s.0 in
      (made_since first.history second.history third.history entry.device entry.device [] s.1 there.0, there.1);
}

-- the same of lines
pub record Onwards (old new : Outside) (session : Option Session) (table_now : List Volume) (entry : Held) (lines : List (List ℕ)) (replies : List Reply) (part : List ℕ) (ending : Ending) (states ahead : List Held) : Type 0 where
  pub leads : Leads (Turn old.capacity) entry lines replies states
  pub made : MadeBetween old.history new.history entry.device (marks_of device_of (states ++ ahead)) (device_of (last_of entry (states ++ ahead)))
  pub ends : EndsOn new session table_now old.capacity (last_of entry states) lines replies part ahead ending
  pub pages : IfStopped (λ stop it. HasPages old.capacity (last_of entry states) it) lines replies ending
  pub shown : AreShown new.history (moment old.history) replies states

onwards_since : (first second third : Outside) (session : Option Session) (table_now : List Volume) (entry : Held) (lines : List (List ℕ)) (replies : List Reply) (part : List ℕ) (ending : Ending) (states ahead : List Held) → second.capacity ≡ first.capacity
    → MadeBetween first.history second.history entry.device [] entry.device → Onwards second third session table_now entry lines replies part ending states ahead → Onwards first third session table_now entry lines replies part ending states ahead
onwards_since first second third session table_now entry lines replies part ending states ahead same kept on = record {
  leads = subst (λ (n : ℕ). Leads (Turn n) entry lines replies states) same on.leads;
  made = made_since first.history second.history third.history entry.device (device_of (last_of entry (states ++ ahead))) (marks_of device_of (states ++ ahead)) kept on.made;
  ends = subst (λ (n : ℕ). EndsOn third session table_now n (last_of entry states) lines replies part ahead ending) same on.ends;
  pages = subst (λ (n : ℕ). IfStopped (λ stop it. HasPages n (last_of entry states) it) lines replies ending) same on.pages;
  shown = shown_from third.history (moment first.history) (moment second.history) replies states kept.passes.extends.later on.shown;
}

volumes_of : (old new : Outside) (session : Option Session) (table table_now : List Volume) (entry : Held) (lines : List (List ℕ)) (replies : List Reply) (part : List ℕ) (ending : Ending) (states ahead : List Held) → entry.device.blocks < 2 ^ 64
    → IsTabled entry table → Onwards old new session table_now entry lines replies part ending states ahead → OnVolumes old new session table table_now entry lines replies part ending
volumes_of old new session table table_now entry lines replies part ending states ahead below tabled on = record {
  tabled = tabled;
  on = record { ahead = ahead; led = record { states = states; leads = on.leads; made = on.made }; ends = on.ends; pages = on.pages; shown = on.shown };
  own = λ name.
      let start = volume_there entry table name tabled in
      let mine = are_some old.capacity name entry lines replies states on.leads in
      let own = own_replies old.capacity name entry lines replies states start.0 mine.0 below on.leads start.1 mine.1 in
      record { volume = start.0; there = start.1; turns = mine.0; are = mine.1; next = own.next; own = own.own; ends = own.there };
  destroyed = are_destroyed old.capacity old.history new.history (moment old.history) entry lines replies states ahead below (omega arith) on.leads
      (ahead_of new session table_now old.capacity (last_of entry states) lines replies part ahead ending on.ends) on.shown;
}

volumes_since : (first second third : Outside) (session : Option Session) (table table_now : List Volume) (entry : Held) (lines : List (List ℕ)) (replies : List Reply) (part : List ℕ) (ending : Ending) → second.capacity ≡ first.capacity
    → MadeBetween first.history second.history entry.device [] entry.device → OnVolumes second third session table table_now entry lines replies part ending → OnVolumes first third session table table_now entry lines replies part ending
volumes_since first second third session table table_now entry lines replies part ending same kept there =
    let states : List Held = there.on.led.states in
    let on : Onwards first third session table_now entry lines replies part ending states there.on.ahead =
    onwards_since first second third session table_now entry lines replies part ending states there.on.ahead same kept (record { leads = there.on.led.leads; made = there.on.led.made; ends = there.on.ends; pages = there.on.pages; shown = there.on.shown }) in
    record {
      tabled = there.tabled;
      on = record { ahead = there.on.ahead; led = record { states = states; leads = on.leads; made = on.made }; ends = on.ends; pages = on.pages; shown = on.shown };
      own = there.own;
      destroyed = are_destroyed first.capacity first.history third.history (moment first.history) entry lines replies states there.on.ahead (blocks_below second.history.present entry.device kept.exits.there.device) (omega arith) on.leads
          (ahead_of third session table_now first.capacity (last_of entry states) lines replies part there.on.ahead ending on.ends) on.shown;
    }

begins_since : (tells : Type 0) (blocks : ℕ) (first second third : Outside) (start : Pause) → (tells → Extends first.history second.history) → (tells → second.reads ≤ first.reads + 1) → Begins tells 0 blocks second third start → Begins tells 1 blocks first third start
begins_since tells blocks first second third start extends once b =
    record { later = λ told. omega (arith, (extends told).later, b.later told); within = b.within; mounted = b.mounted; reads = λ told. omega (arith, once told, b.reads told); fresh = b.fresh; many = b.many; room = b.room }

answers_since : (tells : Type 0) (Earlier From : Held → Type 0) (first second third : Outside) (ending : Ending) (left left_now written written_now : Option (List ℕ)) → second.capacity ≡ first.capacity → tally_of second ≡ tally_of first → (tells → CellStays first.history second.history)
    → (tells → second.history.present ≡ first.history.present) → (tells → second.reads ≤ first.reads + 1) → Since Earlier From first second
    → Answers tells 0 From second third ending left left_now written written_now → Answers tells 1 Earlier first third ending left left_now written written_now
answers_since tells Earlier From first second third ending left left_now written written_now same counted stays image once since answers = record {
  taken = answers.taken;
  lines = answers.lines;
  gave = answers.gave;
  took = answers.took;
  come = answers.come;
  replies = answers.replies;
  part = answers.part;
  got = answers.got;
  behind = answers.behind;
  many = answers.many;
  prompt = answers.prompt;
  session = answers.session;
  blocks = answers.blocks;
  start = answers.start;
  table = answers.table;
  spelled = (answers.spelled.0, λ told. subst (λ (i : Image). IsSpelled i answers.blocks answers.start.table) (image told) (answers.spelled.1 told));
  begins = begins_since tells answers.blocks first second third answers.start (λ told. (stays told).extends) once answers.begins;
  tables = tables_since tells answers.blocks answers.start answers.session answers.table first second third answers.lines answers.replies ending (λ told. (stays told).extends) answers.tables;
  drew = subst (λ (t : Tally). DrewUntil t answers.lines answers.replies (tally_of third)) counted answers.drew;
  led = λ entry early.
      let s = since entry early in
      volumes_since first second third answers.session answers.start.table answers.table entry answers.lines answers.replies answers.part ending same s.1 (answers.led entry s.0);
}

-- which synced no oftener
lines_since : (tells : Type 0) (Earlier From : Held → Type 0) (first second third : Outside) (ending : Ending) (left left_now written written_now : Option (List ℕ)) (same : second.capacity ≡ first.capacity) (counted : tally_of second ≡ tally_of first) (stays : tells → CellStays first.history second.history)
    (image : tells → second.history.present ≡ first.history.present) (once : tells → second.reads ≤ first.reads + 1) (since : Since Earlier From first second) (answers : Answers tells 0 From second third ending left left_now written written_now) (before now : ℕ) → ChangesFew before now answers.lines answers.replies
    → ChangesFew before now (answers_since tells Earlier From first second third ending left left_now written written_now same counted stays image once since answers).lines (answers_since tells Earlier From first second third ending left left_now written written_now same counted stays image once since answers).replies
unfolding answers_since
lines_since tells Earlier From first second third ending left left_now written written_now same counted stays image once since answers before now few = few

pub serves_since : (tells : Type 0) (Earlier From : Held → Type 0) (first second third : Outside) (result : Result (Unit {0}) Halt) (left left_now written written_now : Option (List ℕ)) (before mid now : ℕ) → second.capacity ≡ first.capacity → tally_of second ≡ tally_of first → (tells → CellStays first.history second.history)
    → (tells → second.history.present ≡ first.history.present) → (tells → second.reads ≤ first.reads + 1) → (tells → mid ≡ before) → Since Earlier From first second
    → ServesFew tells 0 From second third result left left_now written written_now mid now → ServesFew tells 1 Earlier first third result left left_now written written_now before now
serves_since tells Earlier From first second third result left left_now written written_now before mid now same counted stays image once still since served =
    by served.serves served.changes
  where
    by : (s : ServesBehind tells 0 From second third result left left_now written written_now) → (tells → ChangesIn tells 0 From second third result left left_now written written_now s mid now) → ServesFew tells 1 Earlier first third result left left_now written written_now before now
    by (inl (halt, is, silent)) changes = record {
      serves = inl (halt, is, silent_since tells Earlier From first second third halt left left_now written written_now image once since silent);
      changes = λ told. changes told ∙ still told;
    }
    by (inr (ending, is, answers)) changes = record {
      serves = inr (ending, is, answers_since tells Earlier From first second third ending left left_now written written_now same counted stays image once since answers);
      changes = λ told. lines_since tells Earlier From first second third ending left left_now written written_now same counted stays image once since answers before now (few_behind before mid now answers.lines answers.replies (still told) (changes told));
    }

-- ---- a mount

-- that found a session found one without a change of its own
pub found_fresh : {S : Type 0} (P : PlatformGhosts S) (platform platform_now : S) (session : Session) (result : Result (Option Session) DeviceStop) → result ≡ Ok (Some session) → IfOk result (IsFound P 256 platform platform_now) → needed_by session ≡ 0
found_fresh P platform platform_now session result is finds =
    let found : IsFound P 256 platform platform_now (Some session) = subst (λ (r : Result (Option Session) DeviceStop). IfOk r (IsFound P 256 platform platform_now)) is finds in
    needs_none session (P.head platform_now) found.0.is_open found.0.untouched

-- and one with room for so many nodes
pub found_room : {S : Type 0} (P : PlatformGhosts S) (nodes : ℕ) (platform platform_now : S) (session : Session) (result : Result (Option Session) DeviceStop) → result ≡ Ok (Some session) → IfOk result (IsFound P nodes platform platform_now) → room_of session ≡ nodes
found_room P nodes platform platform_now session result is finds =
    let found : IsFound P nodes platform platform_now (Some session) = subst (λ (r : Result (Option Session) DeviceStop). IfOk r (IsFound P nodes platform platform_now)) is finds in
    ap (λ cache. cache.capacity) found.0.empty

-- that found a session found a cell that can be served
pub found_served : {S : Type 0} (P : PlatformGhosts S) (platform platform_now : S) (session : Session) (result : Result (Option Session) DeviceStop) → result ≡ Ok (Some session) → P.tells → length (P.history platform).present.recorded ≡ P.head platform → Looks P platform platform_now
    → IfOk result (IsFound P 256 platform platform_now) → IsServedImage (P.history platform).present
found_served P platform platform_now session result is told pages looks finds =
    let found : IsFound P 256 platform platform_now (Some session) = subst (λ (r : Result (Option Session) DeviceStop). IfOk r (IsFound P 256 platform platform_now)) is finds in
    let within : IsRootWithin (length (P.history platform).present.recorded) session.root = subst (λ (n : ℕ). IsRootWithin n session.root) (looks.head ∙ sym pages) found.0.is_open.served in
    subst (λ (cell : Option (List ℕ)). IsServedCell cell (length (P.history platform).present.recorded)) (sym (found.0.found told)) (session.root, within, refl)

-- one that found none found an empty cell
pub found_none : {S : Type 0} (P : PlatformGhosts S) (platform platform_now : S) (result : Result (Option Session) DeviceStop) → result ≡ Ok None → IfOk result (IsFound P 256 platform platform_now) → P.tells → (P.history platform).present.cell ≡ None
found_none P platform platform_now result is finds = subst (λ (r : Result (Option Session) DeviceStop). IfOk r (IsFound P 256 platform platform_now)) is finds

-- and that of a session a full one
pub found_full : {S : Type 0} (P : PlatformGhosts S) (platform platform_now : S) (session : Session) (result : Result (Option Session) DeviceStop) → result ≡ Ok (Some session) → P.tells → IfOk result (IsFound P 256 platform platform_now)
    → (P.history platform).present.cell ≡ None → ⊥
found_full P platform platform_now session result is told finds empty =
    let found : IsFound P 256 platform platform_now (Some session) = subst (λ (r : Result (Option Session) DeviceStop). IfOk r (IsFound P 256 platform platform_now)) is finds in
    let both : None ≡ Some (root_bytes session.root) = sym empty ∙ found.0.found told in
    cc

pub since_mount : {S : Type 0} (P : PlatformGhosts S) (platform platform_now : S) (old mid : Outside) (session : Session) (result : Result (Option Session) DeviceStop) → result ≡ Ok (Some session) → old.history ≡ P.history platform → mid.history ≡ P.history platform_now → old.head ≡ P.head platform → mid.head ≡ P.head platform_now
    → Looks P platform platform_now → IfOk result (IsFound P 256 platform platform_now)
    → (P.tells → (entry : State) → IsAt (P.history platform).present None entry → MountLeads (P.history platform_now).present entry result)
    → Since (IsStart P.tells old) (IsFrom P.tells mid session) old mid
since_mount P platform platform_now old mid session result is old_history mid_history old_head mid_head looks finds leads entry start =
    let told = start.told in
    let found : IsFound P 256 platform platform_now (Some session) = subst (λ (r : Result (Option Session) DeviceStop). IfOk r (IsFound P 256 platform platform_now)) is finds in
    let stands : Stands (P.history platform).present (Some entry.device) = subst (λ (h : History). Stands h.present (Some entry.device)) old_history start.stands in
    let served : IsServedImage (P.history platform).present = subst (λ (h : History). IsServedImage h.present) old_history start.served in
    let led = led_of (P.history platform_now).present session (closed (Some entry.device)) (subst (MountLeads (P.history platform_now).present (closed (Some entry.device))) is (leads told (closed (Some entry.device)) (shut (P.history platform).present (Some entry.device) stands served))) in
    let at : IsAt mid.history.present (Some session) (state_of entry) = subst (λ (h : History). IsAt h.present (Some session) (state_of entry)) (sym mid_history) (mounted_at (P.history platform_now).present session entry led start.session) in
    let none : needed_by session ≡ 0 = needs_none session (P.head platform_now) found.0.is_open found.0.untouched in
    let stays : CellStays old.history mid.history = subst (λ (h : History). CellStays h mid.history) (sym old_history) (subst (CellStays (P.history platform)) (sym mid_history) (looks.time told)) in (
      record { told = told; at = at; pages = start.pages ∙ old_head ∙ sym looks.head ∙ sym mid_head; needs = omega (arith, none) },
      made_kept old.history mid.history entry.device start.stands start.served stays,
    )

-- a mount that stopped, or found no device
early_stop : (tells : Type 0) (cell : Option (List ℕ)) (pages : ℕ) (stop : DeviceStop) → IsMountStop tells cell pages stop → IsEarly (halts.Stopped (stops.Device stop))
early_stop tells cell pages device.Platform is = tt
early_stop tells cell pages device.Memory is = tt
early_stop tells cell pages device.BadRoot is = tt
early_stop tells cell pages device.Tape is = absurd is
early_stop tells cell pages device.Ledger is = absurd is
early_stop tells cell pages (device.BadRecord addr) is = absurd is

ends_stop : (tells : Type 0) (cell : Option (List ℕ)) (pages : ℕ) (stop : DeviceStop) (entry : Held) → tells → IsServedCell cell pages → IsMountStop tells cell pages stop → EndsEarly entry (halts.Stopped (stops.Device stop))
ends_stop tells cell pages device.Platform entry told served is = tt
ends_stop tells cell pages device.Memory entry told served is = tt
ends_stop tells cell pages device.BadRoot entry told served is = absurd (bad_served cell pages served (is told))
ends_stop tells cell pages device.Tape entry told served is = absurd is
ends_stop tells cell pages device.Ledger entry told served is = absurd is
ends_stop tells cell pages (device.BadRecord addr) entry told served is = absurd is

pub silent_stop : (tells : Type 0) (old new : Outside) (stop : DeviceStop) (left written : Option (List ℕ)) → (tells → length old.history.present.recorded ≡ old.head) → IsMountStop tells old.history.present.cell old.head stop → (tells → CellStays old.history new.history) → (tells → new.reads ≤ old.reads + 1)
    → IsSilent tells 1 (IsStart tells old) old new (halts.Stopped (stops.Device stop)) left left written written
silent_stop tells old new stop left written pages is stays once = record {
  untaken = refl;
  unput = refl;
  early = early_stop tells old.history.present.cell old.head stop is;
  unspelled = λ told bad. cc;
  reads = λ told. omega (arith, once told);
  stayed = λ entry start. (
    made_kept old.history new.history entry.device start.stands start.served (stays start.told),
    ends_stop tells old.history.present.cell old.head stop entry start.told (subst (λ (n : ℕ). IsServedCell old.history.present.cell n) (pages start.told) start.served) is,
  );
}

no_device : (image : Image) (there : Device) → Stands image (Some there) → image.cell ≡ None → ⊥
no_device image there (root, parts, by) empty = let both : None ≡ Some (root_bytes root) = sym empty ∙ by.cell in cc

pub silent_none : (tells : Type 0) (old new : Outside) (left written : Option (List ℕ)) → (tells → old.history.present.cell ≡ None) → (tells → new.reads ≤ old.reads + 1) → IsSilent tells 1 (IsStart tells old) old new halts.NoDevice left left written written
silent_none tells old new left written empty once = record {
  untaken = refl;
  unput = refl;
  early = tt;
  unspelled = λ told bad. cc;
  reads = λ told. omega (arith, once told);
  stayed = λ entry start. absurd (no_device old.history.present entry.device start.stands (empty start.told));
}

-- ---- the look at the table

-- a read of a block reads a page for each level of the tree, of which there are 20 at most, and the block's own
pub along_table : {S : Type 0} (P : PlatformGhosts S) (platform platform_now : S) (drawn drawn_now : Drawn) (session now : Session) (head : ℕ) → IsOpen session head
    → Along P 0 (session.grove.level + 1) platform platform_now drawn drawn_now session now → Along P 0 21 platform platform_now drawn drawn_now session now
along_table P platform platform_now drawn drawn_now session now head there_open along =
    along_more P 0 0 (session.grove.level + 1) 21 platform platform_now drawn drawn_now session now (omega arith) (omega (arith, there_open.level)) along

early_table : (halt : Halt) → IsOfTable halt → IsEarly halt
early_table halts.BadDirectory of = tt
early_table halts.NoDevice of = absurd of
early_table (halts.Stopped stops.Source) of = absurd of
early_table (halts.Stopped stops.Sink) of = absurd of
early_table (halts.Stopped stops.Limit) of = absurd of
early_table (halts.Stopped (stops.Device device.Platform)) of = tt
early_table (halts.Stopped (stops.Device (device.BadRecord addr))) of = tt
early_table (halts.Stopped (stops.Device device.Tape)) of = absurd of
early_table (halts.Stopped (stops.Device device.Ledger)) of = absurd of
early_table (halts.Stopped (stops.Device device.Memory)) of = absurd of
early_table (halts.Stopped (stops.Device device.BadRoot)) of = absurd of

table_halt : (halt : Halt) → IsOfTable halt → reads_before halt ≡ 21
table_halt halts.BadDirectory of = refl
table_halt halts.NoDevice of = absurd of
table_halt (halts.Stopped stops.Source) of = absurd of
table_halt (halts.Stopped stops.Sink) of = absurd of
table_halt (halts.Stopped stops.Limit) of = absurd of
table_halt (halts.Stopped (stops.Device device.Platform)) of = refl
table_halt (halts.Stopped (stops.Device (device.BadRecord addr))) of = refl
table_halt (halts.Stopped (stops.Device device.Tape)) of = absurd of
table_halt (halts.Stopped (stops.Device device.Ledger)) of = absurd of
table_halt (halts.Stopped (stops.Device device.Memory)) of = absurd of
table_halt (halts.Stopped (stops.Device device.BadRoot)) of = absurd of

ends_table : (image : Image) (now : Session) (entry : Held) (halt : Halt) → FindsTable image now entry.device entry.session (Err halt) → EndsEarly entry halt
ends_table image now entry halts.BadDirectory none = λ table tabled. none table tabled.is tabled.spelled
ends_table image now entry halts.NoDevice none = absurd none
ends_table image now entry (halts.Stopped stops.Source) none = absurd none
ends_table image now entry (halts.Stopped stops.Sink) none = absurd none
ends_table image now entry (halts.Stopped stops.Limit) none = absurd none
ends_table image now entry (halts.Stopped (stops.Device device.Platform)) none = tt
ends_table image now entry (halts.Stopped (stops.Device (device.BadRecord addr))) none = absurd none
ends_table image now entry (halts.Stopped (stops.Device device.Tape)) none = absurd none
ends_table image now entry (halts.Stopped (stops.Device device.Ledger)) none = absurd none
ends_table image now entry (halts.Stopped (stops.Device device.Memory)) none = absurd none
ends_table image now entry (halts.Stopped (stops.Device device.BadRoot)) none = absurd none

-- which has none, on any pages
spells_none : (image : Image) (session : Session) (halt : Halt) → halt ≡ halts.BadDirectory → needed_by session ≡ 0 → IsMounted image session → FindsFirst image session (Err halt) → SpellsNone image
spells_none image session halt bad fresh mounted finds =
    let found = subst (λ (h : Halt). FindsFirst image session (Err h)) bad finds in
    (blocks_of session, found.0, record { session = session; mounted = mounted; fresh = fresh; many = refl; found = found.1 }, found.2)

pub silent_table : (tells : Type 0) (old new : Outside) (first now : Session) (halt : Halt) (left written : Option (List ℕ)) → IsOfTable halt → needed_by first ≡ 0 → (tells → CellStays old.history new.history)
    → (tells → (there : Device) (array : OpenSession) → IsAt old.history.present (Some first) (mounted there array) → FindsTable new.history.present now there array (Err halt))
    → (tells → IsMounted old.history.present first) → (tells → FindsFirst old.history.present first (Err halt)) → (tells → new.reads ≤ old.reads + 21)
    → IsSilent tells 0 (IsFrom tells old first) old new halt left left written written
silent_table tells old new first now halt left written of fresh stays finds mounted found few = record {
  untaken = refl;
  unput = refl;
  early = early_table halt of;
  unspelled = λ told bad. spells_none old.history.present first halt bad fresh (mounted told) (found told);
  reads = λ told. omega (arith, few told, table_halt halt of);
  stayed = λ entry from. (
    made_kept old.history new.history entry.device from.at.there.device from.at.served (stays from.told),
    ends_table new.history.present now entry halt (finds from.told entry.device entry.session from.at),
  );
}

pub spelled_of : (image : Image) (session : Session) (table : List Volume) → needed_by session ≡ 0 → IsMounted image session → FindsContent image.readable session.grove 0 (table_bytes table) → IsSpelled image (blocks_of session) table
spelled_of image session table fresh mounted found = record { session = session; mounted = mounted; fresh = fresh; many = refl; found = found }

-- what a read of block 0 comes to, on any pages
pub first_table : (Known : Type 0) (image after : Image) (session : Session) (bytes : List ℕ) (table : List Volume) → ReadsAny Known image after session 0 bytes (Ok tt) → bytes ≡ table_bytes table → Known → FindsFirst image session (Ok table)
first_table Known image after session bytes table any is known = subst (λ (b : List ℕ). FindsContent image.readable session.grove 0 b) is (any known)

pub first_none : (Known : Type 0) (image after : Image) (session : Session) (bytes : List ℕ) (blocks : ℕ) → ReadsAny Known image after session 0 bytes (Ok tt) → blocks ≡ blocks_of session → ((table : List Volume) → IsTable blocks table → bytes ≢ table_bytes table) → Known
    → FindsFirst image session (Err halts.BadDirectory)
first_none Known image after session bytes blocks any same none known = (bytes, any known, λ table is. none table (subst (λ (n : ℕ). IsTable n table) (sym same) is))

-- lines that were served behind it
pub answers_behind : (tells : Type 0) (old mid new : Outside) (before changes : ℕ) (first now : Session) (after : Option Session) (table table_now : List Volume) (ending : Ending) (left left_now written written_now : Option (List ℕ)) → mid.head ≡ old.head → mid.drawn ≡ old.drawn → mid.capacity ≡ old.capacity
    → needed_by now ≤ needed_by first → needed_by first ≡ 0 → (tells → IsMounted mid.history.present now) → (tells → CellStays old.history mid.history) → (tells → mid.reads ≤ old.reads + 21) → IsTable (blocks_of first) table
    → (tells → (there : Device) (array : OpenSession) → IsAt old.history.present (Some first) (mounted there array) → FindsTable mid.history.present now there array (Ok table)) → (tells → IsSpelled old.history.present (blocks_of first) table)
    → blocks_of now ≡ blocks_of first → room_of now ≡ 256 → RanLines tells (blocks_of now) (record { session = Some now; table = table; outside = mid; changes = before }) (record { session = after; table = table_now; outside = new; changes = changes }) ending left left_now written written_now
    → (answers : Answers tells 0 (IsFrom tells old first) old new ending left left_now written written_now) × (tells → ChangesFew before changes answers.lines answers.replies)
answers_behind tells old mid new before changes first now after table table_now ending left left_now written written_now head drawn capacity needs fresh mounted stays few whole finds spelled many room ran =
    let replied = ran.handled.replied in
    let start : Pause = paused mid now table in
    let on_tables = replied.tables now refl in
    let same_tally : tally_of mid ≡ tally_of old = λ k. tally (drawn k) (head k) in (
      record {
        taken = ran.taken;
        lines = ran.lines;
        gave = ran.gave;
        took = ran.took;
        come = ran.come;
        replies = replied.replies;
        part = replied.part;
        got = subst (λ (bytes : List ℕ). Got written bytes written_now) replied.put_is ran.handled.got;
        behind = replied.behind;
        many = replied.many;
        prompt = ran.prompt;
        session = after;
        blocks = blocks_of first;
        start = start;
        table = table_now;
        spelled = (whole, spelled);
        begins = record {
          later = λ told. (stays told).extends.later;
          within = λ told. (on_tables.extends told).later;
          mounted = λ told. subst (λ (i : Image). IsMounted i now) (sym ((on_tables.extends told).same (moment mid.history) (omega arith) ∙ image_at-now mid.history (moment mid.history) (omega arith))) (mounted told);
          reads = λ told. omega (arith, few told);
          fresh = omega (arith, needs, fresh);
          many = many;
          room = room;
        };
        tables = tables_since tells (blocks_of first) start after table_now old mid new ran.lines replied.replies ending (λ told. (stays told).extends)
            (subst (λ (n : ℕ). OnTables tells n start after table_now mid new ran.lines replied.replies ending) many on_tables);
        drew = subst (λ (t : Tally). DrewUntil t ran.lines replied.replies (tally_of new)) same_tally replied.drew;
        led = λ entry from.
            let found = finds from.told entry.device entry.session from.at in
            let stands = from.at.there.session.0.stands in
            let tabled : IsTabled entry table = record { is = subst (λ (n : ℕ). IsTable n table) stands.blocks whole; spelled = found.1 } in
            let held : IsHeld mid.history.present mid.head now table entry = record { at = found.0; pages = from.pages ∙ sym head; needs = omega (arith, from.needs, needs); tabled = tabled } in
            let on = replied.led from.told entry (record { session = now; going = refl; held = held }) in
            let kept : MadeBetween old.history mid.history entry.device [] entry.device = made_kept old.history mid.history entry.device from.at.there.device from.at.served (stays from.told) in
            let below : entry.device.blocks < 2 ^ 64 = omega (arith, sym stands.blocks, stands.in_range.blocks_most) in
            volumes_of old new after table table_now entry ran.lines replied.replies replied.part ending on.led.states on.ahead below tabled
            (onwards_since old mid new after table_now entry ran.lines replied.replies replied.part ending on.led.states on.ahead capacity kept (record { leads = on.led.leads; made = on.led.made; ends = on.ends; pages = on.pages; shown = on.shown }));
      },
      replied.changes,
    )

-- which synced no oftener, behind calls that sync nothing
pub lines_served : (tells : Type 0) (From : Held → Type 0) (old new : Outside) (before mid now : ℕ) (ending : Ending) (result : Result (Unit {0}) Halt) (left left_now written written_now : Option (List ℕ)) → result ≡ halting ending → (tells → mid ≡ before)
    → (answers : Answers tells 0 From old new ending left left_now written written_now) × (tells → ChangesFew mid now answers.lines answers.replies) → ServesFew tells 0 From old new result left left_now written written_now before now
lines_served tells From old new before mid now ending result left left_now written written_now is still answered = record {
  serves = inr (ending, is, answered.0);
  changes = λ told. few_behind before mid now answered.0.lines answered.0.replies (still told) (answered.1 told);
}

-- ---- block 0

-- has a table
pub finds_table : (image : Image) (now : Session) (there : Device) (array : OpenSession) (bytes : List ℕ) (table : List Volume) → ReadsBlock image now there array 0 bytes (Ok tt) → bytes ≡ table_bytes table → FindsTable image now there array (Ok table)
finds_table image now there array bytes table (at, read) is = (at, sym read ∙ is)

-- or none
pub finds_none : (image old : Image) (first now : Session) (there : Device) (array : OpenSession) (bytes : List ℕ) (blocks : ℕ) → IsAt old (Some first) (mounted there array) → blocks ≡ blocks_of first → ReadsBlock image now there array 0 bytes (Ok tt)
    → ((table : List Volume) → IsTable blocks table → bytes ≢ table_bytes table) → FindsTable image now there array (Err halts.BadDirectory)
finds_none image old first now there array bytes blocks at same (then', read) none table whole is =
    none table (subst (λ (n : ℕ). IsTable n table) (sym (at.there.session.0.stands.blocks) ∙ sym same) whole) (read ∙ is)

-- or the read stopped
pub finds_stop : (image : Image) (now : Session) (there : Device) (array : OpenSession) (bytes : List ℕ) (stop : DeviceStop) → ReadsBlock image now there array 0 bytes (Err stop) → FindsTable image now there array (Err (halts.Stopped (stops.Device stop)))
finds_stop image now there array bytes device.Platform at = tt
finds_stop image now there array bytes device.Memory at = absurd at
finds_stop image now there array bytes device.Tape at = absurd at
finds_stop image now there array bytes device.Ledger at = absurd at
finds_stop image now there array bytes device.BadRoot at = absurd at
finds_stop image now there array bytes (device.BadRecord addr) at = absurd at

pub read_halt : (Known : Type 0) (image after : Image) (session : Session) (block : ℕ) (bytes : List ℕ) (stop : DeviceStop) → ReadsAny Known image after session block bytes (Err stop) → IsOfTable (halts.Stopped (stops.Device stop))
read_halt Known image after session block bytes device.Platform any = tt
read_halt Known image after session block bytes device.Memory any = absurd any
read_halt Known image after session block bytes device.Tape any = absurd any
read_halt Known image after session block bytes device.Ledger any = absurd any
read_halt Known image after session block bytes device.BadRoot any = absurd any
read_halt Known image after session block bytes (device.BadRecord addr) any = tt

-- and that it names a wrong place, where it names one
pub read_meets : (Known : Type 0) (image after : Image) (session : Session) (block : ℕ) (bytes : List ℕ) (stop : DeviceStop) → ReadsAny Known image after session block bytes (Err stop) → Known → MeetsDamage after stop
read_meets Known image after session block bytes device.Platform any known = tt
read_meets Known image after session block bytes device.Memory any known = absurd any
read_meets Known image after session block bytes device.Tape any known = absurd any
read_meets Known image after session block bytes device.Ledger any known = absurd any
read_meets Known image after session block bytes device.BadRoot any known = absurd any
read_meets Known image after session block bytes (device.BadRecord addr) any known = inl (any known)

-- ---- a refusal left all as it was

pub idle_since : {R I L : Type 0} (tells Put : Type 0) (tape tape_now : R) (input input_now : I) (ledger ledger_now : L) (head mid_head head_now : ℕ) (old mid new : History) (result : Result (Unit {0}) Halt) → mid_head ≡ head → (tells → CellStays old mid)
    → IfErr result (λ halt. IsRefusal halt → IsIdle tells tape tape_now input input_now ledger ledger_now mid_head head_now mid new × Put)
    → IfErr result (λ halt. IsRefusal halt → IsIdle tells tape tape_now input input_now ledger ledger_now head head_now old new × Put)
idle_since tells Put tape tape_now input input_now ledger ledger_now head mid_head head_now old mid new (Ok done) same stays idle = tt
idle_since tells Put tape tape_now input input_now ledger ledger_now head mid_head head_now old mid new (Err halt) same stays idle = λ of.
    let i = (idle of).0 in
    (record { undrawn = i.undrawn; untaken = i.untaken; unlisted = i.unlisted; pages = i.pages ∙ same; cell = λ told. stays_then old mid new (stays told) (i.cell told) }, (idle of).1)
