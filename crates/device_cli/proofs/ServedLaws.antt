-- What serving a command makes of the state, by the array machine.
use Rattle.std.proofs.Common.{◌≡◌, ℕ, ◌+◌, ◌-◌, ◌<◌, ◌≤◌, Bool, true, false, List, Option, None, Some, Ok, refl, sym, subst, ap, arith}
use Rattle.std.specs.Prelude.{nat_lt, ◌==◌}
use Rattle.std.specs.FinMap as map
use Rattle.std.proofs.lemmas.Grind.{common_steps}
use Rattle.platform.specs.Image.{Image}
use Rattle.platform.specs.History.{During}
use Rattle.platform.proofs.Moments.{Turns-not}
use Rattle.page_store.proofs.StandsLaws.{stands_during}
use Rattle.sdbt_base.specs.Arrays.{Blocks, content_of, closed, Device, Session as OpenSession, State, new_device, session_on, committed, upgraded, written, unmapped}
use Rattle.device_session.specs.Open.{is_touched}
use Rattle.device_session.specs.Holds.{Holds}
use Rattle.device_session.specs.Sessions.{Session}
use Rattle.script_lang.specs.Commands.{Command, Format, Read, Write, Trim, Commit, Drop, Upgrade}
use Rattle.script_lang.specs.Commands as commands
use Rattle.script_lang.specs.Replies.{Reply, Formatted, Done, Committed, Upgraded, Unmounted, AlreadyUpgraded, Range, Full}
use Rattle.script_lang.specs.Replies as replies
use Rattle.script_lang.specs.Arrays.{content_reply, in_limits}
use Rattle.script_lang.specs.Answers.{answer, none_counted}
use Rattle.device_cli.specs.World.{World, is_full, needed_of}
use Rattle.device_cli.specs.Pages.{needed_for, upgrade_of}
use Rattle.device_cli.specs.Replied.{Serves, Halts}
use Rattle.line_run.specs.Stops.{IsSound}
use Rattle.device_course.specs.States.{IsSessionOf}
use Rattle.device_course.specs.Marks.{Leaves}
use Rattle.device_cli.specs.Represents.{StandsFor, Represents}
use Rattle.session_calls.specs.declared.stops.DeviceStop.{DeviceStop}
use Rattle.session_calls.specs.declared.stops.DeviceStop.TheVariants as device

-- a state with a session
abbrev pub at : Device → OpenSession → State
at device session = record { device = Some device; session = Some session }

by_cases : (s : Option Session) (image : Image) (device : Option Device) (there : Option OpenSession) (session : Session) → s ≡ Some session
    → IsSessionOf s image device there → (Goal : State → Type 0)
    → ((d : Device) (t : OpenSession) → Holds session image d t.contents → is_touched session ≡ t.touched → Goal (at d t))
    → Goal (record { device = device; session = there })
by_cases None image device there session e h Goal k = absurd cc
by_cases (Some s) image device None session e h Goal k = absurd h
by_cases (Some s) image None (Some t) session e h Goal k = absurd h
by_cases (Some s) image (Some d) (Some t) session e h Goal k =
    let same : s ≡ session = cc in
    k d t (subst (λ (x : Session). Holds x image d t.contents) same h.0) (subst (λ (x : Session). is_touched x ≡ t.touched) same h.1)

-- what a world with a session stands for
pub with_session : (w : World) (session : Session) (state : State) → w.session ≡ Some session → Represents w state → (Goal : State → Type 0)
    → ((d : Device) (t : OpenSession) → Holds session w.history.present d t.contents → is_touched session ≡ t.touched → Goal (at d t)) → Goal state
with_session w session state e rep Goal k = by_cases w.session w.history.present state.device state.session session e rep.session Goal k

none_there : (s : Option Session) (image : Image) (device : Option Device) (there : Option OpenSession) → s ≡ None → IsSessionOf s image device there → there ≡ None
none_there None image device None e h = refl
none_there None image device (Some t) e h = absurd h
none_there (Some s) image device there e h = absurd cc

-- what one without a session stands for
pub without_session : (w : World) (state : State) → w.session ≡ None → Represents w state → (Goal : State → Type 0) → (StandsFor w.history.present state.device → Goal (closed state.device)) → Goal state
without_session w state e rep Goal k =
    subst (λ (there : Option OpenSession). Goal (record { device = state.device; session = there })) (sym (none_there w.session w.history.present state.device state.session e rep.session)) (k rep.device)

-- below a session the image stands for its device
pub holds_stands : (session : Session) (image : Image) (d : Device) (contents : Blocks) → Holds session image d contents → StandsFor image (Some d)
holds_stands session image d contents holds = (session.root, holds.committed, holds.stands)

pub has_session : (w : World) (session : Session) (d : Device) (t : OpenSession) → w.session ≡ Some session
    → Holds session w.history.present d t.contents → is_touched session ≡ t.touched → Represents w (at d t)
has_session w session d t e holds touched = record {
  device = holds_stands session w.history.present d t.contents holds;
  session = subst (λ (s : Option Session). IsSessionOf s w.history.present (Some d) (Some t)) (sym e) (holds, touched);
}

pub has_none : (w : World) (device : Option Device) → w.session ≡ None → StandsFor w.history.present device → Represents w (closed device)
has_none w device e stands = record {
  device = stands;
  session = subst (λ (s : Option Session). IsSessionOf s w.history.present device None) (sym e) tt;
}

-- time in which the cell stays leaves the device
pub leaves_still : (old new : World) (entry : State) → Represents old entry → During old.history new.history (λ image. image.cell ≡ old.history.present.cell)
    → During old.history new.history (Leaves entry.device)
leaves_still old new entry rep during = stands_during old.history new.history _ rep.device during

-- a reply of a call that left the cell
pub serves_still : (old new : World) (entry now : State) (command : Command) (reply : Reply) → Represents old entry → (reply, now) ≡ answer (is_full old entry command) none_counted entry command → Represents new now
    → During old.history new.history (λ image. image.cell ≡ old.history.present.cell) → Serves old new entry command (Ok reply)
serves_still old new entry now command reply rep is after during =
    (now, (none_counted, is), after, Turns-not old.history new.history (Leaves entry.device) (Leaves now.device) (leaves_still old new entry rep during))

-- a fault of a call that left the cell
pub halts_still : (old new : World) (entry : State) (command : Command) (stop : DeviceStop) → IsSound stop → Represents old entry
    → During old.history new.history (λ image. image.cell ≡ old.history.present.cell) → Halts old new entry command stop
halts_still old new entry command device.Platform sound rep during =
    Turns-not old.history new.history (Leaves entry.device) (Leaves (answer (is_full old entry command) none_counted entry command).1.device) (leaves_still old new entry rep during)
halts_still old new entry command device.Tape sound rep during = leaves_still old new entry rep during
halts_still old new entry command device.Ledger sound rep during = leaves_still old new entry rep during
halts_still old new entry command device.Memory sound rep during = leaves_still old new entry rep during
halts_still old new entry command device.BadRoot sound rep during = absurd sound
halts_still old new entry command (device.BadRecord addr) sound rep during = absurd sound

below : (block blocks : ℕ) → block < blocks → nat_lt block blocks ≡ true
below block blocks h = grind (arith, common_steps)

above : (block blocks : ℕ) → blocks ≤ block → nat_lt block blocks ≡ false
above block blocks h = grind (arith, common_steps)

-- whether fewer pages are free than a command needs
pub is_full_true : (w : World) (state : State) (command : Command) → w.capacity - w.head < needed_for command (needed_of w.session) (upgrade_of state) → is_full w state command ≡ true
is_full_true w state command few = below (w.capacity - w.head) (needed_for command (needed_of w.session) (upgrade_of state)) few

pub is_full_false : (w : World) (state : State) (command : Command) → needed_for command (needed_of w.session) (upgrade_of state) ≤ w.capacity - w.head → is_full w state command ≡ false
is_full_false w state command many = above (w.capacity - w.head) (needed_for command (needed_of w.session) (upgrade_of state)) many

-- replies without a session
pub gives_unmounted_read : (full : Bool) (device : Option Device) (block : ℕ) → (Unmounted, closed device) ≡ answer full none_counted (closed device) (Read block)
gives_unmounted_read full None block = refl
gives_unmounted_read full (Some d) block = refl

pub gives_unmounted_write : (full : Bool) (device : Option Device) (block : ℕ) (bytes : List ℕ) → (Unmounted, closed device) ≡ answer full none_counted (closed device) (Write block bytes)
gives_unmounted_write full None block bytes = refl
gives_unmounted_write full (Some d) block bytes = refl

pub gives_unmounted_trim : (full : Bool) (device : Option Device) (block : ℕ) → (Unmounted, closed device) ≡ answer full none_counted (closed device) (Trim block)
gives_unmounted_trim full None block = refl
gives_unmounted_trim full (Some d) block = refl

pub gives_unmounted_commit : (full : Bool) (device : Option Device) → (Unmounted, closed device) ≡ answer full none_counted (closed device) Commit
gives_unmounted_commit full None = refl
gives_unmounted_commit full (Some d) = refl

pub gives_unmounted_drop : (full : Bool) (device : Option Device) → (Unmounted, closed device) ≡ answer full none_counted (closed device) Drop
gives_unmounted_drop full None = refl
gives_unmounted_drop full (Some d) = refl

pub gives_unmounted_stat : (full : Bool) (device : Option Device) → (Unmounted, closed device) ≡ answer full none_counted (closed device) commands.Stat
gives_unmounted_stat full None = refl
gives_unmounted_stat full (Some d) = refl

-- and with one
pub gives_content : (full : Bool) (d : Device) (t : OpenSession) (block : ℕ) (content : List ℕ) → block < d.blocks → content ≡ content_of t.contents block
    → (content_reply content, at d t) ≡ answer full none_counted (at d t) (Read block)
gives_content full d t block content within is = rw (below block d.blocks within) (ap (λ (c : List ℕ). (content_reply c, at d t)) is)

pub gives_read_range : (full : Bool) (d : Device) (t : OpenSession) (block : ℕ) → d.blocks ≤ block → (Range, at d t) ≡ answer full none_counted (at d t) (Read block)
gives_read_range full d t block past = rw (above block d.blocks past) refl

pub gives_written : (full : Bool) (d : Device) (t : OpenSession) (block : ℕ) (bytes : List ℕ) → full ≡ false → block < d.blocks
    → (Done, at d (written t block bytes)) ≡ answer full none_counted (at d t) (Write block bytes)
gives_written full d t block bytes room within = rw (below block d.blocks within, room) refl

pub gives_write_range : (full : Bool) (d : Device) (t : OpenSession) (block : ℕ) (bytes : List ℕ) → d.blocks ≤ block → (Range, at d t) ≡ answer full none_counted (at d t) (Write block bytes)
gives_write_range full d t block bytes past = rw (above block d.blocks past) refl

pub gives_write_full : (full : Bool) (d : Device) (t : OpenSession) (block : ℕ) (bytes : List ℕ) → full ≡ true → block < d.blocks → (Full, at d t) ≡ answer full none_counted (at d t) (Write block bytes)
gives_write_full full d t block bytes none within = rw (below block d.blocks within, none) refl

pub gives_trimmed : (full : Bool) (d : Device) (t : OpenSession) (block : ℕ) → block < d.blocks → (Done, at d (unmapped t block)) ≡ answer full none_counted (at d t) (Trim block)
gives_trimmed full d t block within = rw (below block d.blocks within) refl

pub gives_trim_range : (full : Bool) (d : Device) (t : OpenSession) (block : ℕ) → d.blocks ≤ block → (Range, at d t) ≡ answer full none_counted (at d t) (Trim block)
gives_trim_range full d t block past = rw (above block d.blocks past) refl

pub gives_raised : (full : Bool) (d : Device) (t : OpenSession) → full ≡ false → t.touched ≡ true
    → (Committed (d.number + 1), at (committed d t) (session_on (committed d t))) ≡ answer full none_counted (at d t) Commit
gives_raised full d t room touched = rw (touched, room) refl

pub gives_idle : (full : Bool) (d : Device) (t : OpenSession) → t.touched ≡ false → (Committed d.number, at d t) ≡ answer full none_counted (at d t) Commit
gives_idle full d t idle = rw idle refl

pub gives_commit_full : (full : Bool) (d : Device) (t : OpenSession) → full ≡ true → t.touched ≡ true → (Full, at d t) ≡ answer full none_counted (at d t) Commit
gives_commit_full full d t none touched = rw (touched, none) refl

pub gives_stat : (full : Bool) (d : Device) (t : OpenSession) (mapped number : ℕ) → mapped ≡ map.len t.contents → number ≡ d.number
    → (replies.Stat mapped number, at d t) ≡ answer full none_counted (at d t) commands.Stat
gives_stat full d t mapped number m n = cc

-- a device is there, or none, whatever the session
abbrev pub on : Option Device → Option OpenSession → State
on device there = record { device = device; session = there }

pub gives_format_range : (full : Bool) (there : Option OpenSession) (blocks order : ℕ) → in_limits blocks order ≡ false → (Range, on None there) ≡ answer full none_counted (on None there) (Format blocks order)
gives_format_range full there blocks order out = rw out refl

pub gives_formatted : (full : Bool) (there : Option OpenSession) (blocks order : ℕ) → full ≡ false → in_limits blocks order ≡ true
    → (Formatted, on (Some (new_device blocks order)) there) ≡ answer full none_counted (on None there) (Format blocks order)
gives_formatted full there blocks order room within = rw (within, room) refl

pub gives_format_full : (full : Bool) (there : Option OpenSession) (blocks order : ℕ) → full ≡ true → in_limits blocks order ≡ true
    → (Full, on None there) ≡ answer full none_counted (on None there) (Format blocks order)
gives_format_full full there blocks order none within = rw (within, none) refl

-- an upgrade, without a session
one_not_two : (version : ℕ) → version ≡ 1 → (version == 2) ≡ false
one_not_two version is = subst (λ (n : ℕ). (n == 2) ≡ false) (sym is) refl

two_is : (version : ℕ) → version ≡ 2 → (version == 2) ≡ true
two_is version is = subst (λ (n : ℕ). (n == 2) ≡ true) (sym is) refl

pub gives_upgraded : (full : Bool) (d : Device) → full ≡ false → d.version ≡ 1 → (Upgraded (d.number + 1), closed (Some (upgraded d))) ≡ answer full none_counted (closed (Some d)) Upgrade
gives_upgraded full d room one = rw (one_not_two d.version one, room) refl

pub gives_upgrade_full : (full : Bool) (d : Device) → full ≡ true → d.version ≡ 1 → (Full, closed (Some d)) ≡ answer full none_counted (closed (Some d)) Upgrade
gives_upgrade_full full d none one = rw (one_not_two d.version one, none) refl

pub gives_already : (full : Bool) (d : Device) → d.version ≡ 2 → (AlreadyUpgraded, closed (Some d)) ≡ answer full none_counted (closed (Some d)) Upgrade
gives_already full d two = rw (two_is d.version two) refl
