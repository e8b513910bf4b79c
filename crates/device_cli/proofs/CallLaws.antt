-- What a desk has of a call of its session.
use Rattle.std.proofs.Common.{◌≡◌, ℕ, ◌+◌, ◌-◌, ◌<◌, ◌≤◌, Bool, true, false, List, Option, None, Some, Ok, Err, inl, inr, refl, sym, ◌∙◌, subst, ap, arith}
use Rattle.platform.specs.Image.{Image}
use Rattle.platform.specs.History.{CellStays, History, Turns}
use Rattle.platform.proofs.Moments.{During-now, Turns-not}
use Rattle.root_codec.specs.declared.root.Root.{Root}
use Rattle.device_core.specs.Publishing.{IsUnmade}
use Rattle.device_core.specs.Upgrading.{Begins, needed_of_device}
use Rattle.platform.specs.declared.platforms.Platform.{Ghosts}
use Rattle.sdbt_base.specs.declared.tapes.Tape.{Ghosts as TapeGhosts}
use Rattle.sdbt_base.specs.Arrays.{Blocks, Device, Session as OpenSession, State, closed, committed, session_on, upgraded}
use Rattle.device_terms.specs.Served.{IsServedImage}
use Rattle.device_course.specs.Keys.{KeepsOn}
use Rattle.device_course.specs.Marks.{Leaves}
use Rattle.device_course.specs.States.{IsAt}
use Rattle.device_course.specs.States as states
use Rattle.device_session.specs.declared.refusals.CommitReply.TheVariants as replies
use Rattle.device_course.proofs.KeysLaws.{on_done}
use Rattle.device_session.specs.Open.{IsOpen, blocks_of, is_touched, root_of}
use Rattle.device_session.proofs.CountLaws.{needs_some}
use Rattle.root_codec.specs.RootRecord.{root_bytes}
use Rattle.page_store.specs.Roots.{IsRootWithin}
use Rattle.device_session.specs.Reading.{room_of}
use Rattle.device_session.specs.Sessions.{Session}
use Rattle.script_lang.specs.Answers.{answer, none_counted}
use Rattle.script_lang.specs.Commands.{Command, Commit, Mount, Read, Trim, Upgrade, Write}
use Rattle.script_lang.specs.Replies.{AlreadyUpgraded, Committed, Full, NoDevice, Reply, Upgraded}
use Rattle.script_lang.specs.declared.replies.Reply.{Reply as Given}
use Rattle.std.specs.Prelude.{◌⊎◌, IfSome, IsErrOf}
use Rattle.session_calls.specs.Along.{Drawn}
use Rattle.device_session.specs.Damage.{IsAtLimit, IsPastLimit, IsUncounted}
use Rattle.session_calls.specs.Damage.{IsMiscountedAt, IsMounted, IsWrongNode, ReadsAny, TrimsAny, WritesAny}
use Rattle.session_calls.specs.Blame.{IsOfCall}
use Rattle.session_calls.specs.Commits.{CommitLeads, HasNumber, IsShort, ReplyLeads, StopsAt}
use Rattle.session_calls.specs.Mounts.{IsMountStop, MountLeads}
use Rattle.session_calls.specs.Goes.{AddsBlock, ReadsBlock, TrimsBlock, WritesBlock}
use Rattle.session_calls.specs.Upgrades.{LeadsNowhere, LeadsUpgraded, MayUpgrade, StopsUpgrade, UpgradeLeads}
use Rattle.session_calls.specs.declared.stops.DeviceStop.{DeviceStop}
use Rattle.session_calls.specs.declared.stops.DeviceStop.TheVariants as stops
use Rattle.session_calls.proofs.StateLaws.{at_array}
use Rattle.device_cli.specs.Looks.{changes_stopped, most_changes}
use Rattle.session_calls.specs.Commits.{most_stopped}
use Rattle.sdbt_base.specs.Rises.{MayRiseBy}
use Rattle.device_cli.proofs.LookLaws.{changed_not}
use Rattle.session_calls.proofs.UpgradeLaws.{turns_upgraded}
use Rattle.device_cli.specs.Added.{LeavesFew, left_by}
use Rattle.device_cli.specs.Causes.{MayStop, OnMounted}
use Rattle.device_cli.specs.Desk.{After, ReadsTree}
use Rattle.device_cli.specs.Replied.{Halts, Serves}
use Rattle.line_run.specs.Stops.{IsSound}
use Rattle.device_cli.specs.Represents.{Represents}
use Rattle.device_cli.specs.World.{World, is_full, needed_of, world_of}
use Rattle.device_cli.specs.declared.desk.Desk.{Desk}
use Rattle.device_cli.proofs.ReplyLaws.{held_has}
use Rattle.device_cli.proofs.ServedLaws.{at, with_session, has_none, has_session, serves_still, halts_still, is_full_false, is_full_true, gives_already, gives_commit_full, gives_idle, gives_raised, gives_upgrade_full, gives_upgraded}
use Rattle.device_cli.proofs.ServingLaws.{KeepsCell, keeps_same, needed_some}

-- the device has as many blocks as the session
pub within_device : (image : Image) (session : Session) (d : Device) (t : OpenSession) (block : ℕ) → IsAt image (Some session) (at d t) → block < blocks_of session → block < d.blocks
within_device image session d t block there within = subst (λ (n : ℕ). block < n) there.there.session.0.stands.blocks within

pub past_device : (image : Image) (session : Session) (d : Device) (t : OpenSession) (block : ℕ) → IsAt image (Some session) (at d t) → blocks_of session ≤ block → d.blocks ≤ block
past_device image session d t block there past = subst (λ (n : ℕ). n ≤ block) there.there.session.0.stands.blocks past

-- a reply behind a call that left the cell, by the array that it led to
pub serves_led : (old new : World) (session now : Session) (entry : State) (command : Command) (reply : Reply) (next : OpenSession → OpenSession) → old.session ≡ Some session → new.session ≡ Some now
    → IsServedImage old.history.present
    → ((d : Device) (t : OpenSession) → IsAt old.history.present (Some session) (at d t)
    → IsAt new.history.present (Some now) (at d (next t)) × ((reply, at d (next t)) ≡ answer (is_full old (at d t) command) none_counted (at d t) command))
    → KeepsCell old new → Represents old entry → Serves old new entry command (Ok reply)
serves_led old new session now entry command reply next taken going served led keeps rep =
    with_session old session entry taken rep (λ state. Serves old new state command (Ok reply))
    (λ d t holds touched.
    let both = led d t (at_array old.history.present session d t holds touched served) in
    serves_still old new (at d t) (at d (next t)) command reply (has_session old session d t taken holds touched) both.1
    (has_session new now d (next t) going both.0.there.session.0 both.0.there.session.1) keeps)

-- a stop at a call that left the cell, and met no damage over an array
pub halts_led : (old new : World) (session : Session) (entry : State) (command : Command) (stop : DeviceStop) → old.session ≡ Some session → IsServedImage old.history.present
    → ((d : Device) (t : OpenSession) → IsAt old.history.present (Some session) (at d t) → IsSound stop) → KeepsCell old new → Represents old entry → Serves old new entry command (Err stop)
halts_led old new session entry command stop taken served sound keeps rep =
    with_session old session entry taken rep (λ state. Serves old new state command (Err stop))
    (λ d t holds touched. halts_still old new (at d t) command stop (sound d t (at_array old.history.present session d t holds touched served)) (has_session old session d t taken holds touched) keeps)

pub trim_sound : (image : Image) (now : Session) (d : Device) (t : OpenSession) (block : ℕ) (stop : DeviceStop) → TrimsBlock image now d t block (Err stop) → IsSound stop
trim_sound image now d t block stops.Memory led = tt
trim_sound image now d t block stops.Platform led = tt
trim_sound image now d t block stops.Tape led = tt
trim_sound image now d t block stops.Ledger led = tt
trim_sound image now d t block stops.BadRoot led = led
trim_sound image now d t block (stops.BadRecord addr) led = led

pub write_sound : (image : Image) (now : Session) (d : Device) (t : OpenSession) (block : ℕ) (bytes : List ℕ) (stop : DeviceStop) → WritesBlock image now d t block bytes (Err stop) → IsSound stop
write_sound image now d t block bytes stops.Memory led = tt
write_sound image now d t block bytes stops.Platform led = tt
write_sound image now d t block bytes stops.Tape led = tt
write_sound image now d t block bytes stops.Ledger led = tt
write_sound image now d t block bytes stops.BadRoot led = led
write_sound image now d t block bytes (stops.BadRecord addr) led = led

pub read_sound : (image : Image) (now : Session) (d : Device) (t : OpenSession) (block : ℕ) (bytes : List ℕ) (stop : DeviceStop) → ReadsBlock image now d t block bytes (Err stop) → IsSound stop
read_sound image now d t block bytes stops.Memory led = tt
read_sound image now d t block bytes stops.Platform led = tt
read_sound image now d t block bytes stops.Tape led = tt
read_sound image now d t block bytes stops.Ledger led = tt
read_sound image now d t block bytes stops.BadRoot led = led
read_sound image now d t block bytes (stops.BadRecord addr) led = led

-- what is kept by a call of what is held
pub on_held : (tells : Type 0) (drawn drawn_now : Option (List (List ℕ))) (written written_now : Option (List ℕ)) (held there : Option Session) (old new : History) (Was Going : Type 0) (Then Done : List (List ℕ) → Type 0) → held ≡ there
    → KeepsOn tells drawn drawn_now written written_now there old new Was Then → (Going → Was) → ((keys : List (List ℕ)) → Then keys → Done keys) → KeepsOn tells drawn drawn_now written written_now held old new Going Done
on_held tells drawn drawn_now written written_now held there old new Was Going Then Done is on was done =
    subst (λ (s : Option Session). KeepsOn tells drawn drawn_now written written_now s old new Going Done) (sym is)
    (on_done tells drawn drawn_now written written_now there old new Was Going Then Done on was done)

-- a call for a block never stops at the root record
pub no_root : {X : Type 0} (stop : DeviceStop) → IsOfCall stop → IsErrOf {T = X} {E = DeviceStop} (Err stop) stops.BadRoot → ⊥
no_root stops.BadRoot of e = of
no_root stops.Platform of e = cc
no_root stops.Tape of e = cc
no_root stops.Ledger of e = cc
no_root stops.Memory of e = cc
no_root (stops.BadRecord addr) of e = cc

-- what a stop of a call leaves
pub after_stopped : {S : Type 0} (P : Ghosts S) (before desk : Desk) (old new : S) (command : Command) (stop : DeviceStop) → (IsErrOf {T = Given} {E = DeviceStop} (Err stop) stops.BadRoot → ⊥) → P.capacity new ≡ P.capacity old → P.head old ≤ P.head new → (P.tells → P.changes new ≡ P.changes old)
    → LeavesFew P.tells (P.history old).present stop command (needed_of before.session) (P.head old) (P.head new) → ReadsTree P before old new command → After P before desk old new command (Err stop)
after_stopped P before desk old new command stop none capacity rises same added reads = record {
  ready = tt;
  room = tt;
  mounted = λ told. tt;
  reply = tt;
  short = tt;
  wiped = tt;
  bad_root = λ told. none;
  capacity = capacity;
  rises = rises;
  changes = λ told. changed_not (changes_stopped command stop) (P.changes old) (P.changes new) (same told);
  reads = λ told. reads;
  added = added;
  full = tt;
}

-- how often a command that may sync and replace the root record does so where it stops
pub stopped_changes : (command : Command) (stop : DeviceStop) (old new : ℕ) → most_changes command ≡ 2 → MayRiseBy (most_stopped stop) old new → MayRiseBy (changes_stopped command stop) old new
stopped_changes command stops.Platform old new two few = record { rises = few.rises; at_most = let most = few.at_most in omega (arith, most, two) }
stopped_changes command stops.Ledger old new two few = record { rises = few.rises; at_most = let most = few.at_most in omega (arith, most, two) }
stopped_changes command stops.Tape old new two few = few
stopped_changes command stops.Memory old new two few = few
stopped_changes command stops.BadRoot old new two few = few
stopped_changes command (stops.BadRecord addr) old new two few = few

-- the session that is held is on the root record in the cell
pub mounted_held : (held : Option Session) (session : Session) (image : Image) → held ≡ Some session → IfSome held (IsMounted image) → IsMounted image session
mounted_held held session image is mounted = subst (λ (s : Option Session). IfSome s (IsMounted image)) is mounted

-- nothing that a call draws
abbrev pub no_draw : Option (List (List ℕ)) → Drawn
no_draw keys = record { keys = keys; faults = 0 }

-- ---- any image

pub room_held : (held : Option Session) (session : Session) → held ≡ Some session → IfSome held (λ s. room_of s ≡ 256) → room_of session ≡ 256
room_held held session is room = subst (λ (h : Option Session). IfSome h (λ s. room_of s ≡ 256)) is room

-- what holds of the session that is held, where a call left the cell
pub mounted_has : (tells : Type 0) (held : Option Session) (session : Session) (old new : History) (P : Session → Type 0) → held ≡ Some session → (tells → CellStays old new) → (tells → IfSome held (IsMounted old.present)) → P session
    → OnMounted tells new.present held P
mounted_has tells held session old new P is stays mounted h =
    held_has held session (λ (s : Session). (tells → new.present.cell ≡ Some (root_bytes (root_of s))) × P s) is
    (λ told. During-now old new (λ (image : Image). image.cell ≡ old.present.cell) (stays told) ∙ (mounted_held held session old.present is (mounted told)).cell, h)

-- how a call of the session stops a command
pub read_stops : (tells Known : Type 0) (held : Option Session) (image : Image) (now : World) (session : Session) (block : ℕ) (bytes : List ℕ) (stop : DeviceStop) → (tells → Known)
    → OnMounted tells now.history.present held (λ s. block < blocks_of s) → ReadsAny Known image now.history.present session block bytes (Err stop) → MayStop tells held now.history.present now.head now.capacity (Read block) stop
read_stops tells Known held image now session block bytes stops.Platform known within any = within
read_stops tells Known held image now session block bytes (stops.BadRecord addr) known within any = λ told. any (known told)
read_stops tells Known held image now session block bytes stops.Memory known within any = absurd any
read_stops tells Known held image now session block bytes stops.Tape known within any = absurd any
read_stops tells Known held image now session block bytes stops.Ledger known within any = absurd any
read_stops tells Known held image now session block bytes stops.BadRoot known within any = absurd any

-- a wrong node, or the root node where the count is met
wrong_at_limit : {A B : Type 0} (pages : List (List ℕ)) (session : Session) (block addr : ℕ) → A ⊎ (B × IsPastLimit pages session block addr) → A ⊎ (B × IsAtLimit session)
wrong_at_limit pages session block addr (inl node) = inl node
wrong_at_limit pages session block addr (inr counted) = inr (counted.0, counted.1.1)

wrong_uncounted : {A B : Type 0} (pages : List (List ℕ)) (session : Session) (block addr : ℕ) → A ⊎ (B × IsUncounted pages session block addr) → A ⊎ (B × (session.mapped ≡ 0))
wrong_uncounted pages session block addr (inl node) = inl node
wrong_uncounted pages session block addr (inr counted) = inr (counted.0, counted.1.1)

pub write_stops : (tells Known : Type 0) (held : Option Session) (image : Image) (now : World) (session : Session) (block : ℕ) (content : List ℕ) (stop : DeviceStop) → held ≡ Some session → (tells → Known)
    → OnMounted tells now.history.present held (λ s. block < blocks_of s) → (stop ≡ stops.Memory → now.head < now.capacity) → WritesAny Known image now.history.present session block (Err stop) → MayStop tells held now.history.present now.head now.capacity (Write block content) stop
write_stops tells Known held image now session block content stops.Platform same known within lacks any = within
write_stops tells Known held image now session block content (stops.BadRecord addr) same known within lacks any =
    held_has held session (λ (s : Session). tells → IsWrongNode now.history.present addr ⊎ (IsMiscountedAt now.history.present addr × IsAtLimit s)) same (λ told. wrong_at_limit image.readable session block addr (any (known told)))
write_stops tells Known held image now session block content stops.Memory same known within lacks any = (lacks refl, within)
write_stops tells Known held image now session block content stops.Tape same known within lacks any = tt
write_stops tells Known held image now session block content stops.Ledger same known within lacks any = absurd any
write_stops tells Known held image now session block content stops.BadRoot same known within lacks any = absurd any

pub trim_stops : (tells Known : Type 0) (held : Option Session) (image : Image) (now : World) (session : Session) (block : ℕ) (stop : DeviceStop) → held ≡ Some session → (tells → Known)
    → OnMounted tells now.history.present held (λ s. block < blocks_of s) → TrimsAny Known image now.history.present session block (Err stop) → MayStop tells held now.history.present now.head now.capacity (Trim block) stop
trim_stops tells Known held image now session block stops.Platform same known within any = within
trim_stops tells Known held image now session block (stops.BadRecord addr) same known within any =
    held_has held session (λ (s : Session). tells → IsWrongNode now.history.present addr ⊎ (IsMiscountedAt now.history.present addr × (s.mapped ≡ 0))) same (λ told. wrong_uncounted image.readable session block addr (any (known told)))
trim_stops tells Known held image now session block stops.Memory same known within any = within
trim_stops tells Known held image now session block stops.Tape same known within any = absurd any
trim_stops tells Known held image now session block stops.Ledger same known within any = absurd any
trim_stops tells Known held image now session block stops.BadRoot same known within any = absurd any

-- a mount without a session
pub mount_stops : (tells : Type 0) (held : Option Session) (image : Image) (pages : ℕ) (now : World) (stop : DeviceStop) → held ≡ None → (tells → now.history.present ≡ image) → now.head ≡ pages
    → IsMountStop tells image.cell pages stop → MayStop tells held now.history.present now.head now.capacity Mount stop
mount_stops tells held image pages now stops.Platform none same head is = none
mount_stops tells held image pages now stops.Memory none same head is =
    (none, λ told. let found = is told in (found.0, subst (λ (n : ℕ). IsRootWithin n found.0) (sym head) found.1, ap (λ (i : Image). i.cell) (same told) ∙ found.2))
mount_stops tells held image pages now stops.BadRoot none same head is = tt
mount_stops tells held image pages now stops.Tape none same head is = absurd is
mount_stops tells held image pages now stops.Ledger none same head is = absurd is
mount_stops tells held image pages now (stops.BadRecord addr) none same head is = absurd is

-- a commit of changes needs a page
pub commit_stops : {S R : Type 0} (P : Ghosts S) (T : TapeGhosts R) (platform platform_now : S) (tape tape_now : R) (held now : Option Session) (session : Session) (stop : DeviceStop) → held ≡ Some session → IsOpen session (P.head platform)
    → P.capacity platform_now ≡ P.capacity platform → (P.tells → IfSome held (IsMounted (P.history platform).present)) → StopsAt P T platform platform_now tape tape_now session stop
    → MayStop P.tells held (P.history platform_now).present (P.head platform_now) (P.capacity platform_now) Commit stop
commit_stops P T platform platform_now tape tape_now held now session stops.Platform is there capacity mounted stopped = held_has held session (λ (s : Session). is_touched s ≡ true) is stopped.touched
commit_stops P T platform platform_now tape tape_now held now session stops.Tape is there capacity mounted stopped = tt
commit_stops P T platform platform_now tape tape_now held now session stops.Ledger is there capacity mounted stopped = tt
commit_stops P T platform platform_now tape tape_now held now session stops.Memory is there capacity mounted stopped = (
  omega (arith, needs_some session (P.head platform) there stopped.touched, stopped.room, stopped.left.0.head, capacity),
  mounted_has P.tells held session (P.history platform) (P.history platform_now) (λ (s : Session). is_touched s ≡ true) is stopped.left.1 mounted stopped.touched,
)
commit_stops P T platform platform_now tape tape_now held now session stops.BadRoot is there capacity mounted stopped = absurd stopped.left
commit_stops P T platform platform_now tape tape_now held now session (stops.BadRecord addr) is there capacity mounted stopped = absurd stopped.left

-- a write for which no memory is given adds nothing
pub write_kept : {S R : Type 0} (P : Ghosts S) (T : TapeGhosts R) (platform platform_now : S) (tape tape_now : R) (stop : DeviceStop) → AddsBlock P T platform platform_now tape tape_now (Err stop) → stop ≡ stops.Memory → P.head platform_now ≡ P.head platform
write_kept P T platform platform_now tape tape_now stop adds e = (subst (λ (s : DeviceStop). AddsBlock P T platform platform_now tape tape_now (Err s)) e adds).head

-- a write that stopped added a page at most where the platform failed, and else none
pub write_added : {S R : Type 0} (P : Ghosts S) (T : TapeGhosts R) (platform platform_now : S) (tape tape_now : R) (block : ℕ) (bytes : List ℕ) (changes : ℕ) (stop : DeviceStop) → P.head platform_now ≤ P.head platform + 1
    → AddsBlock P T platform platform_now tape tape_now (Err stop) → P.head platform_now ≤ P.head platform + left_by stop (Write block bytes) changes 0
write_added P T platform platform_now tape tape_now block bytes changes stops.Platform one adds = one
write_added P T platform platform_now tape tape_now block bytes changes stops.Tape one adds = omega (arith, adds.head)
write_added P T platform platform_now tape tape_now block bytes changes stops.Memory one adds = omega (arith, adds.head)
write_added P T platform platform_now tape tape_now block bytes changes stops.Ledger one adds = absurd adds
write_added P T platform platform_now tape tape_now block bytes changes stops.BadRoot one adds = absurd adds
write_added P T platform platform_now tape tape_now block bytes changes (stops.BadRecord addr) one adds = omega (arith, adds.head)

-- ---- a mount

pub mount_sound : (image : Image) (entry : State) (stop : DeviceStop) → MountLeads image entry (Err stop) → IsSound stop
mount_sound image entry stops.Memory led = tt
mount_sound image entry stops.Platform led = tt
mount_sound image entry stops.Tape led = tt
mount_sound image entry stops.Ledger led = tt
mount_sound image entry stops.BadRoot led = led
mount_sound image entry (stops.BadRecord addr) led = led

pub at_none : (w : World) (entry : State) → w.session ≡ None → Represents w entry → IsServedImage w.history.present → IsAt w.history.present None entry
at_none w entry none rep served = record { there = subst (λ (s : Option Session). states.Represents w.history.present s entry) none rep; served = served }

-- ---- a commit

number_at : (old new : World) (now : Session) (number : ℕ) (d : Device) (contents : Blocks) (touched : Bool) → new.session ≡ Some now → is_full old (at d (record { contents = contents; touched = touched })) Commit ≡ false
    → ReplyLeads old.history new.history now d (record { contents = contents; touched = touched }) (replies.Committed number) → Serves old new (at d (record { contents = contents; touched = touched })) Commit (Ok (Committed number))
number_at old new now number d contents false going room led =
    let t : OpenSession = record { contents = contents; touched = false } in
    subst (λ (n : ℕ). Serves old new (at d t) Commit (Ok (Committed n))) (sym led.1)
    (at d t, (none_counted, gives_idle (is_full old (at d t) Commit) d t refl), has_session new now d t going led.0.there.session.0 led.0.there.session.1, led.2)
number_at old new now number d contents true going room led =
    let t : OpenSession = record { contents = contents; touched = true } in
    let after : OpenSession = session_on (committed d t) in
    subst (λ (n : ℕ). Serves old new (at d t) Commit (Ok (Committed n))) (sym led.1)
    (at (committed d t) after, (none_counted, gives_raised (is_full old (at d t) Commit) d t room refl), has_session new now (committed d t) after going led.0.there.session.0 led.0.there.session.1, led.2)

-- it was answered with a number
pub serves_number : {S R W : Type 0} (P : Ghosts S) (platform platform_now : S) (tape tape_now : R) (ledger ledger_now : W) (held : Option Session) (session now : Session) (number : ℕ) (entry : State) → held ≡ Some session → IsServedImage (P.history platform).present
    → HasNumber P platform platform_now tape tape_now ledger ledger_now session now number
    → ((d : Device) (t : OpenSession) → IsAt (P.history platform).present (Some session) (at d t) → ReplyLeads (P.history platform) (P.history platform_now) now d t (replies.Committed number))
    → Represents (world_of P held platform) entry → Serves (world_of P held platform) (world_of P (Some now) platform_now) entry Commit (Ok (Committed number))
serves_number P platform platform_now tape tape_now ledger ledger_now held session now number entry taken served has leads rep =
    let old : World = world_of P held platform in
    let new : World = world_of P (Some now) platform_now in
    with_session old session entry taken rep (λ state. Serves old new state Commit (Ok (Committed number)))
    (λ d t holds touched. number_at old new now number d t.contents t.touched refl (is_full_false old (at d t) Commit (omega (arith, has.room, needed_some old session taken)))
    (leads d t (at_array old.history.present session d t holds touched served)))

-- too few pages are free
pub serves_short : {S R W : Type 0} (P : Ghosts S) (platform platform_now : S) (tape tape_now : R) (ledger ledger_now : W) (held : Option Session) (session now : Session) (needed free : ℕ) (entry : State) → held ≡ Some session → IsServedImage (P.history platform).present
    → IsShort P platform platform_now tape tape_now ledger ledger_now session now needed free
    → ((d : Device) (t : OpenSession) → IsAt (P.history platform).present (Some session) (at d t) → ReplyLeads (P.history platform) (P.history platform_now) now d t (replies.Full needed free))
    → Represents (world_of P held platform) entry → Serves (world_of P held platform) (world_of P (Some now) platform_now) entry Commit (Ok Full)
serves_short P platform platform_now tape tape_now ledger ledger_now held session now needed free entry taken served short leads rep =
    let old : World = world_of P held platform in
    let new : World = world_of P (Some now) platform_now in
    with_session old session entry taken rep (λ state. Serves old new state Commit (Ok Full))
    (λ d t holds touched.
    let led = leads d t (at_array old.history.present session d t holds touched served) in
    let full : is_full old (at d t) Commit ≡ true = is_full_true old (at d t) Commit (omega (arith, short.short, short.is_needed, short.is_free, needed_some old session taken)) in
    serves_still old new (at d t) (at d t) Commit Full (has_session old session d t taken holds touched) (gives_commit_full (is_full old (at d t) Commit) d t full (sym touched ∙ short.touched))
    (has_session new now d t refl led.0.there.session.0 led.0.there.session.1) (keeps_same old new (ap (λ p. P.history p) short.same.1)))

-- it stopped
pub halts_commit : {S R : Type 0} (P : Ghosts S) (T : TapeGhosts R) (platform platform_now : S) (tape tape_now : R) (held now : Option Session) (session : Session) (stop : DeviceStop) (entry : State) → held ≡ Some session → P.tells → IsServedImage (P.history platform).present
    → StopsAt P T platform platform_now tape tape_now session stop
    → ((d : Device) (t : OpenSession) → IsAt (P.history platform).present (Some session) (at d t) → CommitLeads (P.history platform) (P.history platform_now) d t (Err stop))
    → Represents (world_of P held platform) entry → Serves (world_of P held platform) (world_of P now platform_now) entry Commit (Err stop)
halts_commit P T platform platform_now tape tape_now held now session stops.Platform entry taken told served stopped leads rep =
    let old : World = world_of P held platform in
    let new : World = world_of P now platform_now in
    with_session old session entry taken rep (λ state. Halts old new state Commit stops.Platform)
    (λ d t holds touched.
    let made : (answer (is_full old (at d t) Commit) none_counted (at d t) Commit).1.device ≡ Some (committed d t) =
    sym (ap (λ (p : Reply × State). p.1.device) (gives_raised (is_full old (at d t) Commit) d t (is_full_false old (at d t) Commit (omega (arith, stopped.room, needed_some old session taken))) (sym touched ∙ stopped.touched))) in
    subst (λ (there : Option Device). Turns old.history new.history (Leaves (Some d)) (Leaves there)) (sym made) (leads d t (at_array old.history.present session d t holds touched served)))
halts_commit P T platform platform_now tape tape_now held now session stops.Tape entry taken told served stopped leads rep =
    halts_still (world_of P held platform) (world_of P now platform_now) entry Commit stops.Tape tt rep (stopped.left told)
halts_commit P T platform platform_now tape tape_now held now session stops.Ledger entry taken told served stopped leads rep =
    halts_still (world_of P held platform) (world_of P now platform_now) entry Commit stops.Ledger tt rep (stopped.left told)
halts_commit P T platform platform_now tape tape_now held now session stops.Memory entry taken told served stopped leads rep =
    halts_still (world_of P held platform) (world_of P now platform_now) entry Commit stops.Memory tt rep (stopped.left.1 told)
halts_commit P T platform platform_now tape tape_now held now session stops.BadRoot entry taken told served stopped leads rep = absurd stopped.left
halts_commit P T platform platform_now tape tape_now held now session (stops.BadRecord addr) entry taken told served stopped leads rep = absurd stopped.left

-- ---- an upgrade

-- it was done
pub serves_upgraded : {S : Type 0} (P : Ghosts S) (platform platform_now : S) (held : Option Session) (entry : State) (number : ℕ) → held ≡ None → LeadsUpgraded P platform platform_now entry number
    → Serves (world_of P held platform) (world_of P held platform_now) entry Upgrade (Ok (Upgraded number))
serves_upgraded P platform platform_now held entry number none led =
    let old : World = world_of P held platform in
    let new : World = world_of P held platform_now in
    let was : State = closed (Some led.device) in
    subst (λ (state : State). Serves old new state Upgrade (Ok (Upgraded number))) (sym led.was)
    (subst (λ (n : ℕ). Serves old new was Upgrade (Ok (Upgraded n))) (sym led.is_number) (
      closed (Some (upgraded led.device)),
      (none_counted, gives_upgraded (is_full old was Upgrade) led.device (is_full_false old was Upgrade led.room) led.version),
      has_none new (Some (upgraded led.device)) none led.at.there.device,
      turns_upgraded P platform platform_now led.device led.turns,
    ))

-- or not, and the state stays
serves_nowhere : {S : Type 0} (P : Ghosts S) (platform platform_now : S) (held : Option Session) (entry : State) (reply : Reply) → held ≡ None → LeadsNowhere P platform platform_now entry
    → (reply, entry) ≡ answer (is_full (world_of P held platform) entry Upgrade) none_counted entry Upgrade → Serves (world_of P held platform) (world_of P held platform_now) entry Upgrade (Ok reply)
serves_nowhere P platform platform_now held entry reply none led is = (
  entry,
  (none_counted, is),
  subst (λ (s : Option Session). states.Represents (P.history platform_now).present s entry) (sym none) led.at.there,
  Turns-not (P.history platform) (P.history platform_now) (Leaves entry.device) (Leaves entry.device) led.during,
)

pub serves_none_upgraded : {S : Type 0} (P : Ghosts S) (platform platform_now : S) (held : Option Session) (entry : State) → held ≡ None → (entry ≡ closed None) × LeadsNowhere P platform platform_now entry
    → Serves (world_of P held platform) (world_of P held platform_now) entry Upgrade (Ok NoDevice)
serves_none_upgraded P platform platform_now held entry none (was, led) =
    let old : World = world_of P held platform in
    serves_nowhere P platform platform_now held entry NoDevice none led
    (subst (λ (state : State). (NoDevice, state) ≡ answer (is_full old state Upgrade) none_counted state Upgrade) (sym was) refl)

pub serves_upgraded_already : {S : Type 0} (P : Ghosts S) (platform platform_now : S) (held : Option Session) (entry : State) → held ≡ None
    → ((d : Device) × (entry ≡ closed (Some d)) × (d.version ≡ 2)) × LeadsNowhere P platform platform_now entry → Serves (world_of P held platform) (world_of P held platform_now) entry Upgrade (Ok AlreadyUpgraded)
serves_upgraded_already P platform platform_now held entry none ((d, was, two), led) =
    let old : World = world_of P held platform in
    serves_nowhere P platform platform_now held entry AlreadyUpgraded none led
    (subst (λ (state : State). (AlreadyUpgraded, state) ≡ answer (is_full old state Upgrade) none_counted state Upgrade) (sym was) (gives_already (is_full old (closed (Some d)) Upgrade) d two))

pub serves_upgrade_full : {S : Type 0} (P : Ghosts S) (platform platform_now : S) (held : Option Session) (entry : State) → held ≡ None
    → ((d : Device) × (entry ≡ closed (Some d)) × (d.version ≡ 1) × (P.capacity platform - P.head platform < needed_of_device d)) × LeadsNowhere P platform platform_now entry
    → Serves (world_of P held platform) (world_of P held platform_now) entry Upgrade (Ok Full)
serves_upgrade_full P platform platform_now held entry none ((d, was, one, few), led) =
    let old : World = world_of P held platform in
    serves_nowhere P platform platform_now held entry Full none led
    (subst (λ (state : State). (Full, state) ≡ answer (is_full old state Upgrade) none_counted state Upgrade) (sym was)
    (gives_upgrade_full (is_full old (closed (Some d)) Upgrade) d (is_full_true old (closed (Some d)) Upgrade few) one))

-- it stopped
may_upgrade : {S : Type 0} (P : Ghosts S) (platform platform_now : S) (held : Option Session) (entry : State) → MayUpgrade P platform platform_now entry
    → Halts (world_of P held platform) (world_of P held platform_now) entry Upgrade stops.Platform
may_upgrade P platform platform_now held entry may =
    let old : World = world_of P held platform in
    let new : World = world_of P held platform_now in
    let was : State = closed (Some may.device) in
    let made : (answer (is_full old was Upgrade) none_counted was Upgrade).1.device ≡ Some (upgraded may.device) =
    sym (ap (λ (p : Reply × State). p.1.device) (gives_upgraded (is_full old was Upgrade) may.device (is_full_false old was Upgrade may.room) may.version)) in
    subst (λ (state : State). Halts old new state Upgrade stops.Platform) (sym may.was)
    (subst (λ (there : Option Device). Turns old.history new.history (Leaves (Some may.device)) (Leaves there)) (sym made) (turns_upgraded P platform platform_now may.device may.turns))

pub halts_upgrade : {S : Type 0} (P : Ghosts S) (platform platform_now : S) (held : Option Session) (entry : State) (stop : DeviceStop) → UpgradeLeads P platform platform_now entry (Err stop)
    → Serves (world_of P held platform) (world_of P held platform_now) entry Upgrade (Err stop)
halts_upgrade P platform platform_now held entry stops.Platform (inl during) =
    Turns-not (P.history platform) (P.history platform_now) (Leaves entry.device) (Leaves (answer (is_full (world_of P held platform) entry Upgrade) none_counted entry Upgrade).1.device) during
halts_upgrade P platform platform_now held entry stops.Platform (inr may) = may_upgrade P platform platform_now held entry may
halts_upgrade P platform platform_now held entry stops.Tape led = led.during
halts_upgrade P platform platform_now held entry stops.Ledger led = led.during
halts_upgrade P platform platform_now held entry stops.Memory led = led.during
halts_upgrade P platform platform_now held entry stops.BadRoot led = absurd led
halts_upgrade P platform platform_now held entry (stops.BadRecord addr) led = absurd led

-- what nothing came of, is so behind it
begins_still : {S R : Type 0} (P : Ghosts S) (T : TapeGhosts R) (platform platform_now : S) (tape tape_now : R) (root : Root) → P.capacity platform_now ≡ P.capacity platform → IsUnmade P T platform platform_now tape tape_now
    → Begins P.tells (P.history platform).present (P.head platform) (P.capacity platform) root → Begins P.tells (P.history platform_now).present (P.head platform_now) (P.capacity platform_now) root
begins_still P T platform platform_now tape tape_now root capacity still b = record {
  on = record {
    within = subst (λ (n : ℕ). IsRootWithin n root) (sym still.0.head) b.on.within;
    cell = λ told. ap (λ (i : Image). i.cell) (still.0.image told) ∙ b.on.cell told;
  };
  version = b.version;
  room = omega (arith, b.room, capacity, still.0.head);
}

pub upgrade_stops : {S R : Type 0} (P : Ghosts S) (T : TapeGhosts R) (platform platform_now : S) (tape tape_now : R) (held : Option Session) (stop : DeviceStop) → held ≡ None → P.capacity platform_now ≡ P.capacity platform
    → StopsUpgrade P T platform platform_now tape tape_now stop → MayStop P.tells held (P.history platform_now).present (P.head platform_now) (P.capacity platform_now) Upgrade stop
upgrade_stops P T platform platform_now tape tape_now held stops.Platform none capacity stopped = none
upgrade_stops P T platform platform_now tape tape_now held stops.Tape none capacity stopped = tt
upgrade_stops P T platform platform_now tape tape_now held stops.Ledger none capacity stopped = tt
upgrade_stops P T platform platform_now tape tape_now held stops.Memory none capacity (begun, still) =
    (none, begun.0, begins_still P T platform platform_now tape tape_now begun.0 capacity still begun.1)
upgrade_stops P T platform platform_now tape tape_now held stops.BadRoot none capacity stopped = tt
upgrade_stops P T platform platform_now tape tape_now held (stops.BadRecord addr) none capacity (partly, wrong) = λ told. (wrong told).1
