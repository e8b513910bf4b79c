-- What a line makes of a session's array and its table, and of the device below them.
use Rattle.std.proofs.Common.{◌≡◌, ◌≤◌, ◌∷◌, ◌∙◌, ℕ, true, List, [], Option, None, Some, Result, Ok, Err, inl, inr, refl, sym, ap, subst, length, arith}
use Rattle.std.specs.Option.{option_map_or}
use Rattle.sdbt_base.specs.Arrays.{Device}
use Rattle.sdbt_base.specs.declared.sinks.Sink.{Ghosts as SinkGhosts}
use Rattle.sdbt_base.specs.declared.tapes.Tape.{Ghosts as TapeGhosts}
use Rattle.platform.specs.Image.{Image}
use Rattle.platform.specs.History.{CellStays}
use Rattle.platform.specs.declared.platforms.Platform.{Ghosts as PlatformGhosts}
use Rattle.root_codec.specs.declared.root.Root.{Root}
use Rattle.root_codec.specs.RootRecord.{FitsRoot, root_bytes}
use Rattle.page_store.specs.Floors.{head_in}
use Rattle.page_store.proofs.FloorLaws.{head_is}
use Rattle.device_terms.specs.Served.{IsServedImage}
use Rattle.device_course.specs.States.{IsAt, Outside, around}
use Rattle.device_course.proofs.MadeLaws.{made_again, made_kept, made_since}
use Rattle.device_session.specs.Open.{IsOpen, blocks_of, needed_by, root_of}
use Rattle.device_session.specs.declared.refusals.CommitReply.{CommitReply}
use Rattle.device_session.specs.declared.refusals.CommitReply.TheVariants as replies
use Rattle.device_session.specs.Sessions.{Session}
use Rattle.line_run.specs.Stops.{IsSound}
use Rattle.device_course.specs.Held.{Held, IsHeld as IsArrayHeld, after_commit, device_of, state_of}
use Rattle.device_course.proofs.HeldLaws.{needs_of}
use Rattle.device_course.specs.Leading.{last_of, marks_of}
use Rattle.session_calls.specs.Commits.{AnswersReply, CommitLeads, ReplyLeads, StopsAt as CommitStops}
use Rattle.session_calls.proofs.HeldLaws.{commit_stopped, committed_held, refused_held}
use Rattle.session_calls.specs.declared.stops.DeviceStop.{DeviceStop}
use Rattle.session_calls.specs.declared.stops.DeviceStop.TheVariants as device
use Rattle.volume_table.specs.declared.volume.Volume.{Volume}
use Rattle.volume_table.specs.Names.{IsName}
use Rattle.volume_lines.specs.Grammar.{Spells}
use Rattle.volume_lines.specs.Lines.{Line, Commit, Destroy, asked}
use Rattle.volume_lines.specs.declared.lines.Line.{Line as Parsed}
use Rattle.volume_lines.specs.declared.lines.Line.TheVariants as parsed
use Rattle.volume_desk.specs.declared.serving.Answered.{Answered}
use Rattle.volume_lines.specs.Replies as told
use Rattle.volume_lines.specs.Replies.{Reply, said}
use Rattle.volume_lines.specs.declared.replies.Reply.{Reply as Given}
use Rattle.volume_terms.specs.Destroyed.{IfDestroyed}
use Rattle.volume_terms.specs.Turn.{CommitsAs, Destroys, IsShort, Serves}
use Rattle.volume_terms.specs.Volumes.{changed}
use Rattle.volume_terms.proofs.DestroyedLaws.{changed_touched, destroy_raises, if_destroyed}
use Rattle.volume_terms.proofs.KeepingLaws.{committed_tabled}
use Rattle.device_course.specs.Course.{MadeBetween}
use Rattle.volume_desk.specs.Turns.{Changed, HasPages, IsHeld, IsOfAll, IsOfBlocks, Served, ServesAs, Stopped, StopsAt, TakenOut, TakesOut, TurnsTo, commit_reply, destroy_reply}

-- ---- the array is as it was

pub held_still : (image image_now : Image) (head head_now : ℕ) (session now : Session) (table : List Volume) (entry : Held) → IsHeld image head session table entry → IsAt image_now (Some now) (state_of entry)
    → head_now ≡ head → needed_by now ≤ needed_by session → IsHeld image_now head_now now table entry
held_still image image_now head head_now session now table entry held at same needs =
    record { at = at; pages = held.pages ∙ sym same; needs = omega (arith, held.needs, needs); tabled = held.tabled }

-- ---- calls that leave the device

-- destroy no volume
none_destroyed : (capacity : ℕ) (table : List Volume) (entry next : Held) (it : Line) (reply : Reply) (Claim : Type 0) → Serves capacity table entry it reply next → next.device ≡ entry.device → IfDestroyed reply Claim
none_destroyed capacity table entry next it reply Claim serves same =
    if_destroyed reply Claim (λ number is.
    let raised = destroy_raises capacity table entry next it number (subst (λ (r : Reply). Serves capacity table entry it r next) is serves) in
    absurd (omega (arith, raised, ap (λ (d : Device). d.number) same)))

pub changed_served : (old new : Outside) (session now : Session) (table table_now : List Volume) (entry : Held) (it : Line) (reply : Reply) → IsHeld old.history.present old.head session table entry → CellStays old.history new.history
    → Changed new.history.present new.head table_now now entry (λ told next. Serves old.capacity table entry it told next) reply → Served old new table table_now now entry it reply
changed_served old new session now table table_now entry it reply held stays changed =
    let kept = made_again old.history new.history entry.device (made_kept old.history new.history entry.device held.at.there.device held.at.served stays) in
    record {
      next = changed.next;
      held = changed.held;
      serves = changed.does;
      made = subst (λ (d : Device). MadeBetween old.history new.history entry.device (Some d ∷ []) d) (sym changed.same) kept;
      settled = none_destroyed old.capacity table entry changed.next it reply (IsOfAll new.history.present) changed.does changed.same;
    }

-- ---- a commit

-- the array that it is held with
pub array_held : (image : Image) (head : ℕ) (session : Session) (table : List Volume) (entry : Held) → IsHeld image head session table entry → IsArrayHeld image head session entry
array_held image head session table entry held = record { at = held.at; pages = held.pages; needs = held.needs }

-- the root record in the cell is of all the pages that there are, where it says how many there are
of_all : (image : Image) (root : Root) (head : ℕ) → FitsRoot root → image.cell ≡ Some (root_bytes root) → root.head ≡ head → length image.recorded ≡ head → IsOfAll image
of_all image root head fits cell names pages = ap (λ (c : Option (List ℕ)). option_map_or head_in c (length image.recorded)) cell ∙ head_is root fits.head fits.version fits.sized ∙ names ∙ sym pages

-- what was answered: the state behind it, or that it is short
pub data Committing (capacity : ℕ) (old new : Outside) (table : List Volume) (now : Session) (entry : Held) (reply : CommitReply) : Type 0 where
  Done : (number : ℕ) (next : Held) → reply ≡ replies.Committed number → IsHeld new.history.present new.head now table next → CommitsAs capacity entry number next
      → MadeBetween old.history new.history entry.device (Some next.device ∷ []) next.device → (entry.session.touched ≡ true → IsOfAll new.history.present) → Committing capacity old new table now entry reply
  Refused : (needed free : ℕ) → reply ≡ replies.Full needed free → IsHeld new.history.present new.head now table entry → IsShort capacity entry entry
      → MadeBetween old.history new.history entry.device (Some entry.device ∷ []) entry.device → Committing capacity old new table now entry reply

pub committed_to : {S R W : Type 0} (P : PlatformGhosts S) (T : TapeGhosts R) (L : SinkGhosts W) (platform platform_now : S) (tape tape_now : R) (ledger ledger_now : W) (session now : Session) (reply : CommitReply) (table : List Volume) (entry : Held)
    → IsOpen session (P.head platform) → FitsRoot (root_of now) → (P.history platform_now).present.cell ≡ Some (root_bytes (root_of now)) → length (P.history platform_now).present.recorded ≡ P.head platform_now
    → IsHeld (P.history platform).present (P.head platform) session table entry → AnswersReply P platform platform_now tape tape_now ledger ledger_now session now reply
    → ReplyLeads (P.history platform) (P.history platform_now) now entry.device entry.session reply
    → Committing (P.capacity platform) (around P T L platform tape ledger) (around P T L platform_now tape_now ledger_now) table now entry reply
committed_to P T L platform platform_now tape tape_now ledger ledger_now session now (replies.Committed number) table entry there_open fits cell pages held answers led =
    let needed : ℕ = needed_by session in
    let on = array_held (P.history platform).present (P.head platform) session table entry held in
    let next = committed_held P platform platform_now tape tape_now ledger ledger_now session now number entry on answers led in
    Done number (after_commit entry needed) refl (record { at = next.0.at; pages = next.0.pages; needs = next.0.needs; tabled = committed_tabled entry needed table held.tabled })
    (needed, needs_of session (P.history platform).present (P.head platform) entry there_open on, next.1, refl, led.1) next.2
    (λ touched. of_all (P.history platform_now).present (root_of now) (P.head platform_now) fits cell (answers.names (held.at.there.session.1 ∙ touched)) pages)
committed_to P T L platform platform_now tape tape_now ledger ledger_now session now (replies.Full needed free) table entry there_open fits cell pages held answers led =
    let on = array_held (P.history platform).present (P.head platform) session table entry held in
    let same = refused_held P platform platform_now tape tape_now ledger ledger_now session now needed free entry on answers led in
    Refused needed free refl (record { at = same.0.at; pages = same.0.pages; needs = same.0.needs; tabled = held.tabled })
    (needed_by session, needs_of session (P.history platform).present (P.head platform) entry there_open on, same.1, refl) same.2

-- one that stopped was of changes for which enough pages are free
pub commit_pages : {S R : Type 0} (P : PlatformGhosts S) (T : TapeGhosts R) (platform platform_now : S) (tape tape_now : R) (session : Session) (stop : DeviceStop) (table : List Volume) (entry : Held) → IsOpen session (P.head platform)
    → IsHeld (P.history platform).present (P.head platform) session table entry → CommitStops P T platform platform_now tape tape_now session stop → HasPages (P.capacity platform) entry Commit
commit_pages P T platform platform_now tape tape_now session stop table entry there_open held stops_at = (
  sym held.at.there.session.1 ∙ stops_at.touched,
  needed_by session,
  needs_of session (P.history platform).present (P.head platform) entry there_open (array_held (P.history platform).present (P.head platform) session table entry held),
  omega (arith, stops_at.room, held.pages),
)

pub commit_served : (old new : Outside) (table : List Volume) (now : Session) (entry : Held) (reply : CommitReply) (given : Given) (buffer : List ℕ) → given ≡ commit_reply reply
    → Committing old.capacity old new table now entry reply → Served old new table table now entry Commit (said given buffer)
commit_served old new table now entry reply given buffer is (Done number next same held commits made all) =
    let answer : said given buffer ≡ told.Committed number = ap (λ (r : Given). said r buffer) (is ∙ ap commit_reply same) in
    subst (λ (r : Reply). Served old new table table now entry Commit r) (sym answer) (record { next = next; held = held; serves = commits; made = made; settled = tt })
commit_served old new table now entry reply given buffer is (Refused needed free same held short made) =
    let answer : said given buffer ≡ told.Full = ap (λ (r : Given). said r buffer) (is ∙ ap commit_reply same) in
    subst (λ (r : Reply). Served old new table table now entry Commit r) (sym answer) (record { next = entry; held = held; serves = short; made = made; settled = tt })

-- ---- a destroy

pub destroy_served : (old mid new : Outside) (table left : List Volume) (taken_on now : Session) (entry : Held) (name : List ℕ) (reply : CommitReply) (given : Given) (buffer : List ℕ) → given ≡ destroy_reply reply → mid.capacity ≡ old.capacity
    → (taken : TakenOut mid.history.present mid.head old.capacity table left taken_on entry name) → MadeBetween old.history mid.history entry.device [] entry.device
    → Committing mid.capacity mid new left now (changed entry left taken.v) reply → Served old new table left now entry (Destroy name) (said given buffer)
destroy_served old mid new table left taken_on now entry name reply given buffer is same_capacity taken kept (Done number next same held commits made all) =
    let answer : said given buffer ≡ told.Destroyed number = ap (λ (r : Given). said r buffer) (is ∙ ap destroy_reply same) in
    subst (λ (r : Reply). Served old new table left now entry (Destroy name) r) (sym answer) (record {
      next = next;
      held = held;
      serves = (taken.v, left, taken.same, taken.taken, taken.free, subst (λ (n : ℕ). CommitsAs n (changed entry left taken.v) number next) same_capacity commits);
      made = made_since old.history mid.history new.history entry.device next.device (Some next.device ∷ []) kept made;
      settled = all (changed_touched entry left taken.v);
    })
destroy_served old mid new table left taken_on now entry name reply given buffer is same_capacity taken kept (Refused needed free same held short made) =
    let answer : said given buffer ≡ told.Uncommitted = ap (λ (r : Given). said r buffer) (is ∙ ap destroy_reply same) in
    subst (λ (r : Reply). Served old new table left now entry (Destroy name) r) (sym answer) (record {
      next = changed entry left taken.v;
      held = held;
      serves = (taken.v, left, taken.same, taken.taken, taken.free, subst (λ (n : ℕ). IsShort n (changed entry left taken.v) (changed entry left taken.v)) same_capacity short);
      made = made_since old.history mid.history new.history entry.device entry.device (Some entry.device ∷ []) kept made;
      settled = tt;
    })

-- ---- a stop before a commit

pub stops_none : (capacity : ℕ) (table : List Volume) (entry : Held) (it : Line) (stop : DeviceStop) → IsSound stop → StopsAt capacity table entry it [] stop
stops_none capacity table entry it device.Platform sound = inl refl
stops_none capacity table entry it device.Tape sound = refl
stops_none capacity table entry it device.Ledger sound = refl
stops_none capacity table entry it device.Memory sound = refl
stops_none capacity table entry it device.BadRoot sound = absurd sound
stops_none capacity table entry it (device.BadRecord addr) sound = absurd sound

pub stopped_kept : (old new : Outside) (session : Session) (table : List Volume) (entry : Held) (it : Line) (stop : DeviceStop) → IsHeld old.history.present old.head session table entry → CellStays old.history new.history → IsSound stop × HasPages old.capacity entry it
    → Stopped old new table entry it stop
stopped_kept old new session table entry it stop held stays (sound, pages) =
    record { ahead = []; is = stops_none old.capacity table entry it stop sound; pages = pages; made = made_kept old.history new.history entry.device held.at.there.device held.at.served stays }

pub blocks_held : (image : Image) (head : ℕ) (session : Session) (table : List Volume) (entry : Held) → IsHeld image head session table entry → blocks_of session ≡ entry.device.blocks
blocks_held image head session table entry held = held.at.there.session.0.stands.blocks

-- ---- a volume that is taken out

pub takes_some : (image : Image) (head capacity : ℕ) (table left : List Volume) (now : Session) (entry : Held) (name buffer : List ℕ) (refused : Option Given) (reply : Given) → refused ≡ Some reply
    → TakesOut image head capacity table left now entry name buffer (Ok refused) → Changed image head left now entry (λ given next. Destroys capacity table entry name given next) (said reply buffer)
takes_some image head capacity table left now entry name buffer refused reply is takes = subst (λ (r : Option Given). TakesOut image head capacity table left now entry name buffer (Ok r)) is takes

pub takes_none : (image : Image) (head capacity : ℕ) (table left : List Volume) (now : Session) (entry : Held) (name buffer : List ℕ) (refused : Option Given) → refused ≡ None
    → TakesOut image head capacity table left now entry name buffer (Ok refused) → TakenOut image head capacity table left now entry name
takes_none image head capacity table left now entry name buffer refused is takes = subst (λ (r : Option Given). TakesOut image head capacity table left now entry name buffer (Ok r)) is takes

-- a commit behind it that stopped: the states ahead of the one behind the trims
pub destroy_stopped : {S R W : Type 0} (P : PlatformGhosts S) (T : TapeGhosts R) (L : SinkGhosts W) (platform mid platform_now : S) (tape tape_then tape_now : R) (ledger ledger_now : W) (session : Session) (stop : DeviceStop) (table left : List Volume) (entry : Held) (name : List ℕ)
    → P.capacity mid ≡ P.capacity platform → (taken : TakenOut (P.history mid).present (P.head mid) (P.capacity platform) table left session entry name) → MadeBetween (P.history platform) (P.history mid) entry.device [] entry.device
    → IsOpen session (P.head mid) → CommitStops P T mid platform_now tape_then tape_now session stop → IsServedImage (P.history platform_now).present
    → CommitLeads (P.history mid) (P.history platform_now) entry.device (changed entry left taken.v).session (Err stop)
    → Stopped (around P T L platform tape ledger) (around P T L platform_now tape_now ledger_now) table entry (Destroy name) stop
destroy_stopped P T L platform mid platform_now tape tape_then tape_now ledger ledger_now session stop table left entry name same taken kept there_open stops_at served led =
    let on : Held = changed entry left taken.v in
    let stopped = commit_stopped P T mid platform_now tape_then tape_now session stop on (λ ahead s. StopsAt (P.capacity platform) table entry (Destroy name) ahead s × ((d : Device) → (last_of entry ahead).device ≡ (last_of on ahead).device))
    ((inl refl, λ d. refl), (refl, λ d. refl), (refl, λ d. refl), (refl, λ d. refl))
    (λ needed needs room.
    let next : Held = after_commit on needed in
    let commits : CommitsAs (P.capacity mid) on next.device.number next = (needed, needs, room, refl, refl) in
    (inr (told.Destroyed next.device.number, next, refl, (taken.v, left, taken.same, taken.taken, taken.free, subst (λ (n : ℕ). CommitsAs n on next.device.number next) same commits)), λ d. refl))
    there_open (array_held (P.history mid).present (P.head mid) session left on taken.held) stops_at served led in
    record {
      ahead = stopped.0;
      is = stopped.1.0;
      pages = taken.free;
      made = subst (λ (d : Device). MadeBetween (P.history platform) (P.history platform_now) entry.device (marks_of device_of stopped.0) d) (sym (stopped.1.1 entry.device))
          (made_since (P.history platform) (P.history mid) (P.history platform_now) entry.device (last_of on stopped.0).device (marks_of device_of stopped.0) kept stopped.2);
    }

-- ---- a line

-- the line is that which was read
pub turns_as : (image : Image) (head capacity : ℕ) (table table_now : List Volume) (now : Session) (entry : Held) (line it : Parsed) (before buffer : List ℕ) (result : Result Given DeviceStop) → line ≡ it
    → TurnsTo image head table_now now entry (λ reply next. Serves capacity table entry (asked it before) reply next) (HasPages capacity entry (asked it before)) buffer result
    → TurnsTo image head table_now now entry (λ reply next. Serves capacity table entry (asked line before) reply next) (HasPages capacity entry (asked line before)) buffer result
turns_as image head capacity table table_now now entry line it before buffer result is turns =
    subst (λ (l : Parsed). TurnsTo image head table_now now entry (λ reply next. Serves capacity table entry (asked l before) reply next) (HasPages capacity entry (asked l before)) buffer result) (sym is) turns

pub serves_as : (old new : Outside) (table table_now : List Volume) (buffer before : List ℕ) (entry : Held) (line it : Parsed) (result : Result Answered DeviceStop) → line ≡ it
    → ServesAs old new table table_now buffer entry (asked it before) result → ServesAs old new table table_now buffer entry (asked line before) result
serves_as old new table table_now buffer before entry line it result is serves = subst (λ (l : Parsed). ServesAs old new table table_now buffer entry (asked l before) result) (sym is) serves

pub name_of_create : (line : Parsed) (name : List ℕ) (count : ℕ) (buffer : List ℕ) → line ≡ parsed.Create name count → ((text : List ℕ) × Spells text (asked line buffer)) → IsName name
name_of_create line name count buffer is (text, spelled) =
    let said_so : Spells text (asked (parsed.Create name count) buffer) = subst (λ (l : Parsed). Spells text (asked l buffer)) is spelled in said_so.1

pub of_blocks : (line : Parsed) → ((name : List ℕ) → line ≡ parsed.Destroy name → ⊥) → (line ≡ parsed.Commit → ⊥) → IsOfBlocks line
of_blocks (parsed.Create name count) destroy commit = tt
of_blocks (parsed.Read name block) destroy commit = tt
of_blocks (parsed.Write name block count) destroy commit = tt
of_blocks (parsed.Trim name block) destroy commit = tt
of_blocks (parsed.Destroy name) destroy commit = absurd (destroy name refl)
of_blocks parsed.Commit destroy commit = absurd (commit refl)
