-- A run from its input to its output.
use Rattle.std.specs.Prelude.{◌≡◌, ◌≢◌, ℕ, ◌+◌, ◌*◌, ◌<◌, ◌≤◌, ◌^◌, ◌⊎◌, List, [], ◌∷◌, ◌++◌, All, Option, None, Some, length, flat_map}
use Rattle.platform.specs.Runs.{Passes}
use Rattle.device_terms.specs.Served.{IsServedImage}
use Rattle.sdbt_base.specs.Told.{Gave, Got, IsAtEnd}
use Rattle.text_lines.specs.Lines.{whole_lines_of, lines_of}
use Rattle.script_lang.specs.Replies.{line_of, Reply, Full}
use Rattle.sdbt_base.specs.Arrays.{State, Device, closed}
use Rattle.script_lang.specs.Answers.{Answers}
use Rattle.script_lang.specs.Commands.{Upgrade}
use Rattle.script_lang.specs.Grammar.{Spells}
use Rattle.device_session.specs.Sessions.{Session}
use Rattle.device_cli.specs.Causes.{Draws, PutsEntry, HasLacked, HasMet, MeetsRecord, IsOf, AreSo}
use Rattle.device_cli.specs.Looks.{AreBounded, ChangesFew}
use Rattle.device_cli.specs.World.{World}
use Rattle.device_cli.specs.Represents.{StandsFor}
use Rattle.device_cli.specs.Pages.{needed_for, upgrade_of, accepted, upgrades, most_upgrade, upgrade_lines, Standing, standing, AnswersOn, AreShort, AreFew, IfNext}
use Rattle.device_cli.specs.Added.{left_by, HasAdded}
use Rattle.device_cli.specs.Seen.{SeenOn, mapped_of}
use Rattle.platform.specs.History.{moment}
use Rattle.line_run.specs.Runs as lines
use Rattle.line_run.specs.Stops.{Ending}
use Rattle.device_cli.specs.Replied.{Handled, HasMark, ExitsAt}
use Rattle.line_run.specs.Puts.{IsFirstPart, damage_line}
use Rattle.line_run.specs.Puts.{HaveCome, IsPrompt}
use Rattle.session_calls.specs.declared.stops.DeviceStop.{DeviceStop}
use Rattle.session_calls.specs.declared.stops.DeviceStop.TheVariants as device

-- how many replies that speaks of
abbrev pub replies_in : (tells Before : Type 0) (last : DeviceStop → List ℕ) (old new : World) (ending : Ending) (lines : List (List ℕ)) (a b : Option (List ℕ)) → Handled tells Before old new last ending lines a b → ℕ
replies_in tells Before last old new ending lines a b handled = length handled.replied.replies

-- a run that took its lines from an input and put its replies to an output. `Before` is what holds where the platform failed before the first line
abbrev pub Ran : Type 0 → Type 0 → World → World → (DeviceStop → List ℕ) → Ending → Option (List ℕ) → Option (List ℕ) → Option (List ℕ) → Option (List ℕ) → Type 0
Ran tells Before old new last ending left left_now written written_now = lines.Ran (λ before now. Handled tells Before before now last) (replies_in tells Before last) old new ending left left_now written written_now

-- how many pages there are at most after these replies, from a state at entry with so many on
abbrev pub most_pages : ℕ → State → List Reply → ℕ
most_pages pages entry replies = pages + 42 * accepted replies + upgrades replies * most_upgrade (mapped_of entry.device + length replies)

-- the replies are those of the array, from the state at entry on, where a run ends with this status: at 0, 3 and 12 the
-- image at the exit stands for the state after them; at 4 for the one that one more reply leads to, of whose line a first
-- part was put; never does damage end it
pub record AnswersFrom (old new : World) (status : ℕ) (entry : State) (lines : List (List ℕ)) (replies : List Reply) (part : List ℕ) : Type 0 where
  -- what the line behind the replies meets
  pub now : State
  pub pages : ℕ
  pub updates : ℕ
  pub answers : AnswersOn old.capacity (standing entry old.head 0) lines replies (standing now pages updates)
  -- a reply to a `seize` line counts what chains of opening come to at a moment of the run, at which the image stands for the device in the state at that
  -- line; these moments ascend in the order of the lines
  pub seen : SeenOn old.capacity new.history (moment old.history) (standing entry old.head 0) lines replies (standing now pages updates)
  pub ends : (status ≡ 0) ⊎ (status ≡ 3) ⊎ (status ≡ 12) → StandsFor new.history.present now.device × (new.head ≡ pages)
  pub next : status ≡ 4 → (reply : Reply) × (then : Standing) × AnswersOn old.capacity (standing entry old.head 0) lines (replies ++ reply ∷ []) then
      × (then.pages ≡ new.head) × IsFirstPart (line_of reply) part × StandsFor new.history.present then.state.device
  pub sound : (status ≢ 8) × (status ≢ 9)
  -- a command that was cut short may have added the pages that it needs, but none where no memory was given, nor, but for a commit and an upgrade, where no key was
  pub near : HasAdded (λ command. needed_for command (41 * updates) (upgrade_of now)) lines replies pages new.head
  pub keyless : status ≡ 6 → HasAdded (λ command. left_by device.Tape command (41 * updates) (upgrade_of now)) lines replies pages new.head
  pub exact : status ≡ 11 → new.head ≡ pages
  -- an update adds 42 pages at most: one, and 41 with its commit; and an upgrade two for each mapped block, and one, where each line maps one more at most. One more may be there of
  -- a command that was cut short, or as many as an upgrade needs, where it was one
  pub bound : pages ≤ most_pages old.head entry replies
  pub cut_bound : (new.head ≤ most_pages old.head entry replies + 1)
      ⊎ (IfNext replies lines (λ line. Spells line Upgrade) × (new.head ≤ most_pages old.head entry replies + most_upgrade (mapped_of entry.device + length replies)))
  -- a reply to an `upgrade` line that too few pages were free is true for good, of how many blocks can be mapped then
  pub few : AreFew new.head old.capacity (mapped_of entry.device) lines replies
  -- at each moment a loss of power leaves a device that the replies passed, in their order; at 4 and 5 perhaps the one
  -- after one more reply. The last moment has the device after all of them, or that one more
  pub ahead : List Reply
  pub one_ahead : length ahead ≤ 1
  pub none_ahead : status ≢ 4 → status ≢ 5 → ahead ≡ []
  pub passes : Passes old.history new.history (HasMark entry lines (replies ++ ahead)) (length replies + length ahead)
  pub exits : ExitsAt new.history.present entry lines replies ahead

-- a run that ends with this status: what was taken from its input, the lines of that which it handled, its replies, and
-- the part that it put behind their lines
pub record AnswersScript (tells : Type 0) (old new : World) (status : ℕ) (left left_now written written_now : Option (List ℕ)) : Type 0 where
  pub taken : List ℕ
  pub gave : Gave left taken left_now
  pub lines : List (List ℕ)
  pub come : HaveCome taken left_now lines
  pub replies : List Reply
  pub part : List ℕ
  pub got : Got written (flat_map line_of replies ++ part) written_now
  pub few : length replies ≤ length lines
  pub prompt : IsPrompt taken (length replies)
  -- at the end of the input each line has its reply; where the input failed or reached its limit, each whole line
  pub all : status ≡ 0 → IsAtEnd left_now × (lines ≡ lines_of taken) × (length replies ≡ length lines)
  pub whole : (status ≡ 3) ⊎ (status ≡ 12) → (lines ≡ whole_lines_of taken) × (length replies ≡ length lines)
  -- behind the replies: nothing; the last line of 8 or 9, whole; or, where the output failed, a first part of a line
  pub no_part : status ≢ 4 → status ≢ 8 → status ≢ 9 → part ≡ []
  pub bad_root : status ≡ 8 → part ≡ damage_line device.BadRoot
  -- behind the replies stands the line that the device stopped at: one that reads or changes a block, and comes to a record that doesn't fit; one that draws; one that puts an entry; one that
  -- takes memory, and is not refused
  pub bad_record : status ≡ 9 → (addr : ℕ) × (part ≡ damage_line (device.BadRecord addr)) × IfNext replies lines (IsOf (HasMet tells new.history.present addr))
  pub no_key : status ≡ 6 → IfNext replies lines (IsOf Draws)
  pub no_entry : status ≡ 7 → IfNext replies lines (IsOf PutsEntry)
  pub no_memory : status ≡ 11 → IfNext replies lines (IsOf (HasLacked tells new.history.present new.head new.capacity))
  pub cut : status ≡ 4 → ((reply : Reply) × IsFirstPart (line_of reply) part) ⊎ ((stop : DeviceStop) × IsFirstPart (damage_line stop) part)
  -- a reply that too few pages were free is true for good
  pub full : AreShort new.head new.capacity 0 lines replies
  -- and on any image each was so at a moment of the run, with the session that the line before it left: `data` is what a look-up comes to, behind `ok` look-ups come to what the update made, and
  -- `range` comes by the numbers alone; so a line that comes to a record which doesn't fit has none of these, and ends the run
  pub so : tells → (end : ℕ) × (last : Option Session) × AreSo tells new.history (moment old.history) None lines replies end last
      -- and it is with this session that it comes to such a record
      × (status ≡ 9 → (addr : ℕ) × (part ≡ damage_line (device.BadRecord addr)) × IfNext replies lines (IsOf (λ command. MeetsRecord tells last new.history.present command addr)))
  -- where the lines format, mount, read, write, trim, commit, ask, drop or erase, or spell nothing, no more is read than this: the cell once before the first line, and once for each line that formats, mounts
  -- or erases; one page for a read of the block that was read just before, and 21 for one of another; 40 for a write or a trim; and nothing for a line that is refused since no session is open, or one
  -- is, by its numbers, or for want of pages
  pub looks : tells → (most : ℕ) (last : Option ℕ) → AreBounded None lines replies most last → new.reads ≤ old.reads + (1 + most)
  -- all pages are synced, or the cell replaced or cleared, twice at most for a line that formats, commits or upgrades, once for one that erases, and never for another, or
  -- for one that is refused
  pub changes : tells → ChangesFew old new lines replies
  -- over an image that stands for a device which can be served, from that device on without a session
  pub answered : tells → (there : Option Device) → StandsFor old.history.present there → IsServedImage old.history.present
      → AnswersFrom old new status (closed there) lines replies part

-- a run over the whole input: one reply for each line, none of them that too few pages were free
pub record IsComplete (entry : State) (text : List ℕ) (written written_now : Option (List ℕ)) : Type 0 where
  pub replies : List Reply
  pub got : Got written (flat_map line_of replies) written_now
  pub now : State
  pub answers : Answers entry (lines_of text) replies now
  pub each : length replies ≡ length (lines_of text)
  pub roomy : All (λ r. r ≢ Full) replies

-- the input is a text of less than 2^32 bytes, and at least 42 pages are free for each of its lines, and as many for each that spells `upgrade` as one needs at most, where so
-- many blocks are mapped at the start
pub record IsAmple (left : Option (List ℕ)) (text : List ℕ) (mapped head capacity : ℕ) : Type 0 where
  pub text_is : left ≡ Some text
  pub short : length text < 2 ^ 32
  pub room : head + 42 * length (lines_of text) + upgrade_lines (lines_of text) * most_upgrade (mapped + length (lines_of text)) ≤ capacity
