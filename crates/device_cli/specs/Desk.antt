-- What a run may rely on between lines.
use Rattle.std.specs.Prelude.{◌≡◌, ◌≢◌, ◌⊎◌, ◌≤◌, ℕ, [], None, Result, IfSome, IfOk, IfErr, OnOk, IsErrOf, replicate}
use Rattle.sdbt_base.specs.Rises.{MayRiseBy}
use Rattle.platform.specs.declared.platforms.Platform.{Ghosts}
use Rattle.device_cli.specs.Looks.{changes_at}
use Rattle.device_cli.specs.Replied.{outcome}
use Rattle.seizure.specs.Reads.{ReadsFew as SeizesFew}
use Rattle.device_terms.specs.Served.{IsServedImage}
use Rattle.script_lang.specs.Lines.{blank_line}
use Rattle.script_lang.specs.Replies.{CanWrite, FitsBlock, said}
use Rattle.script_lang.specs.declared.replies.Reply.{Reply as Given}
use Rattle.script_lang.specs.declared.replies.Reply.TheVariants as given
use Rattle.script_lang.specs.Commands.{Command, Seize, Upgrade}
use Rattle.device_cli.specs.Added.{LacksPages, LeavesFew}
use Rattle.device_cli.specs.World.{needed_of}
use Rattle.line_run.specs.Stops.{IsOfLine}
use Rattle.line_run.specs.declared.stop.Stop.{Stop}
use Rattle.line_run.specs.declared.stop.Stop.TheVariants as lines
use Rattle.session_calls.specs.declared.stops.DeviceStop.{DeviceStop}
use Rattle.session_calls.specs.declared.stops.DeviceStop.TheVariants as stops
use Rattle.device_session.specs.Open.{IsOpen}
use Rattle.device_session.specs.Reading.{room_of}
use Rattle.session_calls.specs.Damage.{IsMounted}
use Rattle.session_calls.specs.Upgrades.{ReadsUpgrade}
use Rattle.device_cli.specs.declared.desk.Desk.{Desk}

-- the session, if there is one, is open
abbrev pub IsReady : Desk → ℕ → Type 0
IsReady desk head = IfSome desk.session (λ session. IsOpen session head)

-- the session, if there is one, keeps up to 256 nodes
abbrev pub HasRoom : Desk → Type 0
HasRoom desk = IfSome desk.session (λ session. room_of session ≡ 256)

-- its buffers have nothing of what was written and read
pub record IsWiped (desk : Desk) : Type 0 where
  pub buffer : desk.buffer ≡ replicate 4096 0
  pub line : desk.writer.line ≡ blank_line

-- so it is behind a reply that the session was dropped or the device erased
abbrev pub IsWipedAt : Given → Desk → Type 0
IsWipedAt reply desk = (reply ≡ given.Dropped → IsWiped desk) × (reply ≡ given.Erased → IsWiped desk)

-- where a session was open and is over, nothing is left in the buffer
abbrev pub IsWipedBehind : Desk → Desk → Type 0
IsWipedBehind before desk = before.session ≢ None → desk.session ≡ None → desk.buffer ≡ replicate 4096 0

-- what each command may rely on: the session is open, with room for 256 nodes, and on the root record in the cell, which can be served
pub record Before {S : Type 0} (P : Ghosts S) (desk : Desk) (platform : S) : Type 0 where
  pub ready : IsReady desk (P.head platform)
  pub room : HasRoom desk
  pub cell : P.tells → IsServedImage (P.history platform).present
  pub mounted : P.tells → IfSome desk.session (IsMounted (P.history platform).present)

-- a line that goes over the whole tree reads no more than one seizure does, or than one upgrade, and that nothing where a session is open
abbrev pub ReadsTree : {S : Type 0} → Ghosts S → Desk → S → S → Command → Type 0
ReadsTree P before old new Seize = SeizesFew (P.head old) (P.history old).present.cell [] (P.history old).present.readable (P.reads old) (P.reads new)
ReadsTree P before old new Upgrade = ((before.session ≢ None) × (P.reads new ≡ P.reads old)) ⊎ ((before.session ≡ None) × ReadsUpgrade P old new)
ReadsTree P before old new _ = Unit {0}

-- what a command leaves for the next one. Its reply can be put; nothing is left in the buffers behind a session that was dropped and a device that was erased; a stop left no more pages than it may; and a reply that too few pages were free is true
pub record After {S : Type 0} (P : Ghosts S) (before desk : Desk) (old new : S) (command : Command) (result : Result Given DeviceStop) : Type 0 where
  pub ready : OnOk result (IsReady desk (P.head new))
  pub room : OnOk result (HasRoom desk)
  pub mounted : P.tells → OnOk result (IfSome desk.session (IsMounted (P.history new).present))
  pub reply : IfOk result (λ reply. CanWrite (said reply desk.buffer))
  pub short : IfOk result FitsBlock
  pub wiped : IfOk result (λ reply. IsWipedAt reply desk)
  pub bad_root : P.tells → IsErrOf result stops.BadRoot → ⊥
  pub capacity : P.capacity new ≡ P.capacity old
  pub rises : P.head old ≤ P.head new
  pub changes : P.tells → MayRiseBy (changes_at command (outcome result desk.buffer)) (P.changes old) (P.changes new)
  pub reads : P.tells → ReadsTree P before old new command
  pub added : IfErr result (λ stop. LeavesFew P.tells (P.history old).present stop command (needed_of before.session) (P.head old) (P.head new))
  pub full : IfOk result (λ reply. reply ≡ given.Full → LacksPages P.tells (P.history old).present command (needed_of before.session) (P.head new) (P.capacity new))

-- what each line leaves for the next one; it stops neither for the input nor for a root record that can't be served
pub record AfterLine {S : Type 0} (P : Ghosts S) (desk : Desk) (platform : S) (result : Result (Unit {0}) Stop) : Type 0 where
  pub ready : OnOk result (IsReady desk (P.head platform))
  pub room : OnOk result (HasRoom desk)
  pub mounted : P.tells → OnOk result (IfSome desk.session (IsMounted (P.history platform).present))
  pub bad_root : P.tells → IsErrOf result (lines.Device stops.BadRoot) → ⊥
  pub stops : IfErr result IsOfLine
