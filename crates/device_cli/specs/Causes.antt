-- Why a command is answered so, on any image, forged ones too.
use Rattle.std.specs.Prelude.{if◌then◌else◌, ◌≡◌, ◌≢◌, ◌<◌, ◌≤◌, ◌⊎◌, ◌+◌, ℕ, true, false, List, [], ◌∷◌, Option, None, Some, Result, Ok, Err, IfSome, length}
use Rattle.platform.specs.Image.{Image}
use Rattle.platform.specs.History.{History, Extends, image_at, moment}
use Rattle.root_codec.specs.declared.root.Root.{Root}
use Rattle.root_codec.specs.RootRecord.{FitsRoot, root_bytes}
use Rattle.page_store.specs.Roots.{IsRootWithin}
use Rattle.device_core.specs.Upgrading.{Begins}
use Rattle.sdbt_base.specs.Arrays.{padded}
use Rattle.device_session.specs.Damage.{IsAtLimit, HasPut, HasTaken}
use Rattle.device_session.specs.Open.{blocks_of, is_touched, needed_by, number_of, root_of}
use Rattle.device_session.specs.Reading.{FindsContent}
use Rattle.device_session.specs.Sessions.{Session}
use Rattle.script_lang.specs.Arrays.{in_limits, trimmed}
use Rattle.script_lang.specs.Grammar.{Spells, IsBad}
use Rattle.script_lang.specs.Commands.{Command}
use Rattle.script_lang.specs.Commands as commands
use Rattle.script_lang.specs.Replies.{Reply}
use Rattle.script_lang.specs.Replies as given
use Rattle.session_calls.specs.Damage.{IsDamagedAt, IsMiscountedAt, IsMounted, IsWrongNode, IsWrongPlace}
use Rattle.session_calls.specs.declared.stops.DeviceStop.{DeviceStop}
use Rattle.session_calls.specs.declared.stops.DeviceStop.TheVariants as device
use Rattle.device_cli.specs.Seen.{IsCounted}
use Rattle.device_cli.specs.World.{World}

-- ---- stops

-- the command seals pages, and so draws keys
abbrev pub Draws : Command → Type 0
Draws (commands.Format blocks order) = Unit {0}
Draws (commands.Write block content) = Unit {0}
Draws commands.Commit = Unit {0}
Draws commands.Upgrade = Unit {0}
Draws _ = ⊥

-- it replaces the root record, and so puts an entry to the ledger
abbrev pub PutsEntry : Command → Type 0
PutsEntry (commands.Format blocks order) = Unit {0}
PutsEntry commands.Commit = Unit {0}
PutsEntry commands.Upgrade = Unit {0}
PutsEntry _ = ⊥

-- it looks at the root record in the cell before it does anything with it
abbrev pub JudgesRoot : Command → Type 0
JudgesRoot commands.Mount = Unit {0}
JudgesRoot commands.Upgrade = Unit {0}
JudgesRoot commands.Seize = Unit {0}
JudgesRoot _ = ⊥

-- there is a session, and it has this
abbrev pub OnHeld : Option Session → (Session → Type 0) → Type 0
OnHeld None P = ⊥
OnHeld (Some session) P = P session

-- with this session, or none, it comes to the record at this address, which doesn't fit: a read to a place below the root record in the cell, and a write and a trim to a node's place, and never to that of a
-- data record; or to the root node of a tree that is miscounted, a write only where no block more can be mapped, and a trim only where none is counted; and an upgrade to the first one that it meets, or to the
-- root node, where all nodes fit and list another number of blocks
abbrev pub MeetsRecord : Type 0 → Option Session → Image → Command → ℕ → Type 0
MeetsRecord tells held image (commands.Read block) addr = tells → IsWrongPlace image addr
MeetsRecord tells held image (commands.Write block content) addr = OnHeld held (λ session. tells → IsWrongNode image addr ⊎ (IsMiscountedAt image addr × IsAtLimit session))
MeetsRecord tells held image (commands.Trim block) addr = OnHeld held (λ session. tells → IsWrongNode image addr ⊎ (IsMiscountedAt image addr × (session.mapped ≡ 0)))
MeetsRecord tells held image commands.Upgrade addr = tells → IsDamagedAt image addr
MeetsRecord tells held image _ addr = ⊥

-- there is one on the root record in the cell, and it has this
abbrev pub OnMounted : Type 0 → Image → Option Session → (Session → Type 0) → Type 0
OnMounted tells image held P = OnHeld held (λ session. (tells → image.cell ≡ Some (root_bytes (root_of session))) × P session)

-- the command calls the platform: none of its refusals by the session, or by the number of a block, comes before that. A mount and an upgrade have no session; a block is one of the device's; a commit is of
-- changes; and `drop` and `stat` call nothing
abbrev pub CallsPlatform : Type 0 → Option Session → Image → Command → Type 0
CallsPlatform tells held image commands.Mount = held ≡ None
CallsPlatform tells held image (commands.Read block) = OnMounted tells image held (λ session. block < blocks_of session)
CallsPlatform tells held image (commands.Write block content) = OnMounted tells image held (λ session. block < blocks_of session)
CallsPlatform tells held image (commands.Trim block) = OnMounted tells image held (λ session. block < blocks_of session)
CallsPlatform tells held image commands.Commit = OnHeld held (λ session. is_touched session ≡ true)
CallsPlatform tells held image commands.Drop = ⊥
CallsPlatform tells held image commands.Upgrade = held ≡ None
CallsPlatform tells held image commands.Stat = ⊥
CallsPlatform tells held image _ = Unit {0}

-- memory may lack at the command: none of its refusals comes before that. The numbers of a format are those of a device, and the cell is empty; a mount has no session, and the root record in the cell can be
-- served; an update is of a block of the device; a commit is of changes; an upgrade has no session, and the root record in the cell is of version 1, with as many pages free as it needs; a seizure has a root
-- record in the cell to begin with; and where a page is wanted, one is free. No other command takes memory
abbrev pub LacksMemory : Type 0 → Option Session → Image → ℕ → ℕ → Command → Type 0
LacksMemory tells held image head capacity (commands.Format blocks order) = (in_limits blocks order ≡ true) × (head < capacity) × (tells → image.cell ≡ None)
LacksMemory tells held image head capacity commands.Mount = (held ≡ None) × (tells → (root : Root) × IsRootWithin head root × (image.cell ≡ Some (root_bytes root)))
LacksMemory tells held image head capacity (commands.Write block content) = (head < capacity) × OnMounted tells image held (λ session. block < blocks_of session)
LacksMemory tells held image head capacity (commands.Trim block) = OnMounted tells image held (λ session. block < blocks_of session)
LacksMemory tells held image head capacity commands.Commit = (head < capacity) × OnMounted tells image held (λ session. is_touched session ≡ true)
LacksMemory tells held image head capacity commands.Upgrade = (held ≡ None) × (root : Root) × Begins tells image head capacity root
LacksMemory tells held image head capacity commands.Seize = tells → (root : Root) × IsRootWithin head root × (image.cell ≡ Some (root_bytes root))
LacksMemory tells held image head capacity _ = ⊥

-- the device may stop so at the command, behind which there is this image, with so many pages of so many
abbrev pub MayStop : Type 0 → Option Session → Image → ℕ → ℕ → Command → DeviceStop → Type 0
MayStop tells held image head capacity command device.Platform = CallsPlatform tells held image command
MayStop tells held image head capacity command device.Tape = Draws command
MayStop tells held image head capacity command device.Ledger = PutsEntry command
MayStop tells held image head capacity command device.Memory = LacksMemory tells held image head capacity command
MayStop tells held image head capacity command device.BadRoot = JudgesRoot command
MayStop tells held image head capacity command (device.BadRecord addr) = MeetsRecord tells held image command addr

-- ---- replies

-- the command's numbers are out of range: no device has these, or the session's device hasn't this one
abbrev pub IsOutOfRange : Option Session → Command → Type 0
IsOutOfRange held (commands.Format blocks order) = in_limits blocks order ≡ false
IsOutOfRange held (commands.Read block) = OnHeld held (λ session. blocks_of session ≤ block)
IsOutOfRange held (commands.Write block content) = OnHeld held (λ session. blocks_of session ≤ block)
IsOutOfRange held (commands.Trim block) = OnHeld held (λ session. blocks_of session ≤ block)
IsOutOfRange held _ = ⊥

-- a look-up of the block comes to these bytes, but for their trailing zeros
abbrev pub IsLookedUp : Image → ℕ → List ℕ → Session → Type 0
IsLookedUp image block bytes session = (content : List ℕ) × FindsContent image.readable session.grove block content × (bytes ≡ trimmed content)

abbrev pub HasContent : Type 0 → Image → Option Session → Command → List ℕ → Type 0
HasContent tells image held (commands.Read block) bytes = OnHeld held (λ session. tells → IsLookedUp image block bytes session)
HasContent tells image held _ bytes = ⊥

-- an update is done, with this session and image behind it: look-ups come to the content that was written, or find the block no more, and come to what they came to of each other block; a block that wasn't
-- mapped could be, and one that was is counted
abbrev pub HasDone : Type 0 → Image → Image → Option Session → Option Session → Command → Type 0
HasDone tells image after held next (commands.Write block content) = OnHeld held (λ session. OnHeld next (λ now. tells → HasPut image.readable after.readable session now block (padded content)))
HasDone tells image after held next (commands.Trim block) = OnHeld held (λ session. OnHeld next (λ now. tells → HasTaken image.readable after.readable session now block))
HasDone tells image after held next _ = ⊥

-- the cell has a root record with this commit number
abbrev pub HasNumber : Image → ℕ → Type 0
HasNumber image number = (root : Root) × FitsRoot root × (image.cell ≡ Some (root_bytes root)) × (number ≡ root.commit)

-- it has one of this version, which can be read
abbrev pub HasVersion : Image → ℕ → Type 0
HasVersion image version = (root : Root) × FitsRoot root × (image.cell ≡ Some (root_bytes root)) × (root.version ≡ version)

-- it has one of version 1, whose next commit number this is
abbrev pub IsNumberBehind : Image → ℕ → Type 0
IsNumberBehind image number = (root : Root) × FitsRoot root × (image.cell ≡ Some (root_bytes root)) × (root.version ≡ 1) × (number ≡ root.commit + 1)

-- the number of a commit of the session: the next one, if something was changed
abbrev pub number_behind : Session → ℕ
number_behind session = if is_touched session then number_of session + 1 else number_of session

-- the reply is one of the command's own, which gives no content and tells of no block: there is a session, or none; its numbers are the session's; and pages lack for numbers of a device, for a block of it,
-- or for changes
abbrev pub IsOwnReply : Option Session → Command → Reply → Type 0
IsOwnReply held (commands.Format blocks order) given.Formatted = in_limits blocks order ≡ true
IsOwnReply held (commands.Format blocks order) given.NotEmpty = Unit {0}
IsOwnReply held (commands.Format blocks order) given.Full = in_limits blocks order ≡ true
IsOwnReply held commands.Mount (given.Mounted number) = held ≡ None
IsOwnReply held commands.Mount given.AlreadyMounted = held ≢ None
IsOwnReply held commands.Mount given.NoDevice = held ≡ None
IsOwnReply held (commands.Write block content) given.Full = OnHeld held (λ session. block < blocks_of session)
IsOwnReply held commands.Commit (given.Committed number) = OnHeld held (λ session. number ≡ number_behind session)
IsOwnReply held commands.Commit given.Full = OnHeld held (λ session. is_touched session ≡ true)
IsOwnReply held commands.Drop given.Dropped = held ≢ None
IsOwnReply held commands.Erase given.Erased = Unit {0}
IsOwnReply held commands.Erase given.NoDevice = Unit {0}
IsOwnReply held commands.Upgrade (given.Upgraded number) = held ≡ None
IsOwnReply held commands.Upgrade given.AlreadyMounted = held ≢ None
IsOwnReply held commands.Upgrade given.NoDevice = held ≡ None
IsOwnReply held commands.Upgrade given.AlreadyUpgraded = held ≡ None
IsOwnReply held commands.Upgrade given.Full = held ≡ None
IsOwnReply held commands.Stat (given.Stat mapped number) = OnHeld held (λ session. (mapped ≡ session.mapped) × (number ≡ number_of session))
IsOwnReply held commands.Seize (given.Seized pages nodes blocks) = Unit {0}
IsOwnReply held _ _ = ⊥

-- and it is so of the image: the cell is full where there is a device to be erased or in the way of a format, and empty where there is none or one is made; the number of a mount is that of the root record in
-- it; the root record is of version 1 where an upgrade is done, whose number is the next one, or pages lack for it, and of version 2 where it was done already; and a seizure of the image counts so many
abbrev pub IsOfImage : Image → Command → Reply → Type 0
IsOfImage image (commands.Format blocks order) given.Formatted = image.cell ≡ None
IsOfImage image (commands.Format blocks order) given.NotEmpty = image.cell ≢ None
IsOfImage image (commands.Format blocks order) given.Full = image.cell ≡ None
IsOfImage image commands.Mount (given.Mounted number) = HasNumber image number
IsOfImage image commands.Mount given.NoDevice = image.cell ≡ None
IsOfImage image commands.Erase given.Erased = image.cell ≢ None
IsOfImage image commands.Erase given.NoDevice = image.cell ≡ None
IsOfImage image commands.Upgrade (given.Upgraded number) = IsNumberBehind image number
IsOfImage image commands.Upgrade given.NoDevice = image.cell ≡ None
IsOfImage image commands.Upgrade given.AlreadyUpgraded = HasVersion image 2
IsOfImage image commands.Upgrade given.Full = HasVersion image 1
IsOfImage image commands.Seize (given.Seized pages nodes blocks) = IsCounted image pages nodes blocks
IsOfImage image _ _ = Unit {0}

-- the command may have the reply, over this image and with this session, or none, behind which there are these
abbrev pub MayReply : Type 0 → Image → Image → Option Session → Option Session → Command → Reply → Type 0
MayReply tells image after held next command given.Range = IsOutOfRange held command
MayReply tells image after held next command (given.Content bytes) = HasContent tells image held command bytes
MayReply tells image after held next command given.Done = HasDone tells image after held next command
MayReply tells image after held next command given.Unmounted = held ≡ None
MayReply tells image after held next command reply = IsOwnReply held command reply × (tells → IsOfImage image command reply)

-- what a reply leaves of the session: one without a change behind a mount and a commit, the same tree behind a read, and none behind `drop` and `erase`; and else the same one. What an update leaves of it, the
-- update says
abbrev pub LeavesHeld : Option Session → Option Session → Reply → Type 0
LeavesHeld held next (given.Mounted number) = OnHeld next (λ session. needed_by session ≡ 0)
LeavesHeld held next (given.Committed number) = OnHeld next (λ session. needed_by session ≡ 0)
LeavesHeld held next (given.Content bytes) = OnHeld held (λ session. OnHeld next (λ now. now.grove ≡ session.grove))
LeavesHeld held next given.Done = Unit {0}
LeavesHeld held next given.Dropped = next ≡ None
LeavesHeld held next given.Erased = next ≡ None
LeavesHeld held next _ = next ≡ held

-- the one table of a command's answers on any image
abbrev pub AnswersAny : Type 0 → World → World → Command → Result Reply DeviceStop → Type 0
AnswersAny tells old now command (Ok reply) = MayReply tells old.history.present now.history.present old.session now.session command reply × LeavesHeld old.session now.session reply
AnswersAny tells old now command (Err stop) = MayStop tells old.session now.history.present now.head now.capacity command stop

-- ---- lines

-- the line is such a command's
abbrev pub IsOf : (Command → Type 0) → List ℕ → Type 0
IsOf P line = (command : Command) × Spells line command × P command

-- such a command called the platform, with some session or none
abbrev pub HasCalled : Type 0 → Image → Command → Type 0
HasCalled tells image command = (held : Option Session) × CallsPlatform tells held image command

-- it came to this record, with some session or none
abbrev pub HasMet : Type 0 → Image → ℕ → Command → Type 0
HasMet tells image addr command = (held : Option Session) × MeetsRecord tells held image command addr

-- memory lacked at such a command, with some session or none
abbrev pub HasLacked : Type 0 → Image → ℕ → ℕ → Command → Type 0
HasLacked tells image head capacity command = (held : Option Session) × LacksMemory tells held image head capacity command

-- at a moment there was a session on the root record in the cell, or none, and at a later one such a session, or none, behind it, with which the command may have the reply; and since an earlier moment, up to
-- the first of these, the image was as it was
pub record WasSo (tells : Type 0) (history : History) (from : ℕ) (held next : Option Session) (behind : ℕ) (command : Command) (reply : Reply) : Type 0 where
  pub at : ℕ
  pub later : from ≤ at
  pub still : image_at history at ≡ image_at history from
  pub after : at ≤ behind
  pub within : behind ≤ moment history
  pub in_range : IfSome held (λ session. FitsRoot (root_of session))
  pub mounted : IfSome held (IsMounted (image_at history at))
  pub mounted_then : IfSome next (IsMounted (image_at history behind))
  pub may : MayReply tells (image_at history at) (image_at history behind) held next command reply
  pub leaves : LeavesHeld held next reply

-- the reply is `bad` to a line outside the grammar, and nothing is changed, or it was so of its line's command
abbrev pub LineSo : Type 0 → History → ℕ → Option Session → Option Session → ℕ → List ℕ → Reply → Type 0
LineSo tells history from held next behind line reply =
    (IsBad line × (reply ≡ given.Bad) × (next ≡ held) × (behind ≡ from)) ⊎ IsOf (λ command. WasSo tells history from held next behind command reply) line

-- each of these replies was so, from this moment and this session on, or none: each line goes on with what the one before it left, up to this moment and this session, or none
abbrev pub AreSo : Type 0 → History → ℕ → Option Session → List (List ℕ) → List Reply → ℕ → Option Session → Type 0
AreSo tells history from held lines [] end last = (from ≤ end) × (end ≤ moment history) × (image_at history end ≡ image_at history from) × (last ≡ held)
AreSo tells history from held [] (reply ∷ replies) end last = ⊥
AreSo tells history from held (line ∷ lines) (reply ∷ replies) end last =
    (behind : ℕ) × (next : Option Session) × LineSo tells history from held next behind line reply × AreSo tells history behind next lines replies end last

-- the same of the moments of a part of a run, and of the sessions before and behind it; the last ones are those behind it where each line has a reply, and with the last session it ends so
abbrev pub SoOn : Type 0 → History → History → Option Session → Option Session → List (List ℕ) → List Reply → (Option Session → Type 0) → Type 0
SoOn tells old new held now lines replies Ends = tells → Extends old new × (end : ℕ) × (last : Option Session) × AreSo tells new (moment old) held lines replies end last
    × (length replies ≡ length lines → (end ≡ moment new) × (last ≡ now)) × Ends last
