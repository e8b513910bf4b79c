-- The array machine: which reply belongs to a command, and which state follows.
use Rattle.std.specs.Prelude.{ℕ, ◌+◌, ◌%◌, Bool, true, false, not, ◌&&◌, ◌==◌, nat_lt, nat_le, if◌then◌else◌, List, [], ◌∷◌, Option, Some, None}
use Rattle.std.specs.FinMap as map
use Rattle.script_lang.specs.Commands.{Command}
use Rattle.script_lang.specs.Commands.{Format, Mount, Read, Write, Trim, Commit, Drop, Erase, Upgrade, Stat, Seize}
use Rattle.script_lang.specs.Replies.{Reply}
use Rattle.script_lang.specs.Replies.{Formatted, Mounted, Content, Done, Committed, Dropped, Erased, Upgraded, Seized, Unmounted, AlreadyMounted, NotEmpty, NoDevice, AlreadyUpgraded, Range}
use Rattle.script_lang.specs.Replies as replies
use Rattle.sdbt_base.specs.Arrays.{Device, Session, State, content_of, new_device, session_on, committed, upgraded, written, unmapped}

-- a byte before bytes that have no trailing zeros: a zero before nothing is a trailing one
abbrev pub before_trimmed : ℕ → List ℕ → List ℕ
before_trimmed byte [] = if byte == 0 then [] else byte ∷ []
before_trimmed byte (next ∷ bytes) = byte ∷ next ∷ bytes

-- bytes without their trailing zeros
unfoldable pub trimmed : List ℕ → List ℕ
trimmed [] = []
trimmed (byte ∷ bytes) = before_trimmed byte (trimmed bytes)

-- the reply that gives a block's content
abbrev pub content_reply : List ℕ → Reply
content_reply content = Content (trimmed content)

-- a device may have 1 to 1,048,576 blocks, and an even order from 4 to 64
abbrev pub in_limits : ℕ → ℕ → Bool
in_limits blocks order = nat_le 1 blocks && nat_le blocks 1048576 && nat_le 4 order && nat_le order 64 && (order % 2 == 0)

-- goes on with the device, if there is one
abbrev pub on_device : {A : Type 0} → Option Device → A → (Device → A) → A
on_device None without present = without
on_device (Some device) without present = present device

-- goes on with the session, if there is one
abbrev pub on_session : {A : Type 0} → Option Session → A → (Session → A) → A
on_session None without present = without
on_session (Some session) without present = present session

-- goes on with the session and its device, if there is one
abbrev pub in_session : {A : Type 0} → Option Device → Option Session → A → (Device → Session → A) → A
in_session None session unmounted mounted = unmounted
in_session (Some device) None unmounted mounted = unmounted
in_session (Some device) (Some session) unmounted mounted = mounted device session

-- the state with another session
abbrev pub with_session : State → Session → State
with_session state session = record state { session = Some session }

-- what a seizure counts: pages, and of what it opens of them the nodes and the data records
pub record Counted : Type 0 where
  pub pages : ℕ
  pub nodes : ℕ
  pub blocks : ℕ

-- one step: the reply, and the state that follows. A seizure tells what it counted, which is no matter of the array, and
-- leaves the state
abbrev pub step : Counted → State → Command → Reply × State
step counted state (Format blocks order) = on_device state.device
    (if in_limits blocks order then (Formatted, record state { device = Some (new_device blocks order) }) else (Range, state))
    (λ device. (NotEmpty, state))
step counted state Mount = on_session state.session
    (on_device state.device (NoDevice, state) (λ device. (Mounted device.number, with_session state (session_on device))))
    (λ session. (AlreadyMounted, state))
step counted state (Read block) = in_session state.device state.session (Unmounted, state) (λ device session.
    if nat_lt block device.blocks then (content_reply (content_of session.contents block), state) else (Range, state))
step counted state (Write block content) = in_session state.device state.session (Unmounted, state) (λ device session.
    if nat_lt block device.blocks then (Done, with_session state (written session block content)) else (Range, state))
step counted state (Trim block) = in_session state.device state.session (Unmounted, state) (λ device session.
    if nat_lt block device.blocks then (Done, with_session state (unmapped session block)) else (Range, state))
step counted state Commit = in_session state.device state.session (Unmounted, state) (λ device session.
    if session.touched then (Committed (device.number + 1), record { device = Some (committed device session); session = Some (session_on (committed device session)) })
    else (Committed device.number, state))
step counted state Drop = in_session state.device state.session (Unmounted, state) (λ device session. (Dropped, record state { session = None }))
step counted state Erase = on_device state.device (NoDevice, state) (λ device. (Erased, record { device = None; session = None }))
step counted state Upgrade = on_session state.session
    (on_device state.device (NoDevice, state) (λ device. if device.version == 2 then (AlreadyUpgraded, state)
    else (Upgraded (device.number + 1), record state { device = Some (upgraded device) })))
    (λ session. (AlreadyMounted, state))
step counted state Stat = in_session state.device state.session (Unmounted, state) (λ device session.
    (replies.Stat (map.len session.contents) device.number, state))
step counted state Seize = (Seized counted.pages counted.nodes counted.blocks, state)

-- whether the command is one that is accepted and needs room on the medium
abbrev pub needs_room : State → Command → Bool
needs_room state (Format blocks order) = on_device state.device (in_limits blocks order) (λ device. false)
needs_room state (Write block content) = in_session state.device state.session false (λ device session. nat_lt block device.blocks)
needs_room state Commit = in_session state.device state.session false (λ device session. session.touched)
needs_room state Upgrade = on_session state.session (on_device state.device false (λ device. not (device.version == 2))) (λ session. false)
needs_room state Mount = false
needs_room state (Read block) = false
needs_room state (Trim block) = false
needs_room state Drop = false
needs_room state Erase = false
needs_room state Stat = false
needs_room state Seize = false

-- whether the command is one that is accepted and takes memory, on a medium that is full or isn't
abbrev pub takes_memory : Bool → State → Command → Bool
takes_memory full state Mount = on_session state.session (on_device state.device false (λ device. true)) (λ session. false)
takes_memory full state (Write block content) = needs_room state (Write block content) && not full
takes_memory full state Commit = needs_room state Commit && not full
takes_memory full state _ = false

-- the commit number of the device, and 0 without one
abbrev pub number_of : State → ℕ
number_of state = on_device state.device 0 (λ device. device.number)
