-- From what a run over volumes begins: a device with a session just mounted on it, and the table in its block 0.
use Rattle.std.specs.Prelude.{◌≡◌, ◌≢◌, ◌≤◌, ◌*◌, ℕ, List, Some, Result, Ok, Err}
use Rattle.sdbt_base.specs.Arrays.{Device, Session as OpenSession, content_of, mounted, session_on}
use Rattle.platform.specs.Image.{Image}
use Rattle.page_store.specs.Stands.{Stands}
use Rattle.device_terms.specs.Served.{IsServedImage}
use Rattle.device_course.specs.States.{IsAt, Outside}
use Rattle.device_session.specs.Open.{blocks_of, needed_by}
use Rattle.device_session.specs.Reading.{FindsContent}
use Rattle.device_session.specs.Sessions.{Session}
use Rattle.line_run.specs.declared.stop.Stop.TheVariants as stops
use Rattle.device_course.specs.Held.{Held, state_of}
use Rattle.session_calls.specs.Damage.{IsMounted, IsWrongPage}
use Rattle.session_calls.specs.declared.stops.DeviceStop.TheVariants as device
use Rattle.volume_table.specs.Tables.{IsTable, table_bytes}
use Rattle.volume_table.specs.declared.volume.Volume.{Volume}
use Rattle.volume_terms.specs.Volumes.{IsTabled}
use Rattle.volume_serving.specs.Damage.{TellsDamage}
use Rattle.volumes.specs.declared.halts.Halt.{Halt}
use Rattle.volumes.specs.declared.halts.Halt.TheVariants as halts

-- the device that the image stands for, with a session just mounted on it
pub record IsStart (tells : Type 0) (here : Outside) (held : Held) : Type 0 where
  pub told : tells
  pub stands : Stands here.history.present (Some held.device)
  pub served : IsServedImage here.history.present
  pub session : held.session ≡ session_on held.device
  pub pages : held.pages ≡ here.head
  pub updates : held.updates ≡ 0

-- a state that this session stands for
pub record IsFrom (tells : Type 0) (here : Outside) (session : Session) (held : Held) : Type 0 where
  pub told : tells
  pub at : IsAt here.history.present (Some session) (state_of held)
  pub pages : held.pages ≡ here.head
  pub needs : needed_by session ≤ 41 * held.updates

-- block 0 of the state's array has no table
abbrev pub HasNoTable : Held → Type 0
HasNoTable held = (table : List Volume) → IsTabled held table → ⊥

-- what is found in block 0 of a session's array: a table, of the bytes that it has; that it has those of none; or the platform failed
abbrev pub FindsTable : Image → Session → Device → OpenSession → Result (List Volume) Halt → Type 0
FindsTable image now there array (Ok table) = IsAt image (Some now) (mounted there array) × (content_of array.contents 0 ≡ table_bytes table)
FindsTable image now there array (Err halts.BadDirectory) = (table : List Volume) → IsTable there.blocks table → content_of array.contents 0 ≢ table_bytes table
FindsTable image now there array (Err (halts.Stopped (stops.Device device.Platform))) = Unit {0}
FindsTable image now there array (Err _) = ⊥

-- on any pages: a session without a change of its own, on the root record in the cell, of a device with so many blocks, finds these bytes in block 0
pub record HasFirst (image : Image) (blocks : ℕ) (bytes : List ℕ) : Type 0 where
  pub session : Session
  pub mounted : IsMounted image session
  pub fresh : needed_by session ≡ 0
  pub many : blocks_of session ≡ blocks
  pub found : FindsContent image.readable session.grove 0 bytes

-- they spell this table
abbrev pub IsSpelled : Image → ℕ → List Volume → Type 0
IsSpelled image blocks table = HasFirst image blocks (table_bytes table)

-- or none
abbrev pub SpellsNone : Image → Type 0
SpellsNone image = (blocks : ℕ) × (bytes : List ℕ) × HasFirst image blocks bytes × ((table : List Volume) → IsTable blocks table → bytes ≢ table_bytes table)

-- what a look at block 0 comes to with this session
abbrev pub FindsFirst : Image → Session → Result (List Volume) Halt → Type 0
FindsFirst image session (Ok table) = FindsContent image.readable session.grove 0 (table_bytes table)
FindsFirst image session (Err halts.BadDirectory) =
    (bytes : List ℕ) × FindsContent image.readable session.grove 0 bytes × ((table : List Volume) → IsTable (blocks_of session) table → bytes ≢ table_bytes table)
FindsFirst image session (Err _) = Unit {0}

-- a halt of a look at the table
abbrev pub IsOfTable : Halt → Type 0
IsOfTable halts.BadDirectory = Unit {0}
IsOfTable (halts.Stopped (stops.Device device.Platform)) = Unit {0}
IsOfTable (halts.Stopped (stops.Device (device.BadRecord addr))) = Unit {0}
IsOfTable _ = ⊥

-- a halt behind a mount: a record that doesn't fit is one of the image, on any pages
abbrev pub HaltsBehind : Image → Halt → Type 0
HaltsBehind image halts.NoDevice = ⊥
HaltsBehind image halts.BadDirectory = Unit {0}
HaltsBehind image (halts.Stopped stop) = TellsDamage image stop

-- the same of any halt
abbrev pub HaltsAtDamage : Image → Halt → Type 0
HaltsAtDamage image (halts.Stopped (stops.Device (device.BadRecord addr))) = IsWrongPage image addr
HaltsAtDamage image _ = Unit {0}

-- why a run ended that began on a device and served no line: block 0 has no table; or the platform failed, or no memory was given
abbrev pub EndsEarly : Held → Halt → Type 0
EndsEarly entry halts.BadDirectory = HasNoTable entry
EndsEarly entry (halts.Stopped (stops.Device device.Platform)) = Unit {0}
EndsEarly entry (halts.Stopped (stops.Device device.Memory)) = Unit {0}
EndsEarly entry _ = ⊥

-- how many pages are read at most before such a halt: none where no session is opened, and else 21 for the table, one for each of 20 levels of the tree and the block's own
abbrev pub reads_before : Halt → ℕ
reads_before halts.NoDevice = 0
reads_before (halts.Stopped (stops.Device device.BadRoot)) = 0
reads_before (halts.Stopped (stops.Device device.Memory)) = 0
reads_before _ = 21

-- the device is not served: it is none, its root record can't be served, or its block 0 has no table
abbrev pub IsRefusal : Halt → Type 0
IsRefusal halts.NoDevice = Unit {0}
IsRefusal halts.BadDirectory = Unit {0}
IsRefusal (halts.Stopped (stops.Device device.BadRoot)) = Unit {0}
IsRefusal (halts.Stopped _) = ⊥
