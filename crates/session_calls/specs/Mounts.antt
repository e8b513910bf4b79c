-- What a mount says, by its answer.
use Rattle.std.specs.Prelude.{◌≡◌, ℕ, List, Option, None, Some, Result, Ok, Err}
use Rattle.sdbt_base.specs.Arrays.{Device, State, closed, session_on, mounted}
use Rattle.platform.specs.declared.platforms.Platform.{Ghosts as PlatformGhosts}
use Rattle.platform.specs.Image.{Image}
use Rattle.root_codec.specs.RootRecord.{root_bytes}
use Rattle.root_codec.specs.declared.root.Root.{Root}
use Rattle.page_store.specs.Roots.{IsBadCell, IsRootWithin}
use Rattle.device_course.specs.States.{IsAt}
use Rattle.device_session.specs.Mounting.{Mounts}
use Rattle.device_session.specs.Open.{number_of}
use Rattle.device_session.specs.Sessions.{Session}
use Rattle.session_calls.specs.Damage.{IsMounted}
use Rattle.session_calls.specs.declared.stops.DeviceStop.{DeviceStop}
use Rattle.session_calls.specs.declared.stops.DeviceStop.TheVariants as stops

-- the cell is empty, or a session without a change is open on the root record in it, with room for so many nodes
abbrev pub IsFound : {S : Type 0} → PlatformGhosts S → ℕ → S → S → Option Session → Type 0
IsFound P room platform platform_now None = P.tells → (P.history platform).present.cell ≡ None
IsFound P room platform platform_now (Some session) = Mounts P room platform platform_now session × (P.tells → IsMounted (P.history platform_now).present session)

-- a mount stops where the platform failed, at a cell that is full, and not with the root record of a root within so many pages, or, with such a record in the cell, where no memory
-- is given
abbrev pub IsMountStop : Type 0 → Option (List ℕ) → ℕ → DeviceStop → Type 0
IsMountStop tells cell pages stops.Platform = Unit {0}
IsMountStop tells cell pages stops.Memory = tells → (root : Root) × IsRootWithin pages root × (cell ≡ Some (root_bytes root))
IsMountStop tells cell pages stops.BadRoot = tells → IsBadCell pages cell
IsMountStop tells cell pages stops.Tape = ⊥
IsMountStop tells cell pages stops.Ledger = ⊥
IsMountStop tells cell pages (stops.BadRecord addr) = ⊥

-- from a state without a session: there is no device, or a session on the device that there is; and a stop leaves the state. A cell that can be served is not refused
abbrev pub MountLeads : Image → State → Result (Option Session) DeviceStop → Type 0
MountLeads image entry (Ok None) = (entry ≡ closed None) × IsAt image None (closed None)
MountLeads image entry (Ok (Some session)) =
    (device : Device) × (entry ≡ closed (Some device)) × IsAt image (Some session) (mounted device (session_on device)) × (number_of session ≡ device.number)
MountLeads image entry (Err stops.Platform) = IsAt image None entry
MountLeads image entry (Err stops.Memory) = IsAt image None entry
MountLeads image entry (Err stops.BadRoot) = ⊥
MountLeads image entry (Err stops.Tape) = ⊥
MountLeads image entry (Err stops.Ledger) = ⊥
MountLeads image entry (Err (stops.BadRecord addr)) = ⊥
