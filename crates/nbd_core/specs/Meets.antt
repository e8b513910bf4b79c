-- Where requests meet a page that doesn't fit its place.
use Rattle.std.specs.Prelude.{◌≡◌, ◌⊎◌, ℕ}
use Rattle.byte_arrays.specs.Ranges.{IsCovered, IsTouched}
use Rattle.platform.specs.Image.{Image}
use Rattle.device_session.specs.Damage.{IsAtLimit}
use Rattle.device_session.specs.Sessions.{Session}
use Rattle.nbd_lang.specs.declared.requests.RequestKind.{RequestKind}
use Rattle.nbd_lang.specs.declared.requests.RequestKind.TheVariants as kinds
use Rattle.session_calls.specs.Damage.{IsMiscountedAt, IsWrongNode, IsWrongPlace}
use Rattle.session_calls.specs.declared.stops.DeviceStop.{DeviceStop}
use Rattle.session_calls.specs.declared.stops.DeviceStop.TheVariants as stops

-- a range touches a block that it doesn't cover whole
abbrev pub CutsBlock : ℕ → ℕ → Type 0
CutsBlock offset n = (block : ℕ) × IsTouched offset n block × (IsCovered offset n block → ⊥)

-- a change of a block stops at this address: at a node's place that doesn't fit; or, only where this holds, at the root node of a tree that is miscounted
abbrev pub IsStepAt : Type 0 → Image → ℕ → Type 0
IsStepAt Bound image addr = IsWrongNode image addr ⊎ (IsMiscountedAt image addr × Bound)

-- what doesn't fit, at this address, where a request of this kind meets it with this session: for a read any place; for a trim
-- one where a change of a block stops, at the root node only where none is counted; for a write such a one, at the root node only
-- where no block more can be mapped, and any place only where it cuts a block
abbrev pub MayMeet : RequestKind → Session → Image → ℕ → ℕ → ℕ → Type 0
MayMeet kinds.Read session image offset n addr = IsWrongPlace image addr
MayMeet kinds.Write session image offset n addr = IsStepAt (IsAtLimit session) image addr ⊎ (CutsBlock offset n × IsWrongPlace image addr)
MayMeet kinds.Trim session image offset n addr = IsStepAt (session.mapped ≡ 0) image addr
MayMeet kinds.Flush session image offset n addr = ⊥
MayMeet kinds.Disconnect session image offset n addr = ⊥
MayMeet (kinds.Other number) session image offset n addr = ⊥

-- such a request met it
abbrev pub HasMet : RequestKind → Session → Image → ℕ → ℕ → Type 0
HasMet kind session image offset n = (addr : ℕ) × MayMeet kind session image offset n addr

-- a stop at a record that doesn't fit names an address where this is so
abbrev pub MeetsAt : (ℕ → Type 0) → DeviceStop → Type 0
MeetsAt IsSo (stops.BadRecord addr) = IsSo addr
MeetsAt IsSo stops.Platform = Unit {0}
MeetsAt IsSo stops.Tape = Unit {0}
MeetsAt IsSo stops.Ledger = Unit {0}
MeetsAt IsSo stops.Memory = Unit {0}
MeetsAt IsSo stops.BadRoot = ⊥
