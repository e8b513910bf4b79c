-- The cause of each answer: which comes where, and that a fault comes only where the count of that object rose.
use Rattle.std.specs.Prelude.{◌≡◌, ◌≢◌, ◌<◌, ◌≤◌, ℕ, List, Option, None, Some, Result, Ok, Err}
use Rattle.sdbt_base.specs.Counts.{Counts, PlatformRose, TapeRose}
use Rattle.sdbt_base.specs.Faults.{Rose}
use Rattle.root_codec.specs.RootRecord.{root_bytes}
use Rattle.root_codec.specs.declared.root.Root.{Root}
use Rattle.page_store.specs.Roots.{IsBadCell, IsRootWithin}
use Rattle.device_session.specs.declared.refusals.MountRefusal.{MountRefusal}
use Rattle.device_session.specs.declared.refusals.MountRefusal.TheVariants as mount
use Rattle.device_session.specs.declared.refusals.ReadRefusal.{ReadRefusal}
use Rattle.device_session.specs.declared.refusals.ReadRefusal.TheVariants as read
use Rattle.device_session.specs.declared.refusals.WriteRefusal.{WriteRefusal}
use Rattle.device_session.specs.declared.refusals.WriteRefusal.TheVariants as write
use Rattle.device_session.specs.declared.refusals.TrimRefusal.{TrimRefusal}
use Rattle.device_session.specs.declared.refusals.TrimRefusal.TheVariants as trim

-- the cell is empty, or it is full and its record can't be served; and memory is asked for where it can
abbrev pub IsMountCause : Option (List ℕ) → ℕ → MountRefusal → Type 0
IsMountCause cell pages mount.NoDevice = cell ≡ None
IsMountCause cell pages mount.BadRoot = IsBadCell pages cell
IsMountCause cell pages mount.PlatformFault = Unit {0}
IsMountCause cell pages mount.Memory = (root : Root) × IsRootWithin pages root × (cell ≡ Some (root_bytes root))

-- the block is one of the device; and the platform failed where the answer says so, and nowhere else
abbrev pub IsReadCause : ℕ → ℕ → ℕ → ℕ → Result (Unit {0}) ReadRefusal → Type 0
IsReadCause block blocks before now (Ok done) = (block < blocks) × (now ≡ before)
IsReadCause block blocks before now (Err read.Range) = (blocks ≤ block) × (now ≡ before)
IsReadCause block blocks before now (Err (read.BadRecord addr)) = (block < blocks) × (now ≡ before)
IsReadCause block blocks before now (Err read.PlatformFault) = (block < blocks) × Rose before now

-- the block is one of the device, and a page is free; and but for the object that the answer names none failed
abbrev pub IsWriteCause : ℕ → ℕ → ℕ → ℕ → Counts → Counts → Result (Unit {0}) WriteRefusal → Type 0
IsWriteCause block blocks head capacity before now (Ok done) = (block < blocks) × (head ≢ capacity) × (now ≡ before)
IsWriteCause block blocks head capacity before now (Err write.Range) = (blocks ≤ block) × (now ≡ before)
IsWriteCause block blocks head capacity before now (Err write.Full) = (block < blocks) × (head ≡ capacity) × (now ≡ before)
IsWriteCause block blocks head capacity before now (Err (write.BadRecord addr)) = (block < blocks) × (head ≢ capacity) × (now ≡ before)
IsWriteCause block blocks head capacity before now (Err write.PlatformFault) = (block < blocks) × (head ≢ capacity) × PlatformRose before now
IsWriteCause block blocks head capacity before now (Err write.TapeFault) = (block < blocks) × (head ≢ capacity) × TapeRose before now
IsWriteCause block blocks head capacity before now (Err write.Memory) = (block < blocks) × (head ≢ capacity) × (now ≡ before)

-- a data record was put and nothing failed, or the platform or the tape failed
abbrev pub IsPutCause : Counts → Counts → Result (Unit {0}) WriteRefusal → Type 0
IsPutCause before now (Ok done) = now ≡ before
IsPutCause before now (Err write.PlatformFault) = PlatformRose before now
IsPutCause before now (Err write.TapeFault) = TapeRose before now
IsPutCause before now (Err write.Range) = ⊥
IsPutCause before now (Err write.Full) = ⊥
IsPutCause before now (Err (write.BadRecord addr)) = ⊥
IsPutCause before now (Err write.Memory) = ⊥

-- the block is one of the device; and the platform failed where the answer says so, and nowhere else
abbrev pub IsTrimCause : ℕ → ℕ → ℕ → ℕ → Result (Unit {0}) TrimRefusal → Type 0
IsTrimCause block blocks before now (Ok done) = (block < blocks) × (now ≡ before)
IsTrimCause block blocks before now (Err trim.Range) = (blocks ≤ block) × (now ≡ before)
IsTrimCause block blocks before now (Err (trim.BadRecord addr)) = (block < blocks) × (now ≡ before)
IsTrimCause block blocks before now (Err trim.PlatformFault) = (block < blocks) × Rose before now
IsTrimCause block blocks before now (Err trim.Memory) = (block < blocks) × (now ≡ before)
