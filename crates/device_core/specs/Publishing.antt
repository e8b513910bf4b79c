-- The cause of each answer of a format and of an erasure: which comes where, and that a fault comes only where the count of that object rose.
use Rattle.std.specs.Prelude.{◌≡◌, ◌≢◌, ◌⊎◌, ◌+◌, ℕ, None, Result, Ok, Err}
use Rattle.sdbt_base.specs.Counts.{Counts, PlatformRose, TapeRose, LedgerRose}
use Rattle.sdbt_base.specs.Faults.{Rose}
use Rattle.sdbt_base.specs.declared.faults.PlatformFault.{PlatformFault}
use Rattle.sdbt_base.specs.declared.tapes.Tape.{Ghosts as TapeGhosts}
use Rattle.platform.specs.declared.platforms.Platform.{Ghosts as PlatformGhosts}
use Rattle.platform.specs.History.{CellStays}
use Rattle.page_store.specs.Stands.{Stands}
use Rattle.device_terms.specs.Effects.{AddsNothing}
use Rattle.device_core.specs.declared.publishing.PublishFault.{PublishFault}
use Rattle.device_core.specs.declared.publishing.PublishFault.TheVariants as publish
use Rattle.device_core.specs.declared.refusals.FormatRefusal.{FormatRefusal}
use Rattle.device_core.specs.declared.refusals.FormatRefusal.TheVariants as format
use Rattle.device_core.specs.declared.refusals.EraseRefusal.{EraseRefusal}
use Rattle.device_core.specs.declared.refusals.EraseRefusal.TheVariants as erase

-- so often the publishing of a root record syncs and replaces it, at most: where the ledger failed it has only synced
abbrev pub most_publish : Result (Unit {0}) PublishFault → ℕ
most_publish (Ok done) = 2
most_publish (Err publish.Ledger) = 1
most_publish (Err publish.Platform) = 2

-- a root record was published and nothing failed; or it was not since the platform failed, or the ledger, and the cell is as it was then
abbrev pub IsPublishCause : Type 0 → Counts → Counts → Result (Unit {0}) PublishFault → Type 0
IsPublishCause Still before now (Ok done) = now ≡ before
IsPublishCause Still before now (Err publish.Platform) = PlatformRose before now
IsPublishCause Still before now (Err publish.Ledger) = LedgerRose before now × Still

-- so often a format syncs and replaces the root record, at most: not at all where it is refused before, and where the ledger failed it has only synced
abbrev pub most_format : Result (Unit {0}) FormatRefusal → ℕ
most_format (Ok done) = 2
most_format (Err format.NotEmpty) = 0
most_format (Err format.Full) = 0
most_format (Err format.Memory) = 0
most_format (Err format.TapeFault) = 0
most_format (Err format.LedgerFault) = 1
most_format (Err format.PlatformFault) = 2

-- nothing came of a format: no page, no key, and at each moment the cell as it was
abbrev pub IsUnmade : {S R : Type 0} → PlatformGhosts S → TapeGhosts R → S → S → R → R → Type 0
IsUnmade P T platform platform_now tape tape_now =
    AddsNothing P T platform platform_now tape tape_now × (P.tells → CellStays (P.history platform) (P.history platform_now))

-- a device is made where the cell is empty and a page is free, and one page is added then. There is a device already exactly where the cell is full, and
-- else the medium is full exactly where no page is free; memory is asked for behind that. But for the object that an answer names none failed
abbrev pub IsFormatCause : {S R : Type 0} → PlatformGhosts S → TapeGhosts R → S → S → R → R → Counts → Counts → Result (Unit {0}) FormatRefusal → Type 0
IsFormatCause P T platform platform_now tape tape_now before now (Ok done) =
    (P.tells → (P.history platform).present.cell ≡ None) × (P.head platform ≢ P.capacity platform) × (P.head platform_now ≡ P.head platform + 1) × (now ≡ before)
IsFormatCause P T platform platform_now tape tape_now before now (Err format.NotEmpty) =
    (P.tells → (P.history platform).present.cell ≢ None) × IsUnmade P T platform platform_now tape tape_now × (now ≡ before)
IsFormatCause P T platform platform_now tape tape_now before now (Err format.Full) =
    (P.tells → (P.history platform).present.cell ≡ None) × (P.head platform ≡ P.capacity platform) × IsUnmade P T platform platform_now tape tape_now × (now ≡ before)
IsFormatCause P T platform platform_now tape tape_now before now (Err format.Memory) =
    (P.tells → (P.history platform).present.cell ≡ None) × (P.head platform ≢ P.capacity platform) × IsUnmade P T platform platform_now tape tape_now × (now ≡ before)
IsFormatCause P T platform platform_now tape tape_now before now (Err format.TapeFault) =
    TapeRose before now × (P.head platform ≢ P.capacity platform) × IsUnmade P T platform platform_now tape tape_now
IsFormatCause P T platform platform_now tape tape_now before now (Err format.LedgerFault) =
    LedgerRose before now × (P.head platform ≢ P.capacity platform) × (P.tells → CellStays (P.history platform) (P.history platform_now))
IsFormatCause P T platform platform_now tape tape_now before now (Err format.PlatformFault) = PlatformRose before now

-- a cell is empty once it was cleared. That fails exactly where the platform does
abbrev pub IsClearCause : {S : Type 0} → PlatformGhosts S → S → S → Result (Unit {0}) PlatformFault → Type 0
IsClearCause P platform platform_now (Ok done) = (P.tells → Stands (P.history platform_now).present None) × (P.faults platform_now ≡ P.faults platform)
IsClearCause P platform platform_now (Err fault) = Rose (P.faults platform) (P.faults platform_now)

-- nothing was changed
abbrev pub IsLeft : {S : Type 0} → PlatformGhosts S → S → S → Type 0
IsLeft P platform platform_now = ((P.history platform_now).present ≡ (P.history platform).present) × (P.changes platform_now ≡ P.changes platform)

-- an erasure empties a full cell; there is no device exactly where the cell is empty, and then all is as it was. It fails exactly where the platform does, and then the cell was full,
-- or nothing was changed
abbrev pub IsEraseCause : {S : Type 0} → PlatformGhosts S → S → S → Result (Unit {0}) EraseRefusal → Type 0
IsEraseCause P platform platform_now (Ok done) =
    (P.tells → ((P.history platform).present.cell ≢ None) × Stands (P.history platform_now).present None) × (P.faults platform_now ≡ P.faults platform)
IsEraseCause P platform platform_now (Err erase.NoDevice) =
    (P.tells → ((P.history platform).present.cell ≡ None) × ((P.history platform_now).present ≡ (P.history platform).present)
    × CellStays (P.history platform) (P.history platform_now) × (P.changes platform_now ≡ P.changes platform)) × (P.faults platform_now ≡ P.faults platform)
IsEraseCause P platform platform_now (Err erase.PlatformFault) =
    Rose (P.faults platform) (P.faults platform_now) × (P.tells → ((P.history platform).present.cell ≢ None) ⊎ IsLeft P platform platform_now)
