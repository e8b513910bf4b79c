-- What a TPM was asked and answered, and what its replies say of a cell.
use Rattle.std.specs.Prelude.{◌≡◌, ◌≢◌, ◌⊎◌, ℕ, List, Option, Some, None, replicate}
use Rattle.tpm_nv.specs.Messages.{read_public_bytes, read_bytes, write_bytes, IsWritten}
use Rattle.tpm_nv.specs.Replies.{IsCause, SaysContent, IsContent}
use Rattle.tpm_nv.specs.Areas.{Area, Describes, IsAbsent, IsFault, IsPublic}
use Rattle.tpm_nv.specs.Attributes.{IsUsable}
use Rattle.tpm_cell.specs.declared.faults.TpmFault.{TpmFault}
use Rattle.tpm_cell.specs.declared.faults.TpmFault.TheVariants.{Io as FileFailed, Reply, Unkept}
use Rattle.tpm_cell.specs.declared.faults.CellRefusal.{CellRefusal}
use Rattle.tpm_cell.specs.declared.faults.CellRefusal.TheVariants.{Io, NoDevice, Absent, Unusable, Failed}

-- a root record's length of zeros, which are none
unfoldable pub no_root : List ℕ
no_root = replicate 128 0

-- what is in the cell where the index holds this: nothing, where it was never written or has zeros
abbrev pub IsInCell : Option (List ℕ) → Option (List ℕ) → Type 0
IsInCell held (Some bytes) = (held ≡ Some bytes) × (bytes ≢ no_root)
IsInCell held None = (held ≡ None) ⊎ (held ≡ Some no_root)

-- a call that is not on the cell leaves it, and why an earlier one on it failed
abbrev pub IsApart : {C F : Type 0} → C → C → F → F → Type 0
IsApart cell cell_now failure failure_now = (cell_now ≡ cell) × (failure_now ≡ failure)

-- in these, `asks old command answer new` says that a command was sent, and what came of it

-- the command was sent, and some reply to it is this
abbrev pub Replies : {T : Type 0} → (T → List ℕ → Option (List ℕ) → T → Type 0) → List ℕ → (List ℕ → Type 0) → T → T → Type 0
Replies asks command Is old new = (reply : List ℕ) × asks old command (Some reply) new × Is reply

-- the command was sent, and there was no reply, or none of those that were waited for
abbrev pub FailsAs : {T : Type 0} → (T → List ℕ → Option (List ℕ) → T → Type 0) → List ℕ → (List ℕ → Type 0) → T → T → TpmFault → Type 0
FailsAs asks command Awaited old new (FileFailed _) = asks old command None new
FailsAs asks command Awaited old new (Reply failure) = Replies asks command (λ reply. IsCause (Awaited reply) reply failure) old new
FailsAs asks command Awaited old new Unkept = ⊥

-- the index was read, and holds this
abbrev pub Reads : {T : Type 0} → (T → List ℕ → Option (List ℕ) → T → Type 0) → ℕ → Option (List ℕ) → T → T → Type 0
Reads asks index held old new = Replies asks (read_bytes index) (λ reply. SaysContent reply held) old new

-- the index was written with these bytes, and that was answered
abbrev pub Writes : {T : Type 0} → (T → List ℕ → Option (List ℕ) → T → Type 0) → ℕ → List ℕ → T → T → Type 0
Writes asks index bytes old new = Replies asks (write_bytes index bytes) IsWritten old new

-- the same, and it was read back
abbrev pub Stores : {T : Type 0} → (T → List ℕ → Option (List ℕ) → T → Type 0) → ℕ → List ℕ → T → T → Type 0
Stores {T} asks index bytes old new = (mid : T) × Writes asks index bytes old mid × Reads asks index (Some bytes) mid new

-- the index could not be read, or holds something else
abbrev pub ReadsOther : {T : Type 0} → (T → List ℕ → Option (List ℕ) → T → Type 0) → ℕ → List ℕ → T → T → TpmFault → Type 0
ReadsOther asks index bytes old new fault =
    FailsAs asks (read_bytes index) IsContent old new fault ⊎ ((fault ≡ Unkept) × (held : Option (List ℕ)) × (held ≢ Some bytes) × Reads asks index held old new)

-- the bytes were not written, or not read back: no more than that was asked
abbrev pub StoresNot : {T : Type 0} → (T → List ℕ → Option (List ℕ) → T → Type 0) → ℕ → List ℕ → T → T → TpmFault → Type 0
StoresNot {T} asks index bytes old new fault =
    FailsAs asks (write_bytes index bytes) IsWritten old new fault ⊎ ((mid : T) × Writes asks index bytes old mid × ReadsOther asks index bytes mid new fault)

-- the index is one in which a root record can stand
abbrev pub IsUsableIndex : ℕ → List ℕ → Type 0
IsUsableIndex index reply = (area : Area) × Describes index area reply × IsUsable area.attributes area.size

-- the TPM said what the index is, and then what it holds
abbrev pub Opens : {T : Type 0} → (T → List ℕ → Option (List ℕ) → T → Type 0) → ℕ → T → T → Type 0
Opens {T} asks index old new =
    (mid : T) × Replies asks (read_public_bytes index) (IsUsableIndex index) old mid × Replies asks (read_bytes index) IsContent mid new

-- the TPM said that there is no such index, or none in which a root record can stand, or it failed to say so, or to say what the index holds
abbrev pub OpensNot : {T : Type 0} → (T → List ℕ → Option (List ℕ) → T → Type 0) → ℕ → T → T → CellRefusal → Type 0
OpensNot asks index old new (Io _) = ⊥
OpensNot asks index old new NoDevice = ⊥
OpensNot asks index old new (Absent told) = (told ≡ index) × Replies asks (read_public_bytes index) IsAbsent old new
OpensNot asks index old new (Unusable fault) =
    Replies asks (read_public_bytes index) (λ reply. (area : Area) × Describes index area reply × IsFault area.attributes area.size fault) old new
OpensNot {T} asks index old new (Failed fault) =
    FailsAs asks (read_public_bytes index) (IsPublic index) old new fault
    ⊎ ((mid : T) × Replies asks (read_public_bytes index) (IsUsableIndex index) old mid × FailsAs asks (read_bytes index) IsContent mid new fault)
