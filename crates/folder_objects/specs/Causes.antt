-- Why a run over folders could not begin: whether memory was refused.
use Rattle.std.specs.Prelude.{◌≡◌}
use Rattle.std.specs.IoError.{error_kind}
use Rattle.std.specs.declared.io.ErrorKind.TheVariants.{OutOfMemory}
use Rattle.folder_platform.specs.Refusals as folders
use Rattle.tpm_cell.specs.declared.faults.CellRefusal.{CellRefusal}
use Rattle.tpm_cell.specs.declared.faults.CellRefusal.TheVariants as cells
use Rattle.tpm_cell.specs.declared.opening.TpmNotReady.{TpmNotReady}
use Rattle.tpm_cell.specs.declared.opening.TpmNotReady.TheVariants as tpm
use Rattle.folder_objects.specs.declared.not_ready.NotReady.{NotReady}
use Rattle.folder_objects.specs.declared.not_ready.NotReady.TheVariants as not_ready

-- the index was refused for want of memory
abbrev pub IsMemoryOfIndex : CellRefusal → Type 0
IsMemoryOfIndex (cells.Io error) = error_kind error ≡ OutOfMemory
IsMemoryOfIndex _ = ⊥

-- so was what a run needs
abbrev pub IsMemory : NotReady → Type 0
IsMemory (not_ready.Platform refusal) = folders.IsMemory refusal
IsMemory (not_ready.Medium refusal) = folders.IsMemory refusal
IsMemory (not_ready.Index refusal) = IsMemoryOfIndex refusal
IsMemory (not_ready.Keys error) = error_kind error ≡ OutOfMemory

-- why one over an index of a TPM could not begin
abbrev pub not_ready_of : TpmNotReady → NotReady
not_ready_of (tpm.Cell refusal) = not_ready.Index refusal
not_ready_of (tpm.Folder refusal) = not_ready.Medium refusal
