-- Why a folder and an index of a TPM can't be opened as a platform.
use Rattle.std.specs.Prelude.{⊤}
use Rattle.folder_platform.specs.Refusals.{ShowsCause}
use Rattle.tpm_cell.specs.declared.opening.TpmNotReady.{TpmNotReady}
use Rattle.tpm_cell.specs.declared.opening.TpmNotReady.TheVariants.{Cell, Folder}

-- a refusal of the folder shows its cause, where another has a lock too
abbrev pub ShowsFolderCause : Type 0 → TpmNotReady → Type 0
ShowsFolderCause Locked (Cell refusal) = ⊤
ShowsFolderCause Locked (Folder refusal) = ShowsCause Locked refusal
