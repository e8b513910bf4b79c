-- What is printed of a cell in a TPM that failed, and of an index that can't be one.
use Rattle.std.specs.Prelude.{ℕ, List, ◌++◌, ◌==◌, if◌then◌else◌, false, Option, Some, None, codes}
use Rattle.std.specs.Fmt.{decimal, digits}
use Rattle.tpm_nv.specs.declared.attributes.Attribute.{Attribute}
use Rattle.tpm_nv.specs.declared.attributes.Attribute.TheVariants as attributes
use Rattle.tpm_nv.specs.declared.heads.Failure.TheVariants.{Code, Malformed}
use Rattle.tpm_nv.specs.declared.public.Fault.{Fault}
use Rattle.tpm_nv.specs.declared.public.Fault.TheVariants.{Size, Kind, Lacks, Has}
use Rattle.tpm_cell.specs.declared.faults.TpmFault.{TpmFault}
use Rattle.tpm_cell.specs.declared.faults.TpmFault.TheVariants.{Io as FileFailed, Reply, Unkept}
use Rattle.tpm_cell.specs.declared.faults.CellRefusal.{CellRefusal}
use Rattle.tpm_cell.specs.declared.faults.CellRefusal.TheVariants.{Io, NoDevice, Absent, Unusable, Failed}

-- what a code of the TPM means (part 2, TPM_RC): 0x100, 0x101, 0x148, 0x149, and 0x98e or 0x9a2
abbrev pub reason_text : ℕ → Option (List ℕ)
reason_text code = if code == 256 then Some (codes "the TPM is not started up") else (if code == 257 then Some (codes "the TPM is in failure mode")
    else (if code == 328 then Some (codes "the index is locked") else (if code == 329 then Some (codes "the index can't be read by its password")
    else (if code == 2446 then Some (codes "the index has another password than the empty one") else (if code == 2466 then Some (codes "the index has another password than the empty one") else None)))))

-- the text of a reply with such a code, which has a meaning or none
abbrev pub code_text : ℕ → Option (List ℕ) → List ℕ
code_text code (Some reason) = codes "reply 0x" ++ (digits 16 false code ++ (codes ", " ++ reason))
code_text code None = codes "reply 0x" ++ digits 16 false code

-- the text of a fault; nothing is said of that of an error of the system
abbrev pub fault_text : TpmFault → Option (List ℕ)
fault_text (FileFailed _) = None
fault_text (Reply (Code code)) = Some (code_text code (reason_text code))
fault_text (Reply Malformed) = Some (codes "no reply of a TPM")
fault_text Unkept = Some (codes "the index does not hold what was written to it")

-- the word that the tools of tpm2-tools have for an attribute
abbrev pub word_text : Attribute → List ℕ
word_text attributes.AuthWrite = codes "authwrite"
word_text attributes.WriteLocked = codes "writelocked"
word_text attributes.WriteDefine = codes "writedefine"
word_text attributes.WriteStClear = codes "write_stclear"
word_text attributes.GlobalLock = codes "globallock"
word_text attributes.AuthRead = codes "authread"
word_text attributes.Orderly = codes "orderly"
word_text attributes.ClearStClear = codes "clear_stclear"
word_text attributes.ReadLocked = codes "readlocked"
word_text attributes.ReadStClear = codes "read_stclear"

-- the text of what an index lacks, or has
abbrev pub unusable_text : Fault → List ℕ
unusable_text (Size size) = codes "an index of " ++ (decimal size ++ codes " bytes, and not of 128")
unusable_text (Kind kind) = codes "an index of type " ++ (decimal kind ++ codes ", and not an ordinary one")
unusable_text (Lacks attribute) = codes "an index without " ++ word_text attribute
unusable_text (Has attribute) = codes "an index with " ++ word_text attribute

-- the text of a refusal
abbrev pub refusal_text : CellRefusal → Option (List ℕ)
refusal_text (Io _) = None
refusal_text NoDevice = Some (codes "no character device")
refusal_text (Absent handle) = Some (codes "no such index: define it by tpm2_nvdefine 0x" ++ (digits 16 false handle ++ codes " -C o -s 128 -a 'authread|authwrite|no_da'"))
refusal_text (Unusable fault) = Some (unusable_text fault)
refusal_text (Failed fault) = fault_text fault
