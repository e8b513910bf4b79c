-- Why folders can't be a platform.
use Rattle.std.specs.Prelude.{◌≡◌, ◌≢◌, ◌<◌, ◌*◌, ◌-◌, ◌^◌, ℕ, min, false, List, [], ◌∷◌, ⊤, Result, Ok, Err}
use Rattle.std.specs.IoError.{error_kind}
use Rattle.std.specs.declared.io.Error.{Error}
use Rattle.std.specs.declared.io.ErrorKind.TheVariants.{OutOfMemory}
use Rattle.sdbt_base.specs.declared.limits.TheConstants.{RECORD, MAX_PAGES}
use Rattle.folder_platform.specs.Events.{Event}
use Rattle.folder_platform.specs.declared.file_call.FileCall.{FileCall}
use Rattle.folder_platform.specs.declared.file_call.FileCall.TheVariants.{SyncFolder, SyncRoot, RemoveNew, SyncCell}
use Rattle.folder_platform.specs.declared.found.Found.{Found}
use Rattle.folder_platform.specs.declared.found.FileKind.TheVariants.{Regular}
use Rattle.folder_platform.specs.declared.refusals.FolderFile.{FolderFile}
use Rattle.folder_platform.specs.declared.refusals.FolderFile.TheVariants as opened
use Rattle.folder_platform.specs.declared.refusals.OpenRefusal.{OpenRefusal}
use Rattle.folder_platform.specs.declared.refusals.OpenRefusal.TheVariants.{TooLong, InUse, Io, NotOwn, Exchanged, Memory}

-- a regular file to which no other name leads
abbrev pub IsOwn : Found → Type 0
IsOwn found = (found.kind ≡ Regular) × (found.names ≡ 1)

-- both are one file, by the numbers of the system
abbrev pub IsSame : Found → Found → Type 0
IsSame found other = (found.device ≡ other.device) × (found.number ≡ other.number)

-- no memory was given
abbrev pub IsMemory : OpenRefusal → Type 0
IsMemory refusal = refusal ≡ Memory

-- a refusal shows its cause where one can be known: a length beyond that of all pages, a lock that another has, an error that is none of memory, something
-- that is no file of its own, or another file than the one that was looked at
abbrev pub ShowsCause : Type 0 → OpenRefusal → Type 0
ShowsCause Locked (TooLong len) = MAX_PAGES * RECORD < len
ShowsCause Locked InUse = Locked
ShowsCause Locked (Io _ error) = error_kind error ≢ OutOfMemory
ShowsCause Locked (NotOwn _ found) = IsOwn found → ⊥
ShowsCause Locked (Exchanged _ looked opened) = IsSame looked opened → ⊥
ShowsCause Locked Memory = ⊤

-- a refusal that says what an error of this file says
abbrev pub IsRefusalOf : FolderFile → Error → OpenRefusal → Type 0
IsRefusalOf file error (TooLong _) = ⊥
IsRefusalOf file error InUse = ⊥
IsRefusalOf file error (Io named told) = (named ≡ file) × (told ≡ error) × (error_kind error ≢ OutOfMemory)
IsRefusalOf file error (NotOwn _ _) = ⊥
IsRefusalOf file error (Exchanged _ _ _) = ⊥
IsRefusalOf file error Memory = error_kind error ≡ OutOfMemory

-- what a call on a file gave, or a refusal that says its error
abbrev pub TellsFile : {T : Type 0} → FolderFile → Result T Error → Result T OpenRefusal → Type 0
TellsFile file (Ok value) told = told ≡ Ok value
TellsFile file (Err error) (Ok value) = ⊥
TellsFile file (Err error) (Err refusal) = IsRefusalOf file error refusal

-- a refusal that names a file names this one
abbrev pub Names : FolderFile → OpenRefusal → Type 0
Names file (TooLong _) = ⊤
Names file InUse = ⊤
Names file (Io named _) = named ≡ file
Names file (NotOwn named _) = named ≡ file
Names file (Exchanged named _ _) = named ≡ file
Names file Memory = ⊤

-- the file on which a call of an opening is made
abbrev pub file_of : FileCall → FolderFile
file_of SyncFolder = opened.Folder
file_of SyncRoot = opened.Root
file_of RemoveNew = opened.NewRoot
file_of SyncCell = opened.Cell
file_of other = opened.Media

-- these are more pages than a medium can have, and this is their length, or the largest number of 64 bits where it is more
abbrev pub AreTooLong : ℕ → ℕ → Type 0
AreTooLong pages len = (MAX_PAGES < pages) × (len ≡ min (pages * RECORD) (2 ^ 64 - 1))

-- a refusal after these calls tells how long the pages are that the newest one counted, or names the file on which it failed
abbrev pub TellsLast : List Event → OpenRefusal → Type 0
TellsLast [] refusal = ⊥
TellsLast (e ∷ earlier) (TooLong len) = AreTooLong e.1 len
TellsLast (e ∷ earlier) other = (e.2 ≡ false) × Names (file_of e.0) other

-- why the pages of `media` are refused that were counted: they are too many, or the count failed
abbrev pub RefusesPages : Result ℕ Error → OpenRefusal → Type 0
RefusesPages (Ok pages) (TooLong len) = AreTooLong pages len
RefusesPages (Ok pages) other = ⊥
RefusesPages (Err error) refusal = IsRefusalOf opened.Media error refusal
