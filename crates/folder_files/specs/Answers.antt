-- What calls on paths answer.
use Rattle.std.specs.Prelude.{◌≡◌, ◌≢◌, Option, Some, None, Result, Ok, Err}
use Rattle.std.specs.IoError.{error_kind}
use Rattle.std.specs.declared.io.Error.{Error}
use Rattle.std.specs.declared.io.ErrorKind.TheVariants.{NotFound, WouldBlock}
use Rattle.folder_platform.specs.Refusals.{TellsFile}
use Rattle.folder_platform.specs.declared.refusals.FolderFile.{FolderFile}
use Rattle.folder_platform.specs.declared.refusals.OpenRefusal.{OpenRefusal}
use Rattle.folder_platform.specs.declared.refusals.OpenRefusal.TheVariants.{InUse}

-- a missing file is none, and every other failure is handed on
abbrev pub TellsMissing : {T : Type 0} → Result T Error → Result (Option T) Error → Type 0
TellsMissing (Ok value) told = told ≡ Ok (Some value)
TellsMissing (Err error) told = (error_kind error ≡ NotFound → told ≡ Ok None) × (error_kind error ≢ NotFound → told ≡ Err error)

-- what was found is there, what is missing isn't, and every failure is handed on
abbrev pub IsNoneIfMissing : {E F T : Type 0} → Result (Option F) E → Result (Option T) E → Type 0
IsNoneIfMissing (Ok (Some file)) told = told ≢ Ok None
IsNoneIfMissing (Ok None) told = told ≡ Ok None
IsNoneIfMissing (Err error) told = told ≡ Err error

-- there is nothing only where nothing was found: of every failure, and of what was found, something is said
abbrev pub IsNoneOnlyIfNone : {E E' F T : Type 0} → Result (Option F) E → Result (Option T) E' → Type 0
IsNoneOnlyIfNone (Ok (Some file)) told = told ≢ Ok None
IsNoneOnlyIfNone (Ok None) told = told ≡ Ok None
IsNoneOnlyIfNone (Err error) told = told ≢ Ok None

-- a lock that another has is a use by another, and that is said of no other failure
abbrev pub TellsHeld : {T : Type 0} → FolderFile → Result T Error → Result T OpenRefusal → Type 0
TellsHeld file (Ok value) told = told ≡ Ok value
TellsHeld file (Err error) told = (error_kind error ≡ WouldBlock → told ≡ Err InUse)
    × (error_kind error ≢ WouldBlock → TellsFile file (Err error) told)

-- what was opened is kept in the place of what was there before, and a failure is handed on and leaves it
abbrev pub IsPut : {F : Type 0} → Result F Error → Option F → Option F → Result (Unit {0}) Error → Type 0
IsPut (Ok file) was now told = (now ≡ Some file) × (told ≡ Ok tt)
IsPut (Err error) was now told = (now ≡ was) × (told ≡ Err error)

-- what is gone or was never there is removed, and every other failure is handed on
abbrev pub TellsRemoved : Result (Unit {0}) Error → Result (Unit {0}) Error → Type 0
TellsRemoved (Ok done) told = told ≡ Ok tt
TellsRemoved (Err error) told = (error_kind error ≡ NotFound → told ≡ Ok tt) × (error_kind error ≢ NotFound → told ≡ Err error)

-- a file that is there is handed on, and a refusal too
abbrev pub HandsOn : {F : Type 0} → Result (Option F) OpenRefusal → Result F OpenRefusal → Type 0
HandsOn (Ok (Some file)) told = told ≡ Ok file
HandsOn (Ok None) told = Unit {0}
HandsOn (Err refusal) told = told ≡ Err refusal

-- what can't be opened is not synced, and what isn't there need not be
abbrev pub TellsUnsynced : {F : Type 0} → Result (Option F) Error → Result (Unit {0}) Error → Type 0
TellsUnsynced (Ok (Some file)) told = Unit {0}
TellsUnsynced (Ok None) told = told ≡ Ok tt
TellsUnsynced (Err error) told = told ≡ Err error
