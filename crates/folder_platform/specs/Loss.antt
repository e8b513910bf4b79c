-- What a loss of power may leave of the files.
use Rattle.std.specs.Prelude.{◌≡◌, ◌≢◌, ◌≤◌, ◌++◌, if◌then◌else◌, ℕ, Bool, true, false, List, [], ◌∷◌, Option, Some, None, All, Contains, length, take}
use Rattle.sdbt_base.specs.Bytes.{IsBytes}
use Rattle.sdbt_base.specs.declared.limits.TheConstants.{RECORD}
use Rattle.platform.specs.Image.{Image}
use Rattle.platform.specs.History.{History, image_at, moment}
use Rattle.folder_platform.specs.Files.{Files}
use Rattle.folder_platform.specs.Events.{Event}
use Rattle.folder_platform.specs.Model.{NamedFile, Model, replay, durable, is_synced}
use Rattle.folder_platform.specs.Told.{cell_with, now_of}
use Rattle.folder_platform.specs.Sequences.{AreOpened}
use Rattle.folder_platform.specs.declared.file_call.FileCall.{FileCall}
use Rattle.folder_platform.specs.declared.file_call.FileCall.TheVariants.{RemoveRoot, RenameNew, ReplaceInPlace, ClearInPlace}

-- a file that was synced has its bytes, and one that was not may have any
abbrev pub Leaves : NamedFile → Option (List ℕ) → Type 0
Leaves None left = left ≡ None
Leaves (Some (bytes, true)) left = left ≡ Some bytes
Leaves (Some (bytes, false)) left = (any : List ℕ) × (left ≡ Some any)

-- Pages that are on the disk stay as they are. Later ones may be missing, and of those that are there each may be any page, whatever
-- was handed over there. `root` leads to one of the files to which it may lead on the disk.
pub record MayHold (m : Model) (left : Files) : Type 0 where
  pub synced : durable m ≤ length left.pages
  pub pages : length left.pages ≤ length m.readable
  pub same : take (durable m) left.pages ≡ take (durable m) m.readable
  pub handed : left.handed ≡ take (length left.pages) m.recorded
  pub whole : All (IsBytes RECORD) left.pages
  pub root : (files : List NamedFile) → m.on_disk ≡ Some files → (file : NamedFile) × Contains files file × Leaves file left.root

-- the files are those of an image of which the last pages may be missing, down to the synced ones, and those behind the synced ones may be others
pub record AreLeft (image : Image) (left : Files) : Type 0 where
  pub cell : cell_with left.root ≡ image.cell
  pub synced : image.synced ≤ length left.pages
  pub pages : length left.pages ≤ length image.recorded
  pub same : take image.synced left.pages ≡ take image.synced image.readable
  pub handed : left.handed ≡ take (length left.pages) image.recorded
  pub whole : All (IsBytes RECORD) left.pages

-- the first image of a platform over these files: all that is found, and all of it synced
abbrev pub opened : Files → Image
opened files = record { cell = cell_with files.root; recorded = files.handed; readable = files.pages; synced = length files.pages }

-- the medium's name is on the disk, the cell outlasts a loss of power as it is, and no other record stands beside it
pub record Settled (m : Model) : Type 0 where
  pub named : m.is_named ≡ true
  pub alone : m.on_disk ≡ Some (m.root ∷ [])
  pub synced : is_synced m.root ≡ true
  pub no_new : m.new_root ≡ None

-- a call that changes the cell
abbrev pub changes_cell : FileCall → Bool
changes_cell RemoveRoot = true
changes_cell RenameNew = true
changes_cell ReplaceInPlace = true
changes_cell ClearInPlace = true
changes_cell other = false

-- the image from before the last change of the cell
abbrev pub before_of : Files → List Event → Image
before_of files [] = now_of files []
before_of files (e ∷ earlier) = if changes_cell e.0 then now_of files earlier else before_of files earlier

-- what a loss of power leaves is what the present image says, or, by its cell, what the one from before the last change of the cell says
pub record IsSafe (before now : Image) (m : Model) : Type 0 where
  pub stays : (left : Files) → MayHold m left → cell_with left.root ≡ now.cell → AreLeft now left
  pub falls : (left : Files) → MayHold m left → cell_with left.root ≢ now.cell → AreLeft before left

-- the same after each call since the files were opened, and so in the middle of each call of a platform too
abbrev pub AllSafe : Files → List Event → Type 0
AllSafe files events =
    (later earlier : List Event) → events ≡ later ++ earlier → AreOpened earlier → IsSafe (before_of files earlier) (now_of files earlier) (replay files earlier)

-- the files are those that the image of one of the moments from an old one on leaves, since when no page was handed over: these are all
pub record IsLeftAt (old new : History) (recorded : List (List ℕ)) (left : Files) : Type 0 where
  pub at : ℕ
  pub from : moment old ≤ at
  pub to : at ≤ moment new
  pub are : AreLeft (image_at new at) left
  pub all : (image_at new at).recorded ≡ recorded
