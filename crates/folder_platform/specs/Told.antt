-- The history that a record of calls tells.
use Rattle.std.specs.Prelude.{◌≤◌, ◌+◌, ◌==◌, ℕ, Bool, if◌then◌else◌, List, [], ◌∷◌, ◌++◌, Option, Some, None, length, replicate}
use Rattle.sdbt_base.specs.declared.limits.TheConstants.{ROOT}
use Rattle.platform.specs.Image.{Image, IsWhole, IsEarlier}
use Rattle.platform.specs.History.{History, image_of}
use Rattle.folder_platform.specs.Files.{Files}
use Rattle.folder_platform.specs.Events.{Event}
use Rattle.folder_platform.specs.Model.{NamedFile, Model, replay, durable}
use Rattle.folder_platform.specs.declared.file_call.FileCall.{FileCall}
use Rattle.folder_platform.specs.declared.file_call.FileCall.TheVariants.{CountPages, ReadPage, SyncMedia, ReadRoot, RemoveRoot, RenameNew, ReplaceInPlace, ClearInPlace}

-- a root record's length of zeros, which are none
unfoldable pub zero_root : List ℕ
zero_root = replicate ROOT 0

-- what the cell holds where `root` has these bytes: nothing if they are none, and zeros if they are not as many as a root record's
abbrev pub record_of : List ℕ → Option (List ℕ)
record_of bytes = if length bytes == 0 then None else if length bytes == ROOT then Some bytes else Some zero_root

-- what the cell holds where these are the bytes of `root`, if it is there
abbrev pub cell_with : Option (List ℕ) → Option (List ℕ)
cell_with None = None
cell_with (Some bytes) = record_of bytes

-- what the cell holds where `root` leads to this
abbrev pub cell_of : NamedFile → Option (List ℕ)
cell_of None = None
cell_of (Some file) = record_of file.0

-- what medium and cell hold by the model
abbrev pub shown : Model → Image
shown m = record { cell = cell_of m.root; recorded = m.recorded; readable = m.readable; synced = durable m }

-- the image after these calls
abbrev pub now_of : Files → List Event → Image
now_of files events = shown (replay files events)

-- one image more behind those of the past; a history begins where the pages are counted
abbrev past_after : FileCall → List Image → Image → List Image
past_after CountPages past image = []
past_after other past image = past ++ image ∷ []

-- the images of all moments since the pages were counted but the last: one for each call
abbrev pub past_of : Files → List Event → List Image
past_of files [] = []
past_of files (e ∷ earlier) = past_after e.0 (past_of files earlier) (now_of files earlier)

-- each image is whole, and they only grow
pub record AreOrderly (past : List Image) (present : Image) : Type 0 where
  pub whole : (i : ℕ) → IsWhole (image_of past present i)
  pub ascends : (i j : ℕ) → i ≤ j → IsEarlier (image_of past present i) (image_of past present j)

-- the images of a record are a history
abbrev pub IsTold : Files → List Event → Type 0
IsTold files events = AreOrderly (past_of files events) (now_of files events)

-- this history
abbrev pub told_by : (files : Files) (events : List Event) → IsTold files events → History
told_by files events told = record { past = past_of files events; present = now_of files events; whole = told.whole; ascends = told.ascends }

-- one more where a page was read, or the cell looked at
abbrev reads_after : FileCall → Bool → ℕ → ℕ
reads_after CountPages done reads = 0
reads_after ReadPage done reads = if done then reads + 1 else reads
reads_after ReadRoot done reads = if done then reads + 1 else reads
reads_after other done reads = reads

-- so many reads of pages and looks at the cell were answered
abbrev pub reads_of : List Event → ℕ
reads_of [] = 0
reads_of (e ∷ earlier) = reads_after e.0 e.2 (reads_of earlier)

-- one more where a page was read
abbrev page_reads_after : FileCall → Bool → ℕ → ℕ
page_reads_after CountPages done reads = 0
page_reads_after ReadPage done reads = if done then reads + 1 else reads
page_reads_after other done reads = reads

-- so many reads of pages were answered
abbrev pub page_reads_of : List Event → ℕ
page_reads_of [] = 0
page_reads_of (e ∷ earlier) = page_reads_after e.0 e.2 (page_reads_of earlier)

-- one more where the pages were synced, or that was tried, or the cell was changed, or may have been
abbrev changes_after : FileCall → ℕ → ℕ
changes_after CountPages changes = 0
changes_after SyncMedia changes = changes + 1
changes_after RemoveRoot changes = changes + 1
changes_after RenameNew changes = changes + 1
changes_after ReplaceInPlace changes = changes + 1
changes_after ClearInPlace changes = changes + 1
changes_after other changes = changes

-- so many times the pages were synced, or the cell was replaced or cleared, or that was tried
abbrev pub changes_of : List Event → ℕ
changes_of [] = 0
changes_of (e ∷ earlier) = changes_after e.0 (changes_of earlier)
