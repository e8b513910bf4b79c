-- The calls on the files of a device in folders, each with its answer.
use Rattle.std.specs.Prelude.{◌&&◌, ◌||◌, ℕ, Bool, true, false, List, [], ◌∷◌, Option, Some, None}
use Rattle.folder_platform.specs.declared.file_call.FileCall.{FileCall}
use Rattle.folder_platform.specs.declared.file_call.FileCall.TheVariants.{CountPages, ReadPage, WritePage, SyncMedia, SyncFolder, ReadRoot, SyncRoot, RemoveRoot, RemoveNew, MakeNew, SyncNew, RenameNew, SyncCell, ReplaceInPlace, ClearInPlace}

-- Which call it was, an address or a number, whether it was done, and bytes.
abbrev pub Event : Type 0
Event = FileCall × ℕ × Bool × List ℕ

-- `media` was filled up to whole pages, and has so many
abbrev pub pages_counted : ℕ → Event
pages_counted n = (CountPages, n, true, [])

-- the pages of `media` were to be counted, and that failed
abbrev pub pages_uncounted : Event
pages_uncounted = (CountPages, 0, false, [])

-- the page at this address was read, and is this one; where that failed the bytes say nothing
abbrev pub page_read : ℕ → Bool → List ℕ → Event
page_read addr done page = (ReadPage, addr, done, page)

-- this page was written at this address; where that failed any part of it may be there
abbrev pub page_written : ℕ → Bool → List ℕ → Event
page_written addr done page = (WritePage, addr, done, page)

-- `media` was synced, or that failed
abbrev pub media_synced : Bool → Event
media_synced done = (SyncMedia, 0, done, [])

-- the folder of `media` was synced, or that failed
abbrev pub folder_synced : Bool → Event
folder_synced done = (SyncFolder, 0, done, [])

-- `root` was looked for: it isn't there, or begins with these bytes
abbrev pub root_read : Option (List ℕ) → Event
root_read None = (ReadRoot, 0, true, [])
root_read (Some bytes) = (ReadRoot, 1, true, bytes)

-- `root` was looked for, and that failed
abbrev pub root_unread : Event
root_unread = (ReadRoot, 0, false, [])

-- `root` was synced or isn't there, or that failed
abbrev pub root_synced : Bool → Event
root_synced done = (SyncRoot, 0, done, [])

-- `root` was removed or wasn't there, or that failed
abbrev pub root_removed : Bool → Event
root_removed done = (RemoveRoot, 0, done, [])

-- `root.new` was removed or wasn't there, or that failed
abbrev pub new_removed : Bool → Event
new_removed done = (RemoveNew, 0, done, [])

-- `root.new` was made with these bytes, or that failed
abbrev pub new_made : Bool → List ℕ → Event
new_made done bytes = (MakeNew, 0, done, bytes)

-- `root.new` was synced, or that failed
abbrev pub new_synced : Bool → Event
new_synced done = (SyncNew, 0, done, [])

-- `root.new` was renamed to `root`, or that failed
abbrev pub new_renamed : Bool → Event
new_renamed done = (RenameNew, 0, done, [])

-- the folder of `root` was synced, or that failed
abbrev pub cell_synced : Bool → Event
cell_synced done = (SyncCell, 0, done, [])

-- what a cell in place holds was replaced by these bytes, or that failed
abbrev pub replaced_in_place : Bool → List ℕ → Event
replaced_in_place done bytes = (ReplaceInPlace, 0, done, bytes)

-- a cell in place was cleared, or that failed
abbrev pub cleared_in_place : Bool → Event
cleared_in_place done = (ClearInPlace, 0, done, [])

-- a call that changes nothing
abbrev pub is_look : FileCall → Bool
is_look CountPages = true
is_look ReadPage = true
is_look ReadRoot = true
is_look other = false

-- no call failed that changes something
abbrev pub all_done : List Event → Bool
all_done [] = true
all_done (e ∷ earlier) = (is_look e.0 || e.2) && all_done earlier
