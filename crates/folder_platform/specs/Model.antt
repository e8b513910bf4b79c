-- The model of a file system: what files are after some calls on them.
use Rattle.std.specs.Prelude.{ℕ, min, Bool, true, false, if◌then◌else◌, List, [], ◌∷◌, Option, Some, None, length, option_map}
use Rattle.folder_platform.specs.Files.{Files, zero_page, fitted, placed}
use Rattle.folder_platform.specs.Events.{Event}
use Rattle.folder_platform.specs.declared.file_call.FileCall.{FileCall}
use Rattle.folder_platform.specs.declared.file_call.FileCall.TheVariants.{CountPages, ReadPage, WritePage, SyncMedia, SyncFolder, ReadRoot, SyncRoot, RemoveRoot, RemoveNew, MakeNew, SyncNew, RenameNew, SyncCell, ReplaceInPlace, ClearInPlace}

-- what a name leads to: no file, or one by its bytes, and whether these were synced
abbrev pub NamedFile : Type 0
NamedFile = Option (List ℕ × Bool)

-- its bytes, if it is there
abbrev pub bytes_of : NamedFile → Option (List ℕ)
bytes_of None = None
bytes_of (Some file) = Some file.0

-- whether a loss of power leaves it as it is
abbrev pub is_synced : NamedFile → Bool
is_synced None = true
is_synced (Some file) = file.1

-- the same, synced
abbrev pub file_synced : NamedFile → NamedFile
file_synced None = None
file_synced (Some file) = Some (file.0, true)

pub record Model : Type 0 where
  pub recorded : List (List ℕ)  -- each page that was written, by its address
  pub readable : List (List ℕ)  -- what a read gives of each
  pub synced : ℕ  -- so many of these, from the first on, are on the disk
  pub is_believed : Bool  -- whether no sync of `media` failed: after one that did, a later one shows nothing
  pub is_named : Bool  -- whether the name `media` is on the disk
  pub root : NamedFile  -- what `root` leads to
  pub new_root : NamedFile  -- what `root.new` leads to
  pub on_disk : Option (List NamedFile)  -- on the disk `root` leads to one of these; where there is no list, to any file

-- so many pages a loss of power leaves as they are
abbrev pub durable : Model → ℕ
durable m = if m.is_named then m.synced else 0

-- of a file that is found it isn't known whether it was synced
abbrev pub found : Option (List ℕ) → NamedFile
found None = None
found (Some bytes) = Some (bytes, false)

-- files as they are found: nothing is known of the disk
abbrev pub begun : Files → Model
begun files = record { recorded = files.handed; readable = files.pages; synced = 0; is_believed = true; is_named = false; root = found files.root; new_root = found files.new_root; on_disk = None }

-- A cell in place holds what was put there, on the disk too. Where that failed it may hold, whole, this or what it held before.
abbrev pub put_in_place : NamedFile → Bool → Model → Model
put_in_place file done m = record m { root = file; on_disk = if done then Some (file ∷ []) else option_map (λ files. file ∷ files) m.on_disk }

-- What a call does. A write that fails leaves a page of which nothing is known. A file that is made, a rename and a removal count
-- as done where they fail too: the file may have any bytes then, and on the disk the name may lead to what it led to before.
abbrev pub after_call : FileCall → ℕ → Bool → List ℕ → Model → Model
after_call CountPages n done bytes m = if done then record m { recorded = fitted n m.recorded; readable = fitted n m.readable } else m
after_call ReadPage addr done page m = m
after_call WritePage addr done page m =
    record m { recorded = placed m.recorded addr page; readable = placed m.readable addr (if done then page else zero_page); synced = min m.synced addr }
after_call SyncMedia n done bytes m =
    if done then record m { synced = if m.is_believed then length m.recorded else m.synced } else record m { is_believed = false }
after_call SyncFolder n done bytes m = if done then record m { is_named = true } else m
after_call ReadRoot n done bytes m = m
after_call SyncRoot n done bytes m = if done then record m { root = file_synced m.root } else m
after_call RemoveRoot n done bytes m = record m { root = None; on_disk = option_map (λ files. None ∷ files) m.on_disk }
after_call RemoveNew n done bytes m = if done then record m { new_root = None } else m
after_call MakeNew n done bytes m = record m { new_root = Some (bytes, false) }
after_call SyncNew n done bytes m = if done then record m { new_root = file_synced m.new_root } else m
after_call RenameNew n done bytes m =
    record m { root = m.new_root; new_root = if done then None else m.new_root; on_disk = option_map (λ files. m.new_root ∷ files) m.on_disk }
after_call SyncCell n done bytes m = if done then record m { on_disk = Some (m.root ∷ []) } else m
after_call ReplaceInPlace n done bytes m = put_in_place (Some (bytes, true)) done m
after_call ClearInPlace n done bytes m = put_in_place None done m

-- what files that held this are after these calls, of which the newest comes first
abbrev pub replay : Files → List Event → Model
replay files [] = begun files
replay files (e ∷ earlier) = after_call e.0 e.1 e.2 e.3 (replay files earlier)
