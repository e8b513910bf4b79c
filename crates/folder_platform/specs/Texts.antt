-- What is printed of a file that is found, and of a refusal to open folders.
use Rattle.std.specs.Prelude.{ℕ, List, ◌++◌, Option, Some, None, codes}
use Rattle.std.specs.Fmt.{decimal}
use Rattle.folder_platform.specs.declared.found.Found.{Found}
use Rattle.folder_platform.specs.declared.found.FileKind.{FileKind}
use Rattle.folder_platform.specs.declared.found.FileKind.TheVariants as kinds
use Rattle.folder_platform.specs.declared.refusals.OpenRefusal.{OpenRefusal}
use Rattle.folder_platform.specs.declared.refusals.OpenRefusal.TheVariants.{TooLong, InUse, Io, NotOwn, Exchanged, Memory}

-- the text of what has a kind, and so many names
abbrev pub kind_text : FileKind → ℕ → List ℕ
kind_text kinds.Regular names = codes "a file with " ++ (decimal names ++ codes " names")
kind_text kinds.Link _ = codes "a link"
kind_text kinds.Folder _ = codes "a folder"
kind_text kinds.Fifo _ = codes "a FIFO"
kind_text kinds.Socket _ = codes "a socket"
kind_text kinds.Device _ = codes "a device"
kind_text kinds.Other _ = codes "no file"

-- the text of what is found
abbrev pub found_text : Found → List ℕ
found_text found = kind_text found.kind found.names

-- the text of a refusal; nothing is said of that of an error of the system
abbrev pub open_text : OpenRefusal → Option (List ℕ)
open_text (TooLong len) = Some (codes "a medium of " ++ (decimal len ++ codes " bytes has more than 2^32 pages"))
open_text InUse = Some (codes "in use by another program")
open_text (Io _ _) = None
open_text (NotOwn _ found) = Some (found_text found ++ codes ", and not a file of its own")
open_text (Exchanged _ _ _) = Some (codes "exchanged while it was opened")
open_text Memory = Some (codes "out of memory")
