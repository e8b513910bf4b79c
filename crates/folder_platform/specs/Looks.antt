-- Calls that only look, and what they find.
use Rattle.std.specs.Prelude.{◌&&◌, Bool, true, List, [], ◌∷◌}
use Rattle.platform.specs.Image.{Image}
use Rattle.folder_platform.specs.Files.{Files}
use Rattle.folder_platform.specs.Events.{Event, is_look}
use Rattle.folder_platform.specs.Told.{cell_with}

-- no call changes anything
abbrev pub are_looks : List Event → Bool
are_looks [] = true
are_looks (e ∷ earlier) = is_look e.0 && are_looks earlier

-- the image of files that are only looked at: all that they hold, of which nobody knows what a loss of power leaves
abbrev pub looked_at : Files → Image
looked_at files = record { cell = cell_with files.root; recorded = files.handed; readable = files.pages; synced = 0 }
