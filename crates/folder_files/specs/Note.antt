-- An event from what is noted of a call.
use Rattle.std.specs.Prelude.{ℕ, true, List, [], ◌∷◌}
use Rattle.folder_platform.specs.Events.{Event}
use Rattle.folder_platform.specs.declared.file_call.FileCall.TheVariants.{CountPages}
use Rattle.folder_files.specs.declared.record.Noted.{Noted}

-- that of the one call, with these bytes
abbrev pub event_of : List Noted → List ℕ → Event
event_of [] bytes = (CountPages, 0, true, bytes)
event_of (noted ∷ more) bytes = (noted.call, noted.number, noted.is_done, bytes)
