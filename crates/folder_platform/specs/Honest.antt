-- What an honest file system answers.
use Rattle.std.specs.Prelude.{◌≡◌, ◌==◌, ℕ, Bool, true, if◌then◌else◌, List, [], ◌∷◌, Some, None, length, slice_get}
use Rattle.folder_platform.specs.Files.{Files}
use Rattle.folder_platform.specs.Events.{Event, all_done}
use Rattle.folder_platform.specs.Model.{Model, replay, bytes_of}
use Rattle.folder_platform.specs.declared.file_call.FileCall.{FileCall}
use Rattle.folder_platform.specs.declared.file_call.FileCall.TheVariants.{CountPages, ReadPage, ReadRoot}

-- an answer is what the model says: how many pages there are, what a page reads as, and whether `root` is there and how it begins; of
-- a look that failed, and of all other calls, nothing is asked
abbrev pub Answers : FileCall → ℕ → Bool → List ℕ → Model → Type 0
Answers CountPages n true bytes m = n ≡ length m.readable
Answers ReadPage addr true page m = slice_get m.readable addr ≡ Some page
Answers ReadRoot is_there true bytes m = bytes_of m.root ≡ (if is_there == 0 then None else Some bytes)
Answers other n done bytes m = Unit {0}

-- as long as no call that changes something has failed, each answer is the one that the model gives of files that held this
abbrev pub IsHonest : Files → List Event → Type 0
IsHonest files [] = Unit {0}
IsHonest files (e ∷ earlier) = (all_done earlier ≡ true → Answers e.0 e.1 e.2 e.3 (replay files earlier)) × IsHonest files earlier
