-- That answers are honest has at most one proof.
use Rattle.std.specs.Prelude.{ℕ, Bool, true, false, List, [], ◌∷◌}
use Rattle.std.proofs.Props.{props}
use Rattle.std.specs.Coded.{→_prop, ×_prop, Unit-prop}
use Rattle.folder_platform.specs.Files.{Files}
use Rattle.folder_platform.specs.Events.{Event}
use Rattle.folder_platform.specs.Model.{Model, replay}
use Rattle.folder_platform.specs.Honest.{Answers, IsHonest}
use Rattle.folder_platform.specs.declared.file_call.FileCall.{FileCall}
use Rattle.folder_platform.specs.declared.file_call.FileCall.TheVariants.{CountPages, ReadPage, WritePage, SyncMedia, SyncFolder, ReadRoot, SyncRoot, RemoveRoot, RemoveNew, MakeNew, SyncNew, RenameNew, SyncCell, ReplaceInPlace, ClearInPlace}

pub Answers-prop : (call : FileCall) (n : ℕ) (done : Bool) (bytes : List ℕ) (m : Model) → IsProp (Answers call n done bytes m)
Answers-prop CountPages n true bytes m = hlevel props
Answers-prop CountPages n false bytes m = Unit-prop
Answers-prop ReadPage n true bytes m = hlevel props
Answers-prop ReadPage n false bytes m = Unit-prop
Answers-prop WritePage n done bytes m = Unit-prop
Answers-prop SyncMedia n done bytes m = Unit-prop
Answers-prop SyncFolder n done bytes m = Unit-prop
Answers-prop ReadRoot n true bytes m = hlevel props
Answers-prop ReadRoot n false bytes m = Unit-prop
Answers-prop SyncRoot n done bytes m = Unit-prop
Answers-prop RemoveRoot n done bytes m = Unit-prop
Answers-prop RemoveNew n done bytes m = Unit-prop
Answers-prop MakeNew n done bytes m = Unit-prop
Answers-prop SyncNew n done bytes m = Unit-prop
Answers-prop RenameNew n done bytes m = Unit-prop
Answers-prop SyncCell n done bytes m = Unit-prop
Answers-prop ReplaceInPlace n done bytes m = Unit-prop
Answers-prop ClearInPlace n done bytes m = Unit-prop

pub IsHonest-prop : (files : Files) (events : List Event) → IsProp (IsHonest files events)
IsHonest-prop files [] = Unit-prop
IsHonest-prop files (e ∷ earlier) =
    let answers : IsProp (Answers e.0 e.1 e.2 e.3 (replay files earlier)) = Answers-prop e.0 e.1 e.2 e.3 (replay files earlier) in
    ×_prop (→_prop answers) (IsHonest-prop files earlier)
