-- What a run over files finds that a loss of power left.
use Rattle.std.specs.Prelude.{◌≡◌, ◌≢◌, ◌++◌, List, Option}
use Rattle.sdbt_base.specs.Arrays.{Device}
use Rattle.platform.specs.Image.{Image}
use Rattle.page_store.specs.Stands.{Stands}
use Rattle.folder_platform.specs.Files.{Files}
use Rattle.folder_platform.specs.Events.{Event}
use Rattle.folder_platform.specs.Model.{replay}
use Rattle.folder_platform.specs.Told.{cell_with, now_of}
use Rattle.folder_platform.specs.Sequences.{AreOpened}
use Rattle.folder_platform.specs.Loss.{MayHold, before_of, opened}

-- what is opened stands for the device that the image stands for
abbrev pub StandsAgain : Image → Files → Type 0
StandsAgain image left = (device : Option Device) → Stands image device → Stands (opened left) device

-- by the cell that is found it is the device of the present image, or that of the one from before the last change of the cell
pub record GoesOn (before now : Image) (left : Files) : Type 0 where
  pub stays : cell_with left.root ≡ now.cell → StandsAgain now left
  pub falls : cell_with left.root ≢ now.cell → StandsAgain before left

-- after each call since the files were opened
abbrev pub GoesOnAnywhere : Files → List Event → Type 0
GoesOnAnywhere files events =
    (later earlier : List Event) → events ≡ later ++ earlier → AreOpened earlier → (left : Files) → MayHold (replay files earlier) left
    → GoesOn (before_of files earlier) (now_of files earlier) left
