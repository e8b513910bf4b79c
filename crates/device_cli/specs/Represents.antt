-- What a run works on stands for.
use Rattle.std.specs.Prelude.{Option}
use Rattle.sdbt_base.specs.Arrays.{Device, State}
use Rattle.platform.specs.Image.{Image}
use Rattle.page_store.specs.Stands.{Stands}
use Rattle.device_course.specs.States as states
use Rattle.device_cli.specs.World.{World}

-- the image stands for the device of a state
abbrev pub StandsFor : Image → Option Device → Type 0
StandsFor image device = Stands image device

-- the image stands for the state's device, and the session is the state's
abbrev pub Represents : World → State → Type 0
Represents w state = states.Represents w.history.present w.session state

-- the same, and the cell can be served
abbrev pub Stood : World → State → Type 0
Stood w state = states.IsAt w.history.present w.session state
