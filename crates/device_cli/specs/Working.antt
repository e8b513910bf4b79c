-- What the word `work` serves, says and leaves.
use Rattle.std.specs.Prelude.{◌≡◌, ◌⊎◌, ◌≤◌, ◌+◌, ◌*◌, ℕ, List, [], Option, Some, Ok, Err, flat_map}
use Rattle.sdbt_base.specs.Arrays.{Device, closed}
use Rattle.sdbt_base.specs.Told.{Got, GotPart}
use Rattle.script_lang.specs.Replies.{Reply}
use Rattle.workload.specs.Lines.{line_of}
use Rattle.workload.specs.Scripts.{commands_of}
use Rattle.workload.specs.Summaries.{summary}
use Rattle.device_terms.specs.Served.{IsServedImage}
use Rattle.device_cli.specs.Causes.{HasCalled, IsOf}
use Rattle.device_cli.specs.Drawing.{DrewUntil}
use Rattle.device_cli.specs.Pages.{IfNext}
use Rattle.device_cli.specs.Ran.{Ran, AnswersScript, IsComplete}
use Rattle.line_run.specs.Stops.{Ending, exit_of}
use Rattle.line_run.specs.Puts.{HasPut, damage_line}
use Rattle.device_cli.specs.Represents.{StandsFor}
use Rattle.device_cli.specs.Handed.{Handed}
use Rattle.sdbt_base.specs.Counts.{NoneRose}
use Rattle.device_cli.specs.World.{World}
use Rattle.session_calls.specs.declared.stops.DeviceStop.TheVariants as device
use Rattle.line_run.specs.declared.stop.Stop.TheVariants as stops

-- the script of a seed, with so many generated lines
abbrev pub script_of : ℕ → ℕ → List ℕ
script_of seed count = flat_map line_of (commands_of seed count)

-- what is put where the serving of the script ended so, with these replies: the summary, or the last line of a run that met damage; or, where the output
-- failed, a first part of the one or the other; and nothing where no memory was given for the replies. The script's input never fails, and ends before
-- the limit
abbrev pub Says : ℕ → ℕ → List Reply → Ending → Option (List ℕ) → Option (List ℕ) → Ending → Type 0
Says seed count replies (Ok done) written written_now ending = HasPut (summary seed count replies) ending written written_now
Says seed count replies (Err (stops.Device stop)) written written_now ending =
    ((ending ≡ Err (stops.Device stop)) × Got written (damage_line stop) written_now)
    ⊎ ((ending ≡ Err stops.Sink) × GotPart written (damage_line stop) written_now)
Says seed count replies (Err stops.Sink) written written_now ending = (ending ≡ Err (stops.Device device.Memory)) × (written_now ≡ written)
Says seed count replies (Err stops.Source) written written_now ending = ⊥
Says seed count replies (Err stops.Limit) written written_now ending = ⊥

-- no memory was given for the script, or for its replies: nothing was served, and nothing put
pub record IsIdle (old new : World) (written written_now : Option (List ℕ)) (ending : Ending) : Type 0 where
  pub memory : ending ≡ Err (stops.Device device.Memory)
  pub world : new ≡ old
  pub unput : written_now ≡ written

-- the script was served as a run serves it that puts its replies to an output of its own, in memory; and this was put of it. Where the platform failed before its first line, all of it is left
pub record Worked (tells : Type 0) (seed count : ℕ) (old new : World) (written written_now : Option (List ℕ)) (ending : Ending) : Type 0 where
  pub serving : Ending
  pub left : Option (List ℕ)
  pub told : Option (List ℕ)
  pub ran : Ran tells (left ≡ Some (script_of seed count)) old new damage_line serving (Some (script_of seed count)) left (Some []) told
  pub says : Says seed count ran.handled.replied.replies serving written written_now ending

-- the same by what the program says of a run
pub record ServesWork (tells : Type 0) (seed count : ℕ) (old new : World) (drawn drawn_now : Option (List (List ℕ))) (written written_now : Option (List ℕ)) (ending : Ending) : Type 0 where
  pub serving : Ending
  pub left : Option (List ℕ)
  pub told : Option (List ℕ)
  pub serves : AnswersScript tells old new (exit_of serving) (Some (script_of seed count)) left (Some []) told
  pub drew : DrewUntil drawn serves.lines serves.replies drawn_now
  -- the platform failed at a line that calls it, or before the first one
  pub no_platform : exit_of serving ≡ 5 → (left ≡ Some (script_of seed count)) ⊎ IfNext serves.replies serves.lines (IsOf (HasCalled tells new.history.present))
  pub says : Says seed count serves.replies serving written written_now ending

-- each line of the script had its reply, none that too few pages are free, and what came of these is put
pub record ServesAll (seed count : ℕ) (there : Option Device) (written written_now : Option (List ℕ)) (ending : Ending) : Type 0 where
  pub told : Option (List ℕ)
  pub all : IsComplete (closed there) (script_of seed count) (Some []) told
  pub put : HasPut (summary seed count all.replies) ending written written_now

-- the serving of the script of a seed, with so many generated lines: nothing is taken; it is served as a run serves it that ends so, whose replies are kept in
-- memory, and then this is put of it, with this status; or nothing was done, since no memory was given. 8 comes where the cell can't be served, unless that could not be told or not be said, or no
-- memory was given; and with room for 42 pages a line, and no fault, each line has its reply, unless no memory was given
pub record Working {S R I O L : Type 0} (tells : Type 0) (seed count status : ℕ) (old new : Handed S R I O L) : Type 0 where
  pub untaken : new.input ≡ old.input
  pub ending : Ending
  pub status_is : status ≡ exit_of ending
  pub course : IsIdle old.world new.world old.written new.written ending ⊎ ServesWork tells seed count old.world new.world old.drawn new.drawn old.written new.written ending
  pub bad_root : tells → (IsServedImage old.world.history.present → ⊥) → (status ≡ 8) ⊎ (status ≡ 4) ⊎ (status ≡ 5) ⊎ (status ≡ 11)
  pub complete : tells → (there : Option Device) → StandsFor old.world.history.present there → IsServedImage old.world.history.present
      → old.world.head + 42 * (count + 5) ≤ old.world.capacity → NoneRose old.counts new.counts
      → (status ≡ 11) ⊎ ((status ≡ 0) × ServesAll seed count there old.written new.written ending)
