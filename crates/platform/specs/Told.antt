-- The history that a log tells.
use Rattle.std.specs.Prelude.{ℕ, List, Option}
use Rattle.medium_trace.specs.Trace.{Trace}
use Rattle.platform.specs.declared.store.Moment.{Moment}
use Rattle.platform.specs.History.{History}
use Rattle.platform.specs.Log.{IsLog, image_now, past_images}
use Rattle.platform.specs.Logged.{past_images-whole, past_images-ascend}

-- past and present of a log
abbrev pub history_of : (trace : Trace) (held : Option (List ℕ)) (log : List Moment) → IsLog trace held log → History
history_of trace held log is_log = record {
  past = past_images trace log;
  present = image_now trace held;
  whole = past_images-whole trace held log is_log;
  ascends = past_images-ascend trace held log is_log;
}
