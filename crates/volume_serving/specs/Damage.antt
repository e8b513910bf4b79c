-- Damage at which a run stops.
use Rattle.platform.specs.Image.{Image}
use Rattle.line_run.specs.declared.stop.Stop.{Stop}
use Rattle.line_run.specs.declared.stop.Stop.TheVariants as stops
use Rattle.session_calls.specs.Damage.{MeetsDamage}

-- a stop at a record that doesn't fit names one, on any pages; at the root record in the cell a run does not stop between lines
abbrev pub TellsDamage : Image → Stop → Type 0
TellsDamage image (stops.Device stop) = MeetsDamage image stop
TellsDamage image stops.Source = Unit {0}
TellsDamage image stops.Sink = Unit {0}
TellsDamage image stops.Limit = Unit {0}
