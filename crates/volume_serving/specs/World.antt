-- What a run works on between lines.
use Rattle.std.specs.Prelude.{◌≡◌, ℕ, List, Option, Some}
use Rattle.sdbt_base.specs.declared.sinks.Sink.{Ghosts as SinkGhosts}
use Rattle.sdbt_base.specs.declared.tapes.Tape.{Ghosts as TapeGhosts}
use Rattle.platform.specs.declared.platforms.Platform.{Ghosts as PlatformGhosts}
use Rattle.device_course.specs.States.{Outside, around}
use Rattle.device_session.specs.Sessions.{Session}
use Rattle.device_course.specs.Held.{Held}
use Rattle.volume_table.specs.declared.volume.Volume.{Volume}
use Rattle.volume_desk.specs.Turns.{IsHeld}

-- the session, if one goes on; the table in memory; what there is beside them; and how often all pages were synced, or the root record replaced
pub record World : Type 0 where
  pub session : Option Session
  pub table : List Volume
  pub outside : Outside
  pub changes : ℕ

abbrev pub world : {S R Q : Type 0} → PlatformGhosts S → TapeGhosts R → SinkGhosts Q → Option Session → List Volume → S → R → Q → World
world P T L session table platform tape ledger = record { session = session; table = table; outside = around P T L platform tape ledger; changes = P.changes platform }

-- a session that goes on, and a table, stand for this
pub record IsOn (here : Outside) (after : Option Session) (table : List Volume) (there : Held) : Type 0 where
  pub session : Session
  pub going : after ≡ Some session
  pub held : IsHeld here.history.present here.head session table there
