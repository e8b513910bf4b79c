-- Calls for blocks, one after another, and what they stopped at.
use Rattle.std.specs.Prelude.{◌≡◌, ℕ, Result, IfErr, OnOk}
use Rattle.sdbt_base.specs.Counts.{counts}
use Rattle.platform.specs.declared.platforms.Platform.{Ghosts as PlatformGhosts}
use Rattle.device_session.specs.Sessions.{Session}
use Rattle.session_calls.specs.Along.{Along, Drawn}
use Rattle.session_calls.specs.Blame.{HasCause, IsOfCall}
use Rattle.session_calls.specs.declared.stops.DeviceStop.{DeviceStop}

-- calls for blocks, with so many updates and pages read at most: the session goes on, whatever they answered; the counts are as they were where they were done, and where they stopped at a fault that of this object
-- rose alone
pub record Calls {S X : Type 0} (P : PlatformGhosts S) (updates most : ℕ) (platform platform_now : S) (drawn drawn_now : Drawn) (session now : Session) (result : Result X DeviceStop) : Type 0 where
  pub along : Along P updates most platform platform_now drawn drawn_now session now
  pub stops : IfErr result IsOfCall
  pub quiet : OnOk result (counts (P.faults platform_now) drawn_now.faults 0 0 0 ≡ counts (P.faults platform) drawn.faults 0 0 0)
  pub cause : IfErr result (HasCause (counts (P.faults platform) drawn.faults 0 0 0) (counts (P.faults platform_now) drawn_now.faults 0 0 0))
