-- Calls for blocks, one after another.
use Rattle.std.proofs.Common.{◌≡◌, ◌≤◌, ◌+◌, ◌∙◌, ℕ, None, Result, Ok, Err, ap, refl, subst, arith}
use Rattle.std.specs.Prelude.{IfErr, OnOk}
use Rattle.platform.specs.declared.platforms.Platform.{Ghosts as PlatformGhosts}
use Rattle.device_session.specs.Open.{IsOpen}
use Rattle.device_session.specs.Sessions.{Session}
use Rattle.session_calls.specs.Along.{Along, Drawn}
use Rattle.sdbt_base.specs.Counts.{Counts, counts}
use Rattle.session_calls.specs.Blame.{HasCause}
use Rattle.session_calls.specs.Goes.{Goes}
use Rattle.session_calls.specs.declared.stops.DeviceStop.{DeviceStop}
use Rattle.session_calls.proofs.AlongLaws.{along_start, along_then}
use Rattle.session_calls.specs.Calling.{Calls}

-- what is said of some updates, and of some pages read, holds of more
pub along_more : {S : Type 0} (P : PlatformGhosts S) (some more few most : ℕ) (platform platform_now : S) (drawn drawn_now : Drawn) (session now : Session) → some ≤ more → few ≤ most
    → Along P some few platform platform_now drawn drawn_now session now → Along P more most platform platform_now drawn drawn_now session now
along_more P some more few most platform platform_now drawn drawn_now session now le below a = record {
  is_open = a.is_open;
  mounted = a.mounted;
  blocks = a.blocks;
  forgets = a.forgets;
  cell = a.cell;
  capacity = a.capacity;
  rises = a.rises;
  adds = omega (arith, a.adds, le);
  needs = omega (arith, a.needs, le);
  reads = λ told. omega (arith, a.reads told, below);
  changes = a.changes;
  keeps = a.keeps;
  through = a.through;
  fell = a.fell;
}

-- one call
pub calls_of : {S X : Type 0} (P : PlatformGhosts S) (updates most : ℕ) (platform platform_now : S) (drawn drawn_now : Drawn) (session now : Session) (result : Result X DeviceStop) → Goes P updates most platform platform_now drawn drawn_now session now result → Calls P updates most platform platform_now drawn drawn_now session now result
calls_of P updates most platform platform_now drawn drawn_now session now result goes = record {
  along = goes.along;
  stops = goes.stops;
  quiet = goes.quiet;
  cause = goes.cause;
}

-- a stop, where more updates and reads could have been
pub calls_stopped : {S X Y : Type 0} (P : PlatformGhosts S) (some more few most : ℕ) (platform platform_now : S) (drawn drawn_now : Drawn) (session now : Session) (stop : DeviceStop) → some ≤ more → few ≤ most
    → Calls {X = X} P some few platform platform_now drawn drawn_now session now (Err stop) → Calls {X = Y} P more most platform platform_now drawn drawn_now session now (Err stop)
calls_stopped P some more few most platform platform_now drawn drawn_now session now stop le below calls = record {
  along = along_more P some more few most platform platform_now drawn drawn_now session now le below calls.along;
  stops = calls.stops;
  quiet = tt;
  cause = calls.cause;
}

-- one part after another, where no count rose in the first
pub calls_then : {S X : Type 0} (P : PlatformGhosts S) (some more few others : ℕ) (first second third : S) (drawn mid drawn_now : Drawn) (session between now : Session) (result : Result X DeviceStop)
    → Along P some few first second drawn mid session between → P.faults second ≡ P.faults first → mid.faults ≡ drawn.faults → Calls P more others second third mid drawn_now between now result → Calls P (some + more) (few + others) first third drawn drawn_now session now result
calls_then P some more few others first second third drawn mid drawn_now session between now result one platform tape two =
    let same : counts (P.faults second) mid.faults 0 0 0 ≡ counts (P.faults first) drawn.faults 0 0 0 = ap (λ (p : ℕ). counts p mid.faults 0 0 0) platform ∙ ap (λ (t : ℕ). counts (P.faults first) t 0 0 0) tape in
    record {
      along = along_then P some more few others first second third drawn mid drawn_now session between now one two.along;
      stops = two.stops;
      quiet = subst (λ (c : Counts). OnOk result (counts (P.faults third) drawn_now.faults 0 0 0 ≡ c)) same two.quiet;
      cause = subst (λ (c : Counts). IfErr result (HasCause c (counts (P.faults third) drawn_now.faults 0 0 0))) same two.cause;
    }

-- no call
pub calls_none : {S X : Type 0} (P : PlatformGhosts S) (updates most : ℕ) (platform : S) (drawn : Drawn) (session : Session) (x : X) → IsOpen session (P.head platform) → Calls P updates most platform platform drawn drawn session session (Ok x)
calls_none P updates most platform drawn session x there_open =
    record { along = along_more P 0 updates 0 most platform platform drawn drawn session session (omega arith) (omega arith) (along_start P platform drawn session there_open); stops = tt; quiet = refl; cause = tt }

-- that were done, whatever is answered
pub calls_done : {S X Y : Type 0} (P : PlatformGhosts S) (some more few most : ℕ) (platform platform_now : S) (drawn drawn_now : Drawn) (session now : Session) (x : X) (y : Y) → some ≤ more → few ≤ most
    → Calls P some few platform platform_now drawn drawn_now session now (Ok x) → Calls P more most platform platform_now drawn drawn_now session now (Ok y)
calls_done P some more few most platform platform_now drawn drawn_now session now x y le below calls =
    record { along = along_more P some more few most platform platform_now drawn drawn_now session now le below calls.along; stops = tt; quiet = calls.quiet; cause = tt }

-- so does what calls did
pub calls_more : {S X : Type 0} (P : PlatformGhosts S) (some more few most : ℕ) (platform platform_now : S) (drawn drawn_now : Drawn) (session now : Session) (result : Result X DeviceStop) → some ≤ more → few ≤ most
    → Calls P some few platform platform_now drawn drawn_now session now result → Calls P more most platform platform_now drawn drawn_now session now result
calls_more P some more few most platform platform_now drawn drawn_now session now result le below calls =
    record { along = along_more P some more few most platform platform_now drawn drawn_now session now le below calls.along; stops = calls.stops; quiet = calls.quiet; cause = calls.cause }

-- no count rose where a call was done
pub platform_quiet : (before now : Counts) → now ≡ before → now.platform ≡ before.platform
platform_quiet before now same = ap (λ (c : Counts). c.platform) same

pub tape_quiet : (before now : Counts) → now ≡ before → now.tape ≡ before.tape
tape_quiet before now same = ap (λ (c : Counts). c.tape) same

-- nothing that a call draws
abbrev pub no_draw : Drawn
no_draw = record { keys = None; faults = 0 }

-- with so many faults of a tape
abbrev pub draws_none : ℕ → Drawn
draws_none faults = record { keys = None; faults = faults }
