use Rattle.std.specs.Prelude.{◌≡◌, ◌*◌, ◌+◌, ◌≤◌, Some}
use Rattle.sdbt_base.specs.Arrays.{Device, Session as OpenSession, mounted}
use Rattle.byte_arrays.specs.Ranges.{blocks_from}
use Rattle.device_course.specs.States.{IsAt}
use Rattle.device_course.specs.Held.{trim_all}
use Rattle.session_calls.specs.Along.{Along, Drawn}
use Rattle.session_calls.specs.Damage.{IsMounted}
use Rattle.volume_desk.specs.Done.{HasTrimmed}
use Rattle.volume_desk.proofs.changing.trim_range.Given as goal

abbrev pub invariant-loop-i : goal.invariant-loop-i
invariant-loop-i g l =
    let P = g.P.Platform in
    record {
      along : (drawn : Drawn) → Along P l.i (40 * l.i) l.fn.platform l.platform drawn drawn l.fn.session l.session;
      trims : P.tells → (device : Device) (array : OpenSession) → IsAt (P.history l.fn.platform).present (Some l.fn.session) (mounted device array)
          → IsAt (P.history l.platform).present (Some l.session) (mounted device (trim_all array (blocks_from l.volume.start l.i)));
      head : P.head l.platform ≡ P.head l.fn.platform;
      gone : P.tells → IsMounted (P.history l.fn.platform).present l.fn.session → HasTrimmed (P.history l.fn.platform).present.readable (P.history l.platform).present.readable l.fn.session l.session l.volume.start l.i;
      quiet : P.faults l.platform ≡ P.faults l.fn.platform;
      fewer : P.tells → IsMounted (P.history l.fn.platform).present l.fn.session → l.fn.session.mapped ≤ l.session.mapped + l.i;
    }
