use Rattle.std.specs.Prelude.{◌≡◌, ◌≤◌, ◌+◌, ◌-◌, ◌*◌, Some}
use Rattle.sdbt_base.specs.Arrays.{Device, Session as OpenSession, mounted}
use Rattle.byte_arrays.specs.Ranges.{blocks_from}
use Rattle.device_course.specs.States.{IsAt}
use Rattle.device_course.specs.Held.{trim_all}
use Rattle.session_calls.specs.Along.{Along, Drawn}
use Rattle.session_calls.specs.Damage.{IsMounted}
use Rattle.nbd_core.proofs.KeptLaws.{TrimmedTo}
use Rattle.nbd_core.proofs.trimming.trim.Given as goal

abbrev pub invariant-loop-block : goal.invariant-loop-block
invariant-loop-block g l =
    let P = g.P.Platform in
    record {
      along : (drawn : Drawn) → Along P (l.block - l.initial.block) (40 * (l.block - l.initial.block)) l.fn.platform l.platform drawn drawn l.fn.session l.session;
      trims : P.tells → (device : Device) (array : OpenSession) → IsAt (P.history l.fn.platform).present (Some l.fn.session) (mounted device array)
          → IsAt (P.history l.platform).present (Some l.session) (mounted device (trim_all array (blocks_from l.initial.block (l.block - l.initial.block))));
      taken : P.tells → IsMounted (P.history l.fn.platform).present l.fn.session
          → TrimmedTo (P.history l.fn.platform).present (P.history l.platform).present l.fn.session l.session l.initial.block (l.block - l.initial.block);
      counted : P.tells → IsMounted (P.history l.fn.platform).present l.fn.session → l.fn.session.mapped ≤ l.session.mapped + (l.block - l.initial.block);
      few : l.block - l.initial.block ≤ l.block-end - l.initial.block;
      head : P.head l.platform ≡ P.head l.fn.platform;
      quiet : P.faults l.platform ≡ P.faults l.fn.platform;
    }
