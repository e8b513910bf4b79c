use Rattle.std.specs.Prelude.{◌≡◌, ◌⊎◌, Ok, Some, take, ◌<◌, ◌≤◌, ◌+◌, ◌-◌, ◌%◌, length}
use Rattle.sdbt_base.specs.Arrays.{Device, Session as OpenSession, mounted}
use Rattle.byte_arrays.specs.Arrays.{bytes_at}
use Rattle.device_course.specs.States.{IsAt}
use Rattle.nbd_terms.specs.Bytes.{array_of}
use Rattle.session_calls.specs.Along.{Along, Drawn}
use Rattle.session_calls.specs.Damage.{IsMounted}
use Rattle.nbd_core.specs.Found.{ReadsFound}
use Rattle.nbd_core.specs.Reads.{reads_at}
use Rattle.nbd_lang.specs.declared.requests.RequestKind.TheVariants.{Read}
use Rattle.nbd_core.proofs.reading.read_range.Given as goal

abbrev pub invariant-loop-done : goal.invariant-loop-done
invariant-loop-done g l = record {
  along : (drawn : Drawn) → Along g.P.Platform 0 (reads_at Read l.at l.done) l.fn.platform l.platform drawn drawn l.fn.session l.session;
  reads : g.P.Platform.tells → (device : Device) (array : OpenSession) → IsAt (g.P.Platform.history l.fn.platform).present (Some l.fn.session) (mounted device array)
      → IsAt (g.P.Platform.history l.platform).present (Some l.session) (mounted device array) × (take l.done l.out ≡ bytes_at (array_of array) l.at l.done);
  within : l.done ≤ length l.out;
  found : g.P.Platform.tells → IsMounted (g.P.Platform.history l.fn.platform).present l.fn.session
      → ReadsFound (g.P.Platform.history l.fn.platform).present (g.P.Platform.history l.platform).present l.fn.session l.session l.at (take l.done l.out) (Ok tt);
  front : l.done < length l.out → (l.done ≡ 0) ⊎ ((l.at + l.done) % 4096 ≡ 0);
  quiet : g.P.Platform.faults l.platform ≡ g.P.Platform.faults l.fn.platform;
}

abbrev pub decreases-loop-done : goal.decreases-loop-done
decreases-loop-done g l = length l.out - l.done
