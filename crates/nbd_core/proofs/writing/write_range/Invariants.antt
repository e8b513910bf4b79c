use Rattle.std.specs.Prelude.{◌≡◌, ◌≤◌, ◌<◌, ◌+◌, ◌-◌, ◌/◌, ◌++◌, ℕ, List, Some, length, take}
use Rattle.sdbt_base.specs.Arrays.{Device, Session as OpenSession, mounted}
use Rattle.byte_arrays.specs.Arrays.{with_bytes}
use Rattle.byte_arrays.specs.Parts.{IsAtPart}
use Rattle.byte_arrays.specs.Ranges.{blocks_from, touched_blocks}
use Rattle.device_course.specs.States.{IsAt}
use Rattle.nbd_terms.specs.Bytes.{array_of, write_all}
use Rattle.nbd_lang.specs.declared.requests.RequestKind.TheVariants.{Write}
use Rattle.session_calls.specs.Along.{Along, drawn_by}
use Rattle.nbd_core.specs.Reads.{reads_at}
use Rattle.nbd_core.specs.Room.{Came, IsShorter}
use Rattle.session_calls.specs.Damage.{IsMounted}
use Rattle.nbd_core.proofs.KeptLaws.{WrittenTo}
use Rattle.nbd_core.proofs.writing.write_range.Given as goal

abbrev pub invariant-loop-done : goal.invariant-loop-done
invariant-loop-done g l = record {
  parts : ℕ;
  at : l.done < l.count → IsAtPart l.at l.done parts;
  along : Along g.P.Platform parts (reads_at Write l.at l.done) l.fn.platform l.platform (drawn_by g.T.Tape l.fn.tape) (drawn_by g.T.Tape l.tape) l.fn.session l.session;
  gone : List ℕ;
  came : Came (g.I.Source.left l.fn.input) (g.I.Source.left l.input) l.fn.intake l.intake.left (IsShorter l.count) (gone ++ l.intake.ahead);
  all : length gone ≡ l.done;
  within : l.done ≤ l.count;
  found : g.P.Platform.tells → IsMounted (g.P.Platform.history l.fn.platform).present l.fn.session
      → WrittenTo (g.P.Platform.history l.fn.platform).present (g.P.Platform.history l.platform).present l.fn.session l.session l.at gone (l.at / 4096) parts;
  head : g.P.Platform.head l.platform ≡ g.P.Platform.head l.fn.platform + parts;
  last : l.done ≡ l.count → length (touched_blocks l.at l.count) ≡ parts;
  wrote : g.P.Platform.tells → (device : Device) (array : OpenSession) → IsAt (g.P.Platform.history l.fn.platform).present (Some l.fn.session) (mounted device array)
      → (all : List ℕ) → length all ≡ l.count → take l.done all ≡ gone
      → IsAt (g.P.Platform.history l.platform).present (Some l.session) (mounted device (write_all array (with_bytes (array_of array) l.at all) (blocks_from (l.at / 4096) parts)));
  platform : g.P.Platform.faults l.platform ≡ g.P.Platform.faults l.fn.platform;
  tape : g.T.Tape.faults l.tape ≡ g.T.Tape.faults l.fn.tape;
  open_yet : g.I.Source.ends l.input ≡ g.I.Source.ends l.fn.input;
  input : g.I.Source.faults l.input ≡ g.I.Source.faults l.fn.input;
}

abbrev pub decreases-loop-done : goal.decreases-loop-done
decreases-loop-done g l = l.count - l.done
