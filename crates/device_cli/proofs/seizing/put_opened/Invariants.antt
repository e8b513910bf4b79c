use Rattle.std.proofs.Common.{◌≡◌, take}
use Rattle.std.specs.Prelude.{flat_map}
use Rattle.sdbt_base.specs.Told.{Got}
use Rattle.device_cli.specs.Seizing.{opened_line}
use Rattle.device_cli.proofs.seizing.put_opened.Given as goal

abbrev pub invariant-loop-item : goal.invariant-loop-item
invariant-loop-item g l = record {
  put : Got (g.O.Sink.written l.fn.output) (flat_map opened_line (take l.item-index l.opened)) (g.O.Sink.written l.output);
  quiet : g.O.Sink.faults l.output ≡ g.O.Sink.faults l.fn.output;
}
