use Rattle.std.proofs.Common.{◌≡◌, Some}
use Rattle.sdbt_base.specs.Counts.{counts}
use Rattle.device_course.specs.States.{around}
use Rattle.device_session.specs.Open.{blocks_of}
use Rattle.volume_table.specs.Tables.{IsTable}
use Rattle.session_calls.specs.Carrying.{Carries}
use Rattle.volume_serving.specs.World.{world}
use Rattle.line_run.proofs.ReadingLaws.{IsReading}
use Rattle.volume_serving.specs.Handled.{Handled}
use Rattle.volume_serving.proofs.serving.serve_input.Given as goal

abbrev pub invariant-loop-left : goal.invariant-loop-left
invariant-loop-left g l =
    let P = g.P.Platform in
    let T = g.T.Tape in
    let I = g.I.Source in
    let O = g.O.Sink in
    let L = g.L.Sink in
    record {
      table : IsTable (blocks_of l.session) l.desk.table;
      carries : Carries P.tells (around P T L l.fn.platform l.fn.tape l.fn.ledger) (around P T L l.platform l.tape l.ledger) l.fn.first (Some l.session) (Unit {0});
      open_yet : I.ends l.input ≡ I.ends l.fn.input;
      quiet : counts (P.faults l.platform) (T.faults l.tape) (I.faults l.input) (O.faults l.output) (L.faults l.ledger) ≡ counts (P.faults l.fn.platform) (T.faults l.fn.tape) (I.faults l.fn.input) (O.faults l.fn.output) (L.faults l.fn.ledger);
      reading : IsReading (Handled P.tells (blocks_of l.fn.first)) (world P T L (Some l.fn.first) l.fn.desk.table l.fn.platform l.fn.tape l.fn.ledger) (world P T L (Some l.session) l.desk.table l.platform l.tape l.ledger)
          (I.left l.fn.input) (I.left l.input) (O.written l.fn.output) (O.written l.output) l.pending l.left;
    }

abbrev pub decreases-loop-left : goal.decreases-loop-left
decreases-loop-left g l = l.left
