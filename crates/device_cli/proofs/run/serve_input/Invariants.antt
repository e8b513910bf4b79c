use Rattle.std.proofs.Common.{◌≡◌}
use Rattle.std.specs.Prelude.{IfSome}
use Rattle.device_cli.specs.Desk.{IsReady, HasRoom}
use Rattle.session_calls.specs.Damage.{IsMounted}
use Rattle.sdbt_base.specs.Counts.{counts}
use Rattle.device_cli.specs.World.{world_by}
use Rattle.device_course.specs.States.{IsListed}
use Rattle.device_course.specs.Keys.{KeepsOn}
use Rattle.line_run.proofs.ReadingLaws.{IsReading}
use Rattle.device_cli.proofs.Serving.{HandledBy}
use Rattle.device_cli.proofs.run.serve_input.Given as goal

abbrev pub invariant-loop-left : goal.invariant-loop-left
invariant-loop-left g l =
    let P = g.P.Platform in
    let T = g.T.Tape in
    let I = g.I.Source in
    let O = g.O.Sink in
    let L = g.L.Sink in
    record {
      ready : IsReady l.desk (P.head l.platform);
      room : HasRoom l.desk;
      mounted : P.tells → IfSome l.desk.session (IsMounted (P.history l.platform).present);
      open_yet : I.ends l.input ≡ I.ends l.fn.input;
      keeps : KeepsOn P.tells (T.drawn l.fn.tape) (T.drawn l.tape) (L.written l.fn.ledger) (L.written l.ledger) l.fn.desk.session (P.history l.fn.platform) (P.history l.platform) (Unit {0}) (IsListed l.desk.session (P.history l.platform).present);
      quiet : counts (P.faults l.platform) (T.faults l.tape) (I.faults l.input) (O.faults l.output) (L.faults l.ledger) ≡ counts (P.faults l.fn.platform) (T.faults l.fn.tape) (I.faults l.fn.input) (O.faults l.fn.output) (L.faults l.fn.ledger);
      reading : IsReading (HandledBy P.tells) (world_by P g.T.Tape l.fn.desk.session l.fn.platform l.fn.tape) (world_by P g.T.Tape l.desk.session l.platform l.tape)
          (I.left l.fn.input) (I.left l.input) (O.written l.fn.output) (O.written l.output) l.pending l.left;
    }

abbrev pub decreases-loop-left : goal.decreases-loop-left
decreases-loop-left g l = l.left
