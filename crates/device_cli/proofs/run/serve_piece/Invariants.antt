use Rattle.std.proofs.Common.{◌≡◌, ℕ, List, ◌++◌, length}
use Rattle.std.specs.Prelude.{IfSome}
use Rattle.device_cli.specs.Desk.{IsReady, HasRoom}
use Rattle.session_calls.specs.Damage.{IsMounted}
use Rattle.sdbt_base.specs.Counts.{counts}
use Rattle.line_run.specs.Pending.{IsUnfinished}
use Rattle.device_cli.specs.World.{world_by}
use Rattle.sdbt_base.specs.Arrays.{State}
use Rattle.device_course.specs.States.{IsListed, IsAt}
use Rattle.device_course.specs.Keys.{KeepsOn}
use Rattle.device_cli.proofs.Serving.{HandledBy}
use Rattle.line_run.proofs.LineLaws.{IsServing}
use Rattle.device_cli.proofs.run.serve_piece.Given as goal

abbrev pub invariant-loop-front : goal.invariant-loop-front
invariant-loop-front g l =
    let P = g.P.Platform in
    let T = g.T.Tape in
    let O = g.O.Sink in
    let L = g.L.Sink in
    record {
      ready : IsReady l.desk (P.head l.platform);
      room : HasRoom l.desk;
      mounted : P.tells → IfSome l.desk.session (IsMounted (P.history l.platform).present);
      keeps : KeepsOn P.tells (T.drawn l.fn.tape) (T.drawn l.tape) (L.written l.fn.ledger) (L.written l.ledger) l.fn.desk.session (P.history l.fn.platform) (P.history l.platform) (Unit {0}) (IsListed l.desk.session (P.history l.platform).present);
      stands : P.tells → (entry : State) → IsAt (P.history l.fn.platform).present l.fn.desk.session entry → (now : State) × IsAt (P.history l.platform).present l.desk.session now;
      quiet : counts (P.faults l.platform) (T.faults l.tape) 0 (O.faults l.output) (L.faults l.ledger) ≡ counts (P.faults l.fn.platform) (T.faults l.fn.tape) 0 (O.faults l.fn.output) (L.faults l.fn.ledger);
      serving : (rest : List ℕ) → IsUnfinished l.fn.pending rest
          → IsServing (HandledBy P.tells) (world_by P g.T.Tape l.fn.desk.session l.fn.platform l.fn.tape) (world_by P g.T.Tape l.desk.session l.platform l.tape)
          (O.written l.fn.output) (O.written l.output) (rest ++ l.fn.piece) l.pending l.rest;
    }

abbrev pub decreases-loop-front : goal.decreases-loop-front
decreases-loop-front g l = length l.rest
