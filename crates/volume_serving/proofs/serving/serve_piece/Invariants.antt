use Rattle.std.proofs.Common.{◌≡◌, ℕ, List, ◌++◌, Some, length}
use Rattle.sdbt_base.specs.Counts.{counts}
use Rattle.device_course.specs.States.{around}
use Rattle.device_session.specs.Open.{blocks_of}
use Rattle.line_run.specs.Pending.{IsUnfinished}
use Rattle.line_run.proofs.LineLaws.{IsServing}
use Rattle.volume_table.specs.Tables.{IsTable}
use Rattle.session_calls.specs.Carrying.{Carries}
use Rattle.volume_serving.specs.Handled.{Handled}
use Rattle.volume_serving.specs.World.{world}
use Rattle.volume_serving.proofs.serving.serve_piece.Given as goal

abbrev pub invariant-loop-front : goal.invariant-loop-front
invariant-loop-front g l =
    let P = g.P.Platform in
    let T = g.T.Tape in
    let O = g.O.Sink in
    let L = g.L.Sink in
    record {
      table : IsTable (blocks_of l.session) l.desk.table;
      carries : Carries P.tells (around P T L l.fn.platform l.fn.tape l.fn.ledger) (around P T L l.platform l.tape l.ledger) l.fn.first (Some l.session) (Unit {0});
      quiet : counts (P.faults l.platform) (T.faults l.tape) 0 (O.faults l.output) (L.faults l.ledger) ≡ counts (P.faults l.fn.platform) (T.faults l.fn.tape) 0 (O.faults l.fn.output) (L.faults l.fn.ledger);
      serving : (rest : List ℕ) → IsUnfinished l.fn.pending rest
          → IsServing (Handled P.tells (blocks_of l.fn.first)) (world P T L (Some l.fn.first) l.fn.desk.table l.fn.platform l.fn.tape l.fn.ledger) (world P T L (Some l.session) l.desk.table l.platform l.tape l.ledger)
          (O.written l.fn.output) (O.written l.output) (rest ++ l.fn.piece) l.pending l.rest;
    }

abbrev pub decreases-loop-front : goal.decreases-loop-front
decreases-loop-front g l = length l.rest
