use Rattle.std.proofs.Common.{ℕ, List, Some, Err, ◌++◌, ◌∙◌, refl}
use Rattle.line_run.proofs.LineLaws.{IsServing-start, IsServing-line, IsServing-stop, IsServing-end}
use Rattle.session_calls.proofs.CarryLaws.{carries_going, carries_start, carries_then}
use Rattle.device_session.specs.Open.{blocks_of}
use Rattle.volume_serving.specs.Handled.{Handled}
use Rattle.volume_serving.specs.World.{World, world}
use Rattle.line_run.proofs.BlameLaws.{blamed_then, fell_not}
use Rattle.volume_serving.proofs.HandledLaws.{handled_of, replying}
use Rattle.volume_serving.proofs.serving.serve_piece.Goals as goal

pub loop-front-init : goal.loop-front-init
loop-front-init g c =
    let P = g.P.Platform in
    record {
      table = c.requires.table;
      carries = carries_start _ _ c.args.first c.requires.ready;
      quiet = refl;
      serving = λ rest pending. IsServing-start _ (Handled P.tells (blocks_of c.args.first)) (replying P.tells (blocks_of c.args.first)).handling (world P g.T.Tape g.L.Sink (Some c.args.first) c.args.desk.now.table c.args.platform.now c.args.tape.now c.args.ledger.now)
          (g.O.Sink.written c.args.output.now) c.args.pending.now rest c.args.piece.now (g.met.P.Platform.has_room c.args.platform.now) pending;
    }

pub loop-front-preserved : goal.loop-front-preserved
loop-front-preserved g c =
    let P = g.P.Platform in
    let T = g.T.Tape in
    let L = g.L.Sink in
    let written = g.O.Sink.written in
    let old : World = world P T L (Some c.args.first) c.args.desk.now.table c.args.platform.now c.args.tape.now c.args.ledger.now in
    let mid : World = world P T L (Some c.loop-front.session) c.loop-front.desk.table c.loop-front.platform c.loop-front.tape c.loop-front.ledger in
    let new : World = world P T L (Some c.in-Ok.next) c.answer.new.desk.table c.answer.new.platform c.answer.new.tape c.answer.new.ledger in
    record {
      table = c.in-Ok.ensures.table;
      carries = carries_then _ _ _ _ c.args.first c.loop-front.session _ _ _ tt c.loop-front.invariant.carries (carries_going _ _ _ _ _ _ _ (λ going. refl) c.in-Ok.ensures.carries);
      quiet = c.in-Ok.ensures.blame.quiet ∙ c.loop-front.invariant.quiet;
      serving = λ rest pending.
          let so_far = c.loop-front.invariant.serving rest pending in
          let line : List ℕ = so_far.line ++ c.in-Some.front.now in
          let kept = c.complete-line.ensures.line so_far.line so_far.unfinished.is_pending in
          IsServing-line _ (Handled P.tells (blocks_of c.args.first)) (replying P.tells (blocks_of c.args.first)).handling old mid new (written c.args.output.now) (written c.loop-front.output) (written c.answer.new.output) (rest ++ c.args.piece.now)
          c.loop-front.pending c.clear.new.self c.loop-front.rest.now c.in-Some.front.now c.in-Some.behind.now
          so_far c.in-Some.ensures.found.0 c.in-Some.ensures.found.1 c.clear.ensures (handled_of _ _ _ _ _ _ _ _ _ c.loop-front.invariant.carries.blocks (c.in-Ok.ensures.handled line kept));
    }

pub returns-in-Err-clause-handled : goal.returns-in-Err-clause-handled
returns-in-Err-clause-handled g c rest pending =
    let P = g.P.Platform in
    let T = g.T.Tape in
    let L = g.L.Sink in
    let written = g.O.Sink.written in
    let old : World = world P T L (Some c.args.first) c.args.desk.now.table c.args.platform.now c.args.tape.now c.args.ledger.now in
    let mid : World = world P T L (Some c.loop-front.session) c.loop-front.desk.table c.loop-front.platform c.loop-front.tape c.loop-front.ledger in
    let so_far = c.loop-front.invariant.serving rest pending in
    let line : List ℕ = so_far.line ++ c.in-Some.front.now in
    let kept = c.complete-line.ensures.line so_far.line so_far.unfinished.is_pending in
    IsServing-stop _ (Handled P.tells (blocks_of c.args.first)) (replying P.tells (blocks_of c.args.first)).handling old mid _ (written c.args.output.now) (written c.loop-front.output) (written c.answer.new.output) (rest ++ c.args.piece.now)
    c.loop-front.pending c.loop-front.rest.now c.in-Some.front.now c.in-Some.behind.now c.in-Err.stop
    so_far c.in-Some.ensures.found.0 c.in-Some.ensures.found.1 c.in-Err.ensures.stops (handled_of _ _ _ _ _ _ _ _ _ c.loop-front.invariant.carries.blocks (c.in-Err.ensures.handled line kept))

pub returns-clause-pending : goal.returns-clause-pending
returns-clause-pending g c rest pending =
    let P = g.P.Platform in
    let T = g.T.Tape in
    let L = g.L.Sink in
    let so_far = c.loop-front.invariant.serving rest pending in
    let end = IsServing-end (Handled P.tells (blocks_of c.args.first)) (world P T L (Some c.args.first) c.args.desk.now.table c.args.platform.now c.args.tape.now c.args.ledger.now) (world P T L (Some c.loop-front.session) c.loop-front.desk.table c.loop-front.platform c.loop-front.tape c.loop-front.ledger)
    (g.O.Sink.written c.args.output.now) (g.O.Sink.written c.loop-front.output) (rest ++ c.args.piece.now) c.loop-front.pending c.loop-front.rest.now
    so_far c.in_default.ensures.none in
    rw end.1 (record { is_pending = c.push.ensures so_far.line so_far.unfinished.is_pending; feedless = end.2 })

pub returns-clause-handled : goal.returns-clause-handled
returns-clause-handled g c rest pending =
    let P = g.P.Platform in
    let T = g.T.Tape in
    let L = g.L.Sink in
    let so_far = c.loop-front.invariant.serving rest pending in
    (IsServing-end (Handled P.tells (blocks_of c.args.first)) (world P T L (Some c.args.first) c.args.desk.now.table c.args.platform.now c.args.tape.now c.args.ledger.now) (world P T L (Some c.loop-front.session) c.loop-front.desk.table c.loop-front.platform c.loop-front.tape c.loop-front.ledger)
    (g.O.Sink.written c.args.output.now) (g.O.Sink.written c.loop-front.output) (rest ++ c.args.piece.now) c.loop-front.pending c.loop-front.rest.now
    so_far c.in_default.ensures.none).0

pub answer-requires-clause-ready : goal.answer-requires-clause-ready
answer-requires-clause-ready g c = c.loop-front.invariant.carries.ready

pub returns-in-Err-clause-carries : goal.returns-in-Err-clause-carries
returns-in-Err-clause-carries g c = carries_then _ _ _ _ c.args.first c.loop-front.session _ _ _ tt c.loop-front.invariant.carries c.in-Err.ensures.carries

pub returns-clause-carries : goal.returns-clause-carries
returns-clause-carries g c = carries_going _ _ _ _ _ _ _ (λ going. tt) c.loop-front.invariant.carries

pub returns-in-Err-clause-blame : goal.returns-in-Err-clause-blame
returns-in-Err-clause-blame g c = blamed_then _ _ _ (Err c.in-Err.stop) c.loop-front.invariant.quiet c.in-Err.ensures.blame

pub returns-clause-blame : goal.returns-clause-blame
returns-clause-blame g c = record { fell = fell_not _ _ c.loop-front.invariant.quiet; quiet = c.loop-front.invariant.quiet; cause = tt }
