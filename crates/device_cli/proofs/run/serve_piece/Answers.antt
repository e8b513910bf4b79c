use Rattle.std.proofs.Common.{ℕ, List, Err, ◌++◌, ◌∙◌, refl}
use Rattle.device_cli.specs.World.{World, world_by}
use Rattle.device_cli.proofs.Serving.{HandledBy, replying}
use Rattle.line_run.proofs.LineLaws.{IsServing-start, IsServing-line, IsServing-stop, IsServing-end}
use Rattle.line_run.proofs.BlameLaws.{blamed_then, fell_not}
use Rattle.device_cli.proofs.CellLaws.{served_at, answered_through}
use Rattle.device_course.proofs.KeysLaws.{on_start, on_done, on_then}
use Rattle.device_cli.proofs.run.serve_piece.Goals as goal

pub loop-front-init : goal.loop-front-init
loop-front-init g c =
    let P = g.P.Platform in
    record {
      ready = c.requires.ready;
      room = c.requires.room;
      mounted = c.requires.mounted;
      keeps = on_start _ _ _ c.args.desk.now.session _ _;
      stands = λ told entry at. (entry, at);
      quiet = refl;
      serving = λ rest pending. IsServing-start _ (HandledBy P.tells) (replying P.tells).handling (world_by P g.T.Tape c.args.desk.now.session c.args.platform.now c.args.tape.now)
          (g.O.Sink.written c.args.output.now) c.args.pending.now rest c.args.piece.now (g.met.P.Platform.has_room c.args.platform.now) pending;
    }

pub loop-front-preserved : goal.loop-front-preserved
loop-front-preserved g c =
    let P = g.P.Platform in
    let written = g.O.Sink.written in
    let old : World = world_by P g.T.Tape c.args.desk.now.session c.args.platform.now c.args.tape.now in
    let mid : World = world_by P g.T.Tape c.loop-front.desk.session c.loop-front.platform c.loop-front.tape in
    let new : World = world_by P g.T.Tape c.answer.new.desk.session c.answer.new.platform c.answer.new.tape in
    record {
      ready = c.in_default-answer.ensures.after.ready;
      room = c.in_default-answer.ensures.after.room;
      mounted = c.in_default-answer.ensures.after.mounted;
      keeps =
          on_done _ _ _ _ _ c.args.desk.now.session _ _ _ _ _ _
          (on_then _ _ _ _ _ _ _ c.args.desk.now.session c.loop-front.desk.session _ _ _ _ _ _ tt c.loop-front.invariant.keeps c.in_default-answer.ensures.keeps c.loop-front.invariant.stands) (λ yes. refl) (λ keys h. h);
      stands = λ told entry at.
          let before = c.loop-front.invariant.stands told entry at in
          answered_through P.tells mid new _ _ _ c.in_default-answer.ensures.handled told before.0 before.1;
      quiet = c.in_default-answer.ensures.blame.quiet ∙ c.loop-front.invariant.quiet;
      serving = λ rest pending.
          let so_far = c.loop-front.invariant.serving rest pending in
          let line : List ℕ = so_far.line ++ c.in-Some.front.now in
          let kept = c.complete-line.ensures.line so_far.line so_far.unfinished.is_pending in
          IsServing-line _ (HandledBy P.tells) (replying P.tells).handling old mid new (written c.args.output.now) (written c.loop-front.output) (written c.answer.new.output) (rest ++ c.args.piece.now)
          c.loop-front.pending c.clear.new.self c.loop-front.rest.now c.in-Some.front.now c.in-Some.behind.now
          so_far c.in-Some.ensures.found.0 c.in-Some.ensures.found.1 c.clear.ensures (c.in_default-answer.ensures.handled line kept);
    }

pub returns-in-Err-clause-handled : goal.returns-in-Err-clause-handled
returns-in-Err-clause-handled g c rest pending =
    let P = g.P.Platform in
    let written = g.O.Sink.written in
    let old : World = world_by P g.T.Tape c.args.desk.now.session c.args.platform.now c.args.tape.now in
    let mid : World = world_by P g.T.Tape c.loop-front.desk.session c.loop-front.platform c.loop-front.tape in
    let new : World = world_by P g.T.Tape c.answer.new.desk.session c.answer.new.platform c.answer.new.tape in
    let so_far = c.loop-front.invariant.serving rest pending in
    let line : List ℕ = so_far.line ++ c.in-Some.front.now in
    let kept = c.complete-line.ensures.line so_far.line so_far.unfinished.is_pending in
    IsServing-stop _ (HandledBy P.tells) (replying P.tells).handling old mid new (written c.args.output.now) (written c.loop-front.output) (written c.answer.new.output) (rest ++ c.args.piece.now)
    c.loop-front.pending c.loop-front.rest.now c.in-Some.front.now c.in-Some.behind.now c.in-Err.stop
    so_far c.in-Some.ensures.found.0 c.in-Some.ensures.found.1 c.in-Err.ensures.after.stops (c.in-Err.ensures.handled line kept)

pub returns-clause-pending : goal.returns-clause-pending
returns-clause-pending g c rest pending =
    let P = g.P.Platform in
    let so_far = c.loop-front.invariant.serving rest pending in
    let end = IsServing-end (HandledBy P.tells) (world_by P g.T.Tape c.args.desk.now.session c.args.platform.now c.args.tape.now) (world_by P g.T.Tape c.loop-front.desk.session c.loop-front.platform c.loop-front.tape)
    (g.O.Sink.written c.args.output.now) (g.O.Sink.written c.loop-front.output) (rest ++ c.args.piece.now) c.loop-front.pending c.loop-front.rest.now
    so_far c.in_default.ensures.none in
    rw end.1 (record { is_pending = c.push.ensures so_far.line so_far.unfinished.is_pending; feedless = end.2 })

pub returns-clause-handled : goal.returns-clause-handled
returns-clause-handled g c rest pending =
    let P = g.P.Platform in
    let so_far = c.loop-front.invariant.serving rest pending in
    (IsServing-end (HandledBy P.tells) (world_by P g.T.Tape c.args.desk.now.session c.args.platform.now c.args.tape.now) (world_by P g.T.Tape c.loop-front.desk.session c.loop-front.platform c.loop-front.tape)
    (g.O.Sink.written c.args.output.now) (g.O.Sink.written c.loop-front.output) (rest ++ c.args.piece.now) c.loop-front.pending c.loop-front.rest.now
    so_far c.in_default.ensures.none).0

pub answer-requires : goal.answer-requires
answer-requires g c = record {
  ready = c.loop-front.invariant.ready;
  room = c.loop-front.invariant.room;
  cell = λ told. served_at _ _ (c.loop-front.invariant.keeps.serves told (c.requires.cell told));
  mounted = c.loop-front.invariant.mounted;
}

pub returns-in-Err-clause-keeps : goal.returns-in-Err-clause-keeps
returns-in-Err-clause-keeps g c = on_then _ _ _ _ _ _ _ c.args.desk.now.session c.loop-front.desk.session _ _ _ _ _ _ tt c.loop-front.invariant.keeps (on_done _ _ _ _ _ c.loop-front.desk.session _ _ _ _ _ _ c.answer.ensures.keeps (λ never. absurd cc) (λ keys h. tt)) c.loop-front.invariant.stands

pub returns-clause-keeps : goal.returns-clause-keeps
returns-clause-keeps g c = on_done _ _ _ _ _ c.args.desk.now.session _ _ _ _ _ _ c.loop-front.invariant.keeps (λ ok. tt) (λ keys h. h)

pub returns-in-Err-clause-blame : goal.returns-in-Err-clause-blame
returns-in-Err-clause-blame g c = blamed_then _ _ _ (Err c.in-Err.stop) c.loop-front.invariant.quiet c.in-Err.ensures.blame

pub returns-clause-blame : goal.returns-clause-blame
returns-clause-blame g c = record { fell = fell_not _ _ c.loop-front.invariant.quiet; quiet = c.loop-front.invariant.quiet; cause = tt }
