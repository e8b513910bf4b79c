use Rattle.std.proofs.Common.{◌≡◌, ℕ, ◌-◌, List, refl, drop, sym, ◌∙◌, subst, arith}
use Rattle.std.proofs.lemmas.Grind.{common_steps}
use Rattle.std.specs.Prelude.{Option}
use Rattle.sdbt_base.specs.Told.{IsAtEnd}
use Rattle.sdbt_base.proofs.ToldLaws.{ends_gave}
use Rattle.text_lines.specs.Lines.{rest_of}
use Rattle.device_cli.specs.World.{World, world_by}
use Rattle.device_cli.proofs.Serving.{HandledBy, replying}
use Rattle.line_run.proofs.ReadingLaws.{IsReading, IsReading-start, IsReading-more, IsReading-stop, IsReading-end, IsReading-failed, IsReading-limit}
use Rattle.std.proofs.Common.{Err}
use Rattle.sdbt_base.specs.Counts.{counts}
use Rattle.line_run.proofs.BlameLaws.{blamed_behind, blamed_take, fell_not}
use Rattle.line_run.proofs.TakeLaws.{none_given, nothing_left, taken_of}
use Rattle.device_cli.proofs.CellLaws.{served_at, handled_through}
use Rattle.device_course.proofs.KeysLaws.{on_start, on_done, on_then}
use Rattle.device_cli.proofs.run.serve_input.Goals as goal

pub loop-left-init : goal.loop-left-init
loop-left-init g c =
    let P = g.P.Platform in
    record {
      ready = c.requires.ready;
      room = c.requires.room;
      mounted = c.requires.mounted;
      open_yet = refl;
      keeps = on_start _ _ _ c.args.desk.now.session _ _;
      quiet = refl;
      reading = IsReading-start _ (HandledBy P.tells) (replying P.tells).handling (world_by P g.T.Tape c.args.desk.now.session c.args.platform.now c.args.tape.now) (g.I.Source.left c.args.input.now)
          (g.O.Sink.written c.args.output.now) c.new-pending.result _ (g.met.P.Platform.has_room c.args.platform.now) c.new-pending.ensures (omega arith);
    }

pub returns-in_default-clause-ran : goal.returns-in_default-clause-ran
returns-in_default-clause-ran g c =
    let P = g.P.Platform in
    let left = g.I.Source.left in
    let written = g.O.Sink.written in
    let old : World = world_by P g.T.Tape c.args.desk.now.session c.args.platform.now c.args.tape.now in
    let mid : World = world_by P g.T.Tape c.loop-left.desk.session c.loop-left.platform c.loop-left.tape in
    let same : left c.take.new.self ≡ left c.loop-left.input = c.in_default.ensures.nothing_taken in
    IsReading-failed (replying P.tells) old mid (left c.args.input.now) (left c.take.new.self) (written c.args.output.now) (written c.loop-left.output) c.loop-left.pending c.loop-left.left
    (subst (λ (l : Option (List ℕ)). IsReading (HandledBy P.tells) old mid (left c.args.input.now) l (written c.args.output.now) (written c.loop-left.output) c.loop-left.pending c.loop-left.left)
    (sym same) c.loop-left.invariant.reading)
    c.loop-left-test.true

pub returns-then-count-eq0-clause-ran : goal.returns-then-count-eq0-clause-ran
returns-then-count-eq0-clause-ran g c =
    let P = g.P.Platform in
    let left = g.I.Source.left in
    let written = g.O.Sink.written in
    let old : World = world_by P g.T.Tape c.args.desk.now.session c.args.platform.now c.args.tape.now in
    let mid : World = world_by P g.T.Tape c.loop-left.desk.session c.loop-left.platform c.loop-left.tape in
    let new : World = world_by P g.T.Tape c.serve_end.new.desk.session c.serve_end.new.platform c.serve_end.new.tape in
    let into : List ℕ = c.take.new.into in
    let same : left c.loop-left.input ≡ left c.take.new.self = none_given (left c.loop-left.input) (left c.take.new.self) into c.in-Ok.count c.if-count-eq0.true c.in-Ok.ensures.taken in
    let reading = subst (λ (l : Option (List ℕ)). IsReading (HandledBy P.tells) old mid (left c.args.input.now) l (written c.args.output.now) (written c.loop-left.output) c.loop-left.pending c.loop-left.left)
    same c.loop-left.invariant.reading in
    let end = subst (λ (l : Option (List ℕ)). IsAtEnd l) same (nothing_left (left c.loop-left.input) c.in-Ok.count c.if-count-eq0.true c.in-Ok.ensures.end) in
    IsReading-end (replying P.tells) old mid new c.serve_end.result (left c.args.input.now) (left c.take.new.self) (written c.args.output.now) (written c.loop-left.output) (written c.serve_end.new.output)
    c.loop-left.pending c.loop-left.left reading c.loop-left-test.true end c.serve_end.ensures.after.stops
    (c.serve_end.ensures.handled (rest_of reading.taken) reading.unfinished)

pub returns-in-Err-clause-ran : goal.returns-in-Err-clause-ran
returns-in-Err-clause-ran g c =
    let P = g.P.Platform in
    let left = g.I.Source.left in
    let written = g.O.Sink.written in
    let old : World = world_by P g.T.Tape c.args.desk.now.session c.args.platform.now c.args.tape.now in
    let mid : World = world_by P g.T.Tape c.loop-left.desk.session c.loop-left.platform c.loop-left.tape in
    let new : World = world_by P g.T.Tape c.serve_piece.new.desk.session c.serve_piece.new.platform c.serve_piece.new.tape in
    let reading = c.loop-left.invariant.reading in
    let took = taken_of c.take.new.into (drop c.min-room.result c.loop-left.piece) c.in-Ok.count c.loop-left.left (left c.loop-left.input) (left c.take.new.self)
    (omega (arith, c.in-Ok.ensures.bound, c.take.auto.into)) (grind (arith, common_steps, c.take.auto.into, c.min-room.ensures)) (grind (arith, common_steps, c.take.auto.into, c.min-room.ensures)) c.in-Ok.ensures.taken in
    IsReading-stop (replying P.tells) old mid new (left c.args.input.now) (left c.loop-left.input) (left c.take.new.self) (written c.args.output.now) (written c.loop-left.output) (written c.serve_piece.new.output)
    c.loop-left.pending c.loop-left.left _ c.in-Err.stop reading took.gave took.short took.few c.in-Err.ensures.after.stops
    (c.in-Err.ensures.handled (rest_of reading.taken) reading.unfinished)

pub loop-left-preserved : goal.loop-left-preserved
loop-left-preserved g c =
    let P = g.P.Platform in
    let left = g.I.Source.left in
    let written = g.O.Sink.written in
    let old : World = world_by P g.T.Tape c.args.desk.now.session c.args.platform.now c.args.tape.now in
    let mid : World = world_by P g.T.Tape c.loop-left.desk.session c.loop-left.platform c.loop-left.tape in
    let new : World = world_by P g.T.Tape c.serve_piece.new.desk.session c.serve_piece.new.platform c.serve_piece.new.tape in
    let reading = c.loop-left.invariant.reading in
    let took = taken_of c.take.new.into (drop c.min-room.result c.loop-left.piece) c.in-Ok.count c.loop-left.left (left c.loop-left.input) (left c.take.new.self)
    (omega (arith, c.in-Ok.ensures.bound, c.take.auto.into)) (grind (arith, common_steps, c.take.auto.into, c.min-room.ensures)) (grind (arith, common_steps, c.take.auto.into, c.min-room.ensures)) c.in-Ok.ensures.taken in
    record {
      ready = c.in-Ok-serve_piece.ensures.after.ready;
      room = c.in-Ok-serve_piece.ensures.after.room;
      mounted = c.in-Ok-serve_piece.ensures.after.mounted;
      open_yet = c.in-Ok.ensures.ended ∙ ends_gave c.in-Ok.count (g.I.Source.ends c.loop-left.input) (omega (arith, c.if-count-eq0.false)) ∙ c.loop-left.invariant.open_yet;
      keeps =
          on_done _ _ _ _ _ c.args.desk.now.session _ _ _ _ _ _
          (on_then _ _ _ _ _ _ _ c.args.desk.now.session c.loop-left.desk.session _ _ _ _ _ _ tt c.loop-left.invariant.keeps c.in-Ok-serve_piece.ensures.keeps (handled_through _ _ _ _ _ _ _ c.loop-left.invariant.reading.handled)) (λ yes. refl) (λ keys h. h);
      quiet =
          let served = c.in-Ok-serve_piece.ensures.blame.quiet in
          let taken : g.I.Source.faults c.take.new.self ≡ g.I.Source.faults c.loop-left.input = c.in-Ok.ensures.cause in
          (λ k. counts (served k).platform (served k).tape (taken k) (served k).output (served k).ledger) ∙ c.loop-left.invariant.quiet;
      reading = IsReading-more (replying P.tells) old mid new (left c.args.input.now) (left c.loop-left.input) (left c.take.new.self) (written c.args.output.now) (written c.loop-left.output) (written c.serve_piece.new.output)
          c.loop-left.pending c.serve_piece.new.pending c.loop-left.left (c.loop-left.left - c.in-Ok.count) _ reading took.gave took.less
          (c.in-Ok-serve_piece.ensures.pending (rest_of reading.taken) reading.unfinished) (c.in-Ok-serve_piece.ensures.handled (rest_of reading.taken) reading.unfinished);
    }

pub returns-clause-ran : goal.returns-clause-ran
returns-clause-ran g c =
    let P = g.P.Platform in
    let old : World = world_by P g.T.Tape c.args.desk.now.session c.args.platform.now c.args.tape.now in
    let mid : World = world_by P g.T.Tape c.loop-left.desk.session c.loop-left.platform c.loop-left.tape in
    IsReading-limit (replying P.tells) old mid (g.I.Source.left c.args.input.now) (g.I.Source.left c.loop-left.input) (g.O.Sink.written c.args.output.now) (g.O.Sink.written c.loop-left.output)
    c.loop-left.pending c.loop-left.left c.loop-left.invariant.reading (let none = c.loop-left-test.false in omega arith)

pub serve_end-requires : goal.serve_end-requires
serve_end-requires g c = record {
  ready = c.loop-left.invariant.ready;
  room = c.loop-left.invariant.room;
  cell = λ told. served_at _ _ (c.loop-left.invariant.keeps.serves told (c.requires.cell told));
  mounted = c.loop-left.invariant.mounted;
}

pub serve_piece-requires : goal.serve_piece-requires
serve_piece-requires g c = record {
  ready = c.loop-left.invariant.ready;
  room = c.loop-left.invariant.room;
  cell = λ told. served_at _ _ (c.loop-left.invariant.keeps.serves told (c.requires.cell told));
  mounted = c.loop-left.invariant.mounted;
}

pub returns-in_default-clause-keeps : goal.returns-in_default-clause-keeps
returns-in_default-clause-keeps g c = on_done _ _ _ _ _ c.args.desk.now.session _ _ _ _ _ _ c.loop-left.invariant.keeps (λ never. tt) (λ keys h. tt)

pub returns-then-count-eq0-clause-keeps : goal.returns-then-count-eq0-clause-keeps
returns-then-count-eq0-clause-keeps g c = on_then _ _ _ _ _ _ _ c.args.desk.now.session c.loop-left.desk.session _ _ _ _ _ _ tt c.loop-left.invariant.keeps c.serve_end.ensures.keeps (handled_through _ _ _ _ _ _ _ c.loop-left.invariant.reading.handled)

pub returns-in-Err-clause-keeps : goal.returns-in-Err-clause-keeps
returns-in-Err-clause-keeps g c = on_then _ _ _ _ _ _ _ c.args.desk.now.session c.loop-left.desk.session _ _ _ _ _ _ tt c.loop-left.invariant.keeps (on_done _ _ _ _ _ c.loop-left.desk.session _ _ _ _ _ _ c.serve_piece.ensures.keeps (λ never. absurd cc) (λ keys h. tt)) (handled_through _ _ _ _ _ _ _ c.loop-left.invariant.reading.handled)

pub returns-clause-keeps : goal.returns-clause-keeps
returns-clause-keeps g c = on_done _ _ _ _ _ c.args.desk.now.session _ _ _ _ _ _ c.loop-left.invariant.keeps (λ never. tt) (λ keys h. tt)

pub returns-in_default-clause-blame : goal.returns-in_default-clause-blame
returns-in_default-clause-blame g c = blamed_take _ _ _ _ _ _ _ c.loop-left.invariant.quiet c.take.ensures.count c.in_default.ensures.cause

pub returns-then-count-eq0-clause-blame : goal.returns-then-count-eq0-clause-blame
returns-then-count-eq0-clause-blame g c = blamed_behind _ _ _ _ _ _ _ _ _ _ _ c.serve_end.result c.loop-left.invariant.quiet c.in-Ok.ensures.cause c.serve_end.ensures.blame

pub returns-in-Err-clause-blame : goal.returns-in-Err-clause-blame
returns-in-Err-clause-blame g c = blamed_behind _ _ _ _ _ _ _ _ _ _ _ (Err c.in-Err.stop) c.loop-left.invariant.quiet c.in-Ok.ensures.cause c.in-Err.ensures.blame

pub returns-clause-blame : goal.returns-clause-blame
returns-clause-blame g c = record { fell = fell_not _ _ c.loop-left.invariant.quiet; quiet = tt; cause = c.loop-left.invariant.quiet }
