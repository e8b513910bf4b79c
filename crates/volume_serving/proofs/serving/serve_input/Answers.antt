use Rattle.std.proofs.Common.{◌≡◌, ℕ, ◌-◌, List, Option, None, Some, Err, refl, drop, sym, ◌∙◌, subst, arith}
use Rattle.std.proofs.lemmas.Grind.{common_steps}
use Rattle.sdbt_base.specs.Counts.{counts}
use Rattle.sdbt_base.specs.Told.{IsAtEnd}
use Rattle.text_lines.specs.Lines.{rest_of}
use Rattle.session_calls.proofs.CarryLaws.{carries_end, carries_going, carries_start, carries_then}
use Rattle.device_session.specs.Open.{blocks_of}
use Rattle.sdbt_base.proofs.ToldLaws.{ends_gave}
use Rattle.volume_serving.specs.World.{World, world}
use Rattle.line_run.proofs.BlameLaws.{blamed_behind, blamed_take, fell_not}
use Rattle.line_run.proofs.TakeLaws.{none_given, nothing_left, taken_of}
use Rattle.volume_serving.specs.Handled.{Handled}
use Rattle.volume_serving.proofs.HandledLaws.{handled_of, replying}
use Rattle.line_run.proofs.ReadingLaws.{IsReading, IsReading-start, IsReading-more, IsReading-stop, IsReading-end, IsReading-failed, IsReading-limit}
use Rattle.volume_serving.proofs.serving.serve_input.Goals as goal

pub loop-left-init : goal.loop-left-init
loop-left-init g c =
    let P = g.P.Platform in
    record {
      table = c.requires.table;
      carries = carries_start _ _ c.args.first c.requires.ready;
      open_yet = refl;
      quiet = refl;
      reading = IsReading-start _ (Handled P.tells (blocks_of c.args.first)) (replying P.tells (blocks_of c.args.first)).handling (world P g.T.Tape g.L.Sink (Some c.args.first) c.args.desk.now.table c.args.platform.now c.args.tape.now c.args.ledger.now) (g.I.Source.left c.args.input.now)
          (g.O.Sink.written c.args.output.now) c.new-pending.result _ (g.met.P.Platform.has_room c.args.platform.now) c.new-pending.ensures (omega arith);
    }

pub returns-in_default-clause-ran : goal.returns-in_default-clause-ran
returns-in_default-clause-ran g c =
    let P = g.P.Platform in let T = g.T.Tape in let L = g.L.Sink in let l = c.loop-left in
    let left = g.I.Source.left in
    let written = g.O.Sink.written in
    let old : World = world P T L (Some c.args.first) c.args.desk.now.table c.args.platform.now c.args.tape.now c.args.ledger.now in
    let mid : World = world P T L (Some l.session) l.desk.table l.platform l.tape l.ledger in
    let same : left c.take.new.self ≡ left l.input = c.in_default.ensures.nothing_taken in (
      Some l.session,
      IsReading-failed (replying P.tells (blocks_of c.args.first)) old mid (left c.args.input.now) (left c.take.new.self) (written c.args.output.now) (written l.output) l.pending l.left
          (subst (λ (o : Option (List ℕ)). IsReading (Handled P.tells (blocks_of c.args.first)) old mid (left c.args.input.now) o (written c.args.output.now) (written l.output) l.pending l.left) (sym same) l.invariant.reading)
          c.loop-left-test.true,
    )

pub returns-then-count-eq0-clause-ran : goal.returns-then-count-eq0-clause-ran
returns-then-count-eq0-clause-ran g c =
    let P = g.P.Platform in let T = g.T.Tape in let L = g.L.Sink in let l = c.loop-left in let e = c.serve_end.new in
    let left = g.I.Source.left in
    let written = g.O.Sink.written in
    let old : World = world P T L (Some c.args.first) c.args.desk.now.table c.args.platform.now c.args.tape.now c.args.ledger.now in
    let mid : World = world P T L (Some l.session) l.desk.table l.platform l.tape l.ledger in
    let into : List ℕ = c.take.new.into in
    let same : left l.input ≡ left c.take.new.self = none_given (left l.input) (left c.take.new.self) into c.in-Ok.count c.if-count-eq0.true c.in-Ok.ensures.taken in
    let reading = subst (λ (o : Option (List ℕ)). IsReading (Handled P.tells (blocks_of c.args.first)) old mid (left c.args.input.now) o (written c.args.output.now) (written l.output) l.pending l.left) same l.invariant.reading in
    let end = subst (λ (o : Option (List ℕ)). IsAtEnd o) same (nothing_left (left l.input) c.in-Ok.count c.if-count-eq0.true c.in-Ok.ensures.end) in
    let ended = c.serve_end.ensures.handled (rest_of reading.taken) reading.unfinished in (
      ended.0,
      IsReading-end (replying P.tells (blocks_of c.args.first)) old mid (world P T L ended.0 e.desk.table e.platform e.tape e.ledger) c.serve_end.result (left c.args.input.now) (left c.take.new.self) (written c.args.output.now) (written l.output) (written e.output)
          l.pending l.left reading c.loop-left-test.true end c.serve_end.ensures.stops (handled_of _ _ _ _ _ _ _ _ _ l.invariant.carries.blocks ended.1),
    )

pub returns-in-Err-clause-ran : goal.returns-in-Err-clause-ran
returns-in-Err-clause-ran g c =
    let P = g.P.Platform in let T = g.T.Tape in let L = g.L.Sink in let l = c.loop-left in let e = c.serve_piece.new in
    let left = g.I.Source.left in
    let written = g.O.Sink.written in
    let old : World = world P T L (Some c.args.first) c.args.desk.now.table c.args.platform.now c.args.tape.now c.args.ledger.now in
    let mid : World = world P T L (Some l.session) l.desk.table l.platform l.tape l.ledger in
    let new : World = world P T L (None) e.desk.table e.platform e.tape e.ledger in
    let reading = l.invariant.reading in
    let took = taken_of c.take.new.into (drop c.min-room.result l.piece) c.in-Ok.count l.left (left l.input) (left c.take.new.self)
    (omega (arith, c.in-Ok.ensures.bound, c.take.auto.into)) (grind (arith, common_steps, c.take.auto.into, c.min-room.ensures)) (grind (arith, common_steps, c.take.auto.into, c.min-room.ensures)) c.in-Ok.ensures.taken in (
      None,
      IsReading-stop (replying P.tells (blocks_of c.args.first)) old mid new (left c.args.input.now) (left l.input) (left c.take.new.self) (written c.args.output.now) (written l.output) (written e.output)
          l.pending l.left _ c.in-Err.stop reading took.gave took.short took.few c.in-Err.ensures.stops
          (handled_of _ _ _ _ _ _ _ _ _ l.invariant.carries.blocks (c.in-Err.ensures.handled (rest_of reading.taken) reading.unfinished)),
    )

pub loop-left-preserved : goal.loop-left-preserved
loop-left-preserved g c =
    let P = g.P.Platform in let T = g.T.Tape in let L = g.L.Sink in let l = c.loop-left in let e = c.serve_piece.new in let ok = c.in-Ok-serve_piece in
    let left = g.I.Source.left in
    let written = g.O.Sink.written in
    let old : World = world P T L (Some c.args.first) c.args.desk.now.table c.args.platform.now c.args.tape.now c.args.ledger.now in
    let mid : World = world P T L (Some l.session) l.desk.table l.platform l.tape l.ledger in
    let new : World = world P T L (Some ok.next) e.desk.table e.platform e.tape e.ledger in
    let reading = l.invariant.reading in
    let took = taken_of c.take.new.into (drop c.min-room.result l.piece) c.in-Ok.count l.left (left l.input) (left c.take.new.self)
    (omega (arith, c.in-Ok.ensures.bound, c.take.auto.into)) (grind (arith, common_steps, c.take.auto.into, c.min-room.ensures)) (grind (arith, common_steps, c.take.auto.into, c.min-room.ensures)) c.in-Ok.ensures.taken in
    record {
      table = ok.ensures.table;
      carries = carries_then _ _ _ _ c.args.first l.session _ _ _ tt l.invariant.carries (carries_going _ _ _ _ _ _ _ (λ going. refl) ok.ensures.carries);
      open_yet = c.in-Ok.ensures.ended ∙ ends_gave c.in-Ok.count (g.I.Source.ends c.loop-left.input) (omega (arith, c.if-count-eq0.false)) ∙ c.loop-left.invariant.open_yet;
      quiet =
          let served = ok.ensures.blame.quiet in
          let taken : g.I.Source.faults c.take.new.self ≡ g.I.Source.faults l.input = c.in-Ok.ensures.cause in
          (λ k. counts (served k).platform (served k).tape (taken k) (served k).output (served k).ledger) ∙ l.invariant.quiet;
      reading = IsReading-more (replying P.tells (blocks_of c.args.first)) old mid new (left c.args.input.now) (left l.input) (left c.take.new.self) (written c.args.output.now) (written l.output) (written e.output)
          l.pending e.pending l.left (l.left - c.in-Ok.count) _ reading took.gave took.less
          (ok.ensures.pending (rest_of reading.taken) reading.unfinished) (handled_of _ _ _ _ _ _ _ _ _ l.invariant.carries.blocks (ok.ensures.handled (rest_of reading.taken) reading.unfinished));
    }

pub returns-clause-ran : goal.returns-clause-ran
returns-clause-ran g c =
    let P = g.P.Platform in let T = g.T.Tape in let L = g.L.Sink in let l = c.loop-left in
    let old : World = world P T L (Some c.args.first) c.args.desk.now.table c.args.platform.now c.args.tape.now c.args.ledger.now in
    let mid : World = world P T L (Some l.session) l.desk.table l.platform l.tape l.ledger in (
      Some l.session,
      IsReading-limit (replying P.tells (blocks_of c.args.first)) old mid (g.I.Source.left c.args.input.now) (g.I.Source.left l.input) (g.O.Sink.written c.args.output.now) (g.O.Sink.written l.output)
          l.pending l.left l.invariant.reading (let none = c.loop-left-test.false in omega arith),
    )

pub serve_end-requires : goal.serve_end-requires
serve_end-requires g c = record { ready = c.loop-left.invariant.carries.ready; table = c.loop-left.invariant.table }

pub serve_piece-requires : goal.serve_piece-requires
serve_piece-requires g c = record { ready = c.loop-left.invariant.carries.ready; table = c.loop-left.invariant.table }

pub returns-in_default-clause-carries : goal.returns-in_default-clause-carries
returns-in_default-clause-carries g c = carries_end _ _ _ _ _ _ _ (λ never. tt) c.loop-left.invariant.carries

pub returns-then-count-eq0-clause-carries : goal.returns-then-count-eq0-clause-carries
returns-then-count-eq0-clause-carries g c = carries_then _ _ _ _ c.args.first c.loop-left.session _ _ _ tt c.loop-left.invariant.carries c.serve_end.ensures.carries

pub returns-in-Err-clause-carries : goal.returns-in-Err-clause-carries
returns-in-Err-clause-carries g c = carries_then _ _ _ _ c.args.first c.loop-left.session _ _ _ tt c.loop-left.invariant.carries c.in-Err.ensures.carries

pub returns-clause-carries : goal.returns-clause-carries
returns-clause-carries g c = carries_end _ _ _ _ _ _ _ (λ never. tt) c.loop-left.invariant.carries

pub returns-in_default-clause-blame : goal.returns-in_default-clause-blame
returns-in_default-clause-blame g c = blamed_take _ _ _ _ _ _ _ c.loop-left.invariant.quiet c.take.ensures.count c.in_default.ensures.cause

pub returns-then-count-eq0-clause-blame : goal.returns-then-count-eq0-clause-blame
returns-then-count-eq0-clause-blame g c = blamed_behind _ _ _ _ _ _ _ _ _ _ _ c.serve_end.result c.loop-left.invariant.quiet c.in-Ok.ensures.cause c.serve_end.ensures.blame

pub returns-in-Err-clause-blame : goal.returns-in-Err-clause-blame
returns-in-Err-clause-blame g c =
    let one = c.in-Err.ensures.blame in
    blamed_behind _ _ _ _ _ _ _ _ _ _ _ (Err c.in-Err.stop) c.loop-left.invariant.quiet c.in-Ok.ensures.cause (record { fell = one.fell; quiet = tt; cause = one.cause })

pub returns-clause-blame : goal.returns-clause-blame
returns-clause-blame g c = record { fell = fell_not _ _ c.loop-left.invariant.quiet; quiet = tt; cause = c.loop-left.invariant.quiet }
