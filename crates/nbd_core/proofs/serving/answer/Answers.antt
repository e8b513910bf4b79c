use Rattle.std.proofs.Common.{List, ℕ, ap, arith, refl}
use Rattle.sdbt_base.specs.Counts.{counts}
use Rattle.nbd_core.proofs.BlameLaws.{blame_as, blame_done, blame_sink, blame_then}
use Rattle.session_calls.proofs.CarryLaws.{carries_end}
use Rattle.nbd_core.specs.Serving.{bytes_of_reply}
use Rattle.nbd_core.proofs.ServedLaws.{answer_cut, answer_halted, is_reply, sink_no_limit}
use Rattle.nbd_core.proofs.TurnLaws.{turned_last}
use Rattle.nbd_core.proofs.KeepLaws.{keeps_on}
use Rattle.nbd_core.proofs.serving.answer.Goals as goal

pub returns-in-Ok-put_reply-clause-blame : goal.returns-in-Ok-put_reply-clause-blame
returns-in-Ok-put_reply-clause-blame g c =
    let o = g.O.Sink.faults c.args.output.now in
    let blames = c.in-Ok.ensures.blame (counts 0 0 0 o 0) in
    blame_then _ _ _ _ blames.quiet (blame_done _ _ _ (ap (λ (n : ℕ). record (counts (g.P.Platform.faults c.perform.new.platform) (g.T.Tape.faults c.perform.new.tape) (g.I.Source.faults c.perform.new.input) 0 (g.L.Sink.faults c.perform.new.ledger)) { output = n }) c.in-Ok-put_reply.ensures.cause))

pub returns-in-Ok-put_reply-clause-answered : goal.returns-in-Ok-put_reply-clause-answered
returns-in-Ok-put_reply-clause-answered g c =
    let came = c.in-Ok.ensures.bytes in
    let request = c.args.request.now in
    let room : List ℕ = c.perform.new.desk.reply.items in
    let outcome = c.in-Ok.done.outcome in
    record {
      gone = came.gone;
      came = came.came;
      ends = (
        came.whole,
        record { outcome = outcome; cookie = request.cookie; bytes = bytes_of_reply request.kind request.length outcome room },
        is_reply _ request outcome room c.in-Ok.ensures.ends c.in-Ok.ensures.room,
        c.in-Ok-put_reply.ensures.put,
        came.did.0,
        came.did.1,
        c.in-Ok.ensures.spends,
      );
      limit = tt;
      reads = c.in-Ok.ensures.reads;
    }

pub returns-in-Err-put_reply-clause-carries : goal.returns-in-Err-put_reply-clause-carries
returns-in-Err-put_reply-clause-carries g c = carries_end _ _ _ _ _ _ _ (λ never. cc) c.in-Ok.ensures.carries

pub returns-in-Err-put_reply-clause-blame : goal.returns-in-Err-put_reply-clause-blame
returns-in-Err-put_reply-clause-blame g c =
    let o = g.O.Sink.faults c.args.output.now in
    let blames = c.in-Ok.ensures.blame (counts 0 0 0 o 0) in
    let cause = c.in-Err-put_reply.ensures.cause in
    blame_then _ _ _ _ blames.quiet
    (blame_sink _ _ c.in-Err-put_reply.stop (record { platform = omega arith; tape = omega arith; input = omega arith; output = c.in-Err-put_reply.ensures.fell; ledger = omega arith }) cause.0 (cause.1, refl))

pub returns-in-Err-put_reply-clause-answered : goal.returns-in-Err-put_reply-clause-answered
returns-in-Err-put_reply-clause-answered g c =
    let came = c.in-Ok.ensures.bytes in
    let request = c.args.request.now in
    let room : List ℕ = c.perform.new.desk.reply.items in
    let outcome = c.in-Ok.done.outcome in
    record {
      gone = came.gone;
      came = came.came;
      ends =
          answer_cut _ _ _ _ _ request _ came.gone _ _ _ c.in-Err-put_reply.stop (record { outcome = outcome; cookie = request.cookie; bytes = bytes_of_reply request.kind request.length outcome room }) c.in-Err-put_reply.ensures.cause.0 came.whole
          (is_reply _ request outcome room c.in-Ok.ensures.ends c.in-Ok.ensures.room) c.in-Err-put_reply.ensures.part
          (λ told entry held. turned_last _ _ _ entry _ _ (came.did.0 told entry held)) (λ told. (c.in-Ok.done.session, c.in-Ok.ensures.carries.ready.mounted told, came.did.1 told));
      limit = λ is. absurd (sink_no_limit c.in-Err-put_reply.stop c.in-Err-put_reply.ensures.cause.0 is);
      reads = c.in-Ok.ensures.reads;
    }

pub returns-in-Err-clause-blame : goal.returns-in-Err-clause-blame
returns-in-Err-clause-blame g c = blame_as _ _ c.in-Err.halt (c.in-Err.ensures.blame (counts 0 0 0 (g.O.Sink.faults c.args.output.now) 0))

pub returns-in-Err-clause-answered : goal.returns-in-Err-clause-answered
returns-in-Err-clause-answered g c =
    let came = c.in-Err.ensures.bytes in
    record { gone = came.gone; came = came.came; ends = answer_halted _ _ _ _ _ c.args.request.now _ came.gone _ _ c.in-Err.halt came.ends c.in-Err.ensures.ends came.did.0 c.in-Err.ensures.adds; limit = came.limit; reads = c.in-Err.ensures.reads }

pub returns-in-Ok-put_reply-clause-keeps : goal.returns-in-Ok-put_reply-clause-keeps
returns-in-Ok-put_reply-clause-keeps g c = keeps_on _ _ _ _ _ _ _ c.in-Ok.ensures.keeps c.in-Ok-put_reply.ensures.same_room.0 c.in-Ok-put_reply.ensures.same_room.1

pub returns-in-Err-put_reply-clause-keeps : goal.returns-in-Err-put_reply-clause-keeps
returns-in-Err-put_reply-clause-keeps g c = keeps_on _ _ _ _ _ _ _ c.in-Ok.ensures.keeps c.in-Err-put_reply.ensures.same_room.0 c.in-Err-put_reply.ensures.same_room.1
