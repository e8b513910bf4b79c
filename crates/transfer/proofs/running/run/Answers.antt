use Rattle.std.proofs.Common.{Ok, Err, refl}
use Rattle.transfer.specs.Counts.{counts}
use Rattle.transfer.proofs.BlameLaws.{blames_moved, blames_told}
use Rattle.transfer.proofs.ChangesLaws.{changes_more, put_clears, told_clears}
use Rattle.transfer.proofs.FromLaws.{clears_weaker}
use Rattle.transfer.proofs.ToLaws.{spans_more}
use Rattle.transfer.proofs.running.run.Goals as goal

pub returns-in-Ok-clause-from : goal.returns-in-Ok-clause-from
returns-in-Ok-clause-from g c = clears_weaker _ _ _ _ _ _ (λ done. refl) c.in-Ok.ensures.from

pub returns-in-Err-clause-from : goal.returns-in-Err-clause-from
returns-in-Err-clause-from g c = clears_weaker _ _ _ _ _ _ (λ done. absurd cc) c.in-Err.ensures.from

pub returns-in-Ok-clause-to : goal.returns-in-Ok-clause-to
returns-in-Ok-clause-to g c = spans_more _ _ _ _ _ (λ done. refl) c.in-Ok.ensures.to

pub returns-in-Err-clause-to : goal.returns-in-Err-clause-to
returns-in-Err-clause-to g c = spans_more _ _ _ _ _ (λ done. absurd cc) c.in-Err.ensures.to

pub returns-in-Ok-clause-blame : goal.returns-in-Ok-clause-blame
returns-in-Ok-clause-blame g c =
    let before = counts (g.P.Platform.faults c.args.from.now) (g.Q.Platform.faults c.args.to.now) (g.T.Tape.faults c.args.tape.now) (g.O.Sink.faults c.args.output.now) (g.L.Sink.faults c.args.ledger.now) in
    let mid = counts (g.P.Platform.faults c.move_device.new.from) (g.Q.Platform.faults c.move_device.new.to) (g.T.Tape.faults c.move_device.new.tape) (g.O.Sink.faults c.args.output.now) (g.L.Sink.faults c.move_device.new.ledger) in
    let now = counts (g.P.Platform.faults c.move_device.new.from) (g.Q.Platform.faults c.move_device.new.to) (g.T.Tape.faults c.move_device.new.tape) (g.O.Sink.faults c.put_moved.new.output) (g.L.Sink.faults c.move_device.new.ledger) in
    blames_moved before mid now c.in-Ok.moved c.put_moved.result c.put_moved.ensures.count refl (c.in-Ok.ensures.blame (g.O.Sink.faults c.args.output.now)) c.put_moved.ensures.blame

pub returns-in-Err-clause-blame : goal.returns-in-Err-clause-blame
returns-in-Err-clause-blame g c =
    let before = counts (g.P.Platform.faults c.args.from.now) (g.Q.Platform.faults c.args.to.now) (g.T.Tape.faults c.args.tape.now) (g.O.Sink.faults c.args.output.now) (g.L.Sink.faults c.args.ledger.now) in
    let mid = counts (g.P.Platform.faults c.move_device.new.from) (g.Q.Platform.faults c.move_device.new.to) (g.T.Tape.faults c.move_device.new.tape) (g.O.Sink.faults c.args.output.now) (g.L.Sink.faults c.move_device.new.ledger) in
    let now = counts (g.P.Platform.faults c.move_device.new.from) (g.Q.Platform.faults c.move_device.new.to) (g.T.Tape.faults c.move_device.new.tape) (g.O.Sink.faults c.put_last_line.new.output) (g.L.Sink.faults c.move_device.new.ledger) in
    blames_told before mid now c.in-Err.halt c.put_last_line.result c.put_last_line.ensures.count refl (c.in-Err.ensures.blame (g.O.Sink.faults c.args.output.now)) c.put_last_line.ensures.blame

pub returns-in-Ok-clause-went : goal.returns-in-Ok-clause-went
returns-in-Ok-clause-went g c = record {
  moved = Ok c.in-Ok.moved;
  said = c.put_moved.ensures.put;
  wrong = tt;
  looked = c.in-Ok.ensures.looked;
  there = c.in-Ok.ensures.there.0;
  mapped = c.in-Ok.ensures.told.0;
  number = c.in-Ok.ensures.told.1;
  whole = c.in-Ok.ensures.whole;
  refused = tt;
  unlike = c.in-Ok.ensures.refused.unlike;
  leads = c.in-Ok.ensures.leads;
}

pub returns-in-Err-clause-went : goal.returns-in-Err-clause-went
returns-in-Err-clause-went g c = record {
  moved = Err c.in-Err.halt;
  said = (c.put_last_line.result, refl, c.put_last_line.ensures.told);
  wrong = c.in-Err.ensures.wrong;
  looked = c.in-Err.ensures.looked;
  there = c.in-Err.ensures.there.0;
  mapped = tt;
  number = tt;
  whole = c.in-Err.ensures.whole;
  refused = c.in-Err.ensures.refused.refused;
  unlike = c.in-Err.ensures.refused.unlike;
  leads = c.in-Err.ensures.leads;
}

pub returns-in-Ok-clause-reads : goal.returns-in-Ok-clause-reads
returns-in-Ok-clause-reads g c = (
  c.in-Ok.ensures.there.1,
  changes_more g.P.Platform g.Q.Platform 1 _ c.args.from.now c.move_device.new.from c.args.to.now c.move_device.new.to (put_clears c.put_moved.result _ _ c.put_moved.ensures.blame) c.in-Ok.ensures.there.2,
)

pub returns-in-Err-clause-reads : goal.returns-in-Err-clause-reads
returns-in-Err-clause-reads g c = (
  c.in-Err.ensures.there.1,
  changes_more g.P.Platform g.Q.Platform _ _ c.args.from.now c.move_device.new.from c.args.to.now c.move_device.new.to (told_clears c.in-Err.halt c.put_last_line.result _ _ c.put_last_line.ensures.told) c.in-Err.ensures.there.2,
)
