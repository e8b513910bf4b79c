use Rattle.std.proofs.Common.{take, arith}
use Rattle.sdbt_base.proofs.ToldLaws.{Appends-next, Appends-kept}
use Rattle.sdbt_base.proofs.transfers.write_whole.Goals as goal
use Rattle.sdbt_base.proofs.transfers.write_whole.Goals.{in-Ok, in-Err}

-- the writer took the next bytes, or it stayed as it was
pub loop-preserved : goal.loop-preserved
loop-preserved g c =
    let contents = g.W.Write.contents in
    elim c.match-write.branch [
      | in-Ok w ↦
          record {
            bound = omega (arith, w.in-Ok.ensures.bound, w.written-is, c.split_at.ensures.back_len);
            front =
                rw w.written-is (Appends-next (contents c.args.writer.now) (contents c.loop.writer) (contents c.write.new.self)
                c.args.bytes.now c.loop.written w.in-Ok.count c.loop.invariant.front
                (rw c.split_at.ensures.back at w.in-Ok.ensures.bytes));
          }
      | in-Err w ↦
          record {
            bound = omega (arith, w.written-is);
            front =
                rw w.written-is (Appends-kept (contents c.args.writer.now) (contents c.loop.writer) (contents c.write.new.self)
                (take c.loop.written c.args.bytes.now) c.loop.invariant.front w.in-Err.ensures.bytes);
          }
    ]
