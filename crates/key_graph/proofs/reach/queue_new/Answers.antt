use Rattle.std.proofs.Common.{arith, sym}
use Rattle.std.proofs.lemmas.Option.{get_or_from_slice_get}
use Rattle.key_graph.proofs.SearchLaws.{gains_more}
use Rattle.key_graph.proofs.reach.queue_new.Goals as goal

pub loop-i-preserved : goal.loop-i-preserved
loop-i-preserved c = (
  c.in_ok-queue_one.ensures.found,
  gains_more c.args.queue.now.items c.loop-i.queue.items c.queue_one.new.queue.items c.args.addrs.now c.loop-i.i c.at.result.now
      (omega (arith, c.len-i-end.ensures)) (sym (get_or_from_slice_get c.args.addrs.now c.loop-i.i c.at.result.now 0 c.at.ensures)) c.loop-i.invariant.1 c.in_ok-queue_one.ensures.queued,
)
