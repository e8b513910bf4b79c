use Rattle.std.proofs.Common.{None, length}
use Rattle.platform.specs.Mem.{mem_history, image_of_now, capacity_of, answered_of, changes_of}
use Rattle.platform.proofs.Moments.{During-now}
use Rattle.device_terms.specs.Served.{IsServedImage}
use Rattle.device_cli.specs.World.{World, world}
use Rattle.device_course.proofs.FitsLaws.{leaves_last, leaves_then}
use Rattle.two_runs.proofs.LossLaws.{goes_on, anywhere, discloses_twice, served_left}
use Rattle.two_runs.proofs.run_twice.Goals as goal

pub returns-clause-runs : goal.returns-clause-runs
returns-clause-runs g c =
    let old : World = world None (mem_history c.args.platform.now) (length (image_of_now c.args.platform.now).recorded) (capacity_of c.args.platform.now) (answered_of c.args.platform.now) (changes_of c.args.platform.now) in
    let mid : World = world None (mem_history c.run_main-status.new.platform) (length (image_of_now c.run_main-status.new.platform).recorded) (capacity_of c.run_main-status.new.platform) (answered_of c.run_main-status.new.platform) (changes_of c.run_main-status.new.platform) in
    let cut : World = world None (mem_history c.lose_power.new.platform) (length (image_of_now c.lose_power.new.platform).recorded) (capacity_of c.lose_power.new.platform) (answered_of c.lose_power.new.platform) (changes_of c.lose_power.new.platform) in
    let new : World = world None (mem_history c.run_main-other.new.platform) (length (image_of_now c.run_main-other.new.platform).recorded) (capacity_of c.run_main-other.new.platform) (answered_of c.run_main-other.new.platform) (changes_of c.run_main-other.new.platform) in
    record {
      mid = mid;
      cut = cut;
      written_then = g.O.Sink.written c.run_main-status.new.output;
      one = (c.run_main-status.ensures.serves tt).answers;
      lost = c.lose_power.ensures.left;
      two = (c.run_main-other.ensures.serves tt).answers;
      goes_on = λ there stands served. goes_on old mid cut new _ _ _ _ _ _ _ _ _ (c.run_main-status.ensures.serves tt).answers c.lose_power.ensures.left.may (c.run_main-other.ensures.serves tt).answers there stands served
          (served_left (image_of_now c.run_main-status.new.platform) (image_of_now c.lose_power.new.platform) c.lose_power.ensures.left.may
          (During-now (mem_history c.args.platform.now) (mem_history c.run_main-status.new.platform) IsServedImage (c.run_main-status.ensures.stays.served tt served)));
      discloses = discloses_twice (g.T.Tape.drawn c.args.tape.now) (g.T.Tape.drawn c.run_main-status.new.tape) (g.T.Tape.drawn c.run_main-other.new.tape) old mid cut new _ _ _ _ _
          c.run_main-status.ensures.forgets.discloses c.run_main-other.ensures.forgets.discloses (c.run_main-status.ensures.serves tt).answers c.lose_power.ensures.left.may
          (λ served. served_left (image_of_now c.run_main-status.new.platform) (image_of_now c.lose_power.new.platform) c.lose_power.ensures.left.may
          (During-now (mem_history c.args.platform.now) (mem_history c.run_main-status.new.platform) IsServedImage (c.run_main-status.ensures.stays.served tt served)));
      anywhere = λ there stands served. anywhere old mid _ _ _ _ _ (c.run_main-status.ensures.serves tt).answers there stands served (c.run_main-status.ensures.stays.served tt served);
    }

pub returns-clause-fits : goal.returns-clause-fits
returns-clause-fits g c there stands served =
    let old : World = world None (mem_history c.args.platform.now) (length (image_of_now c.args.platform.now).recorded) (capacity_of c.args.platform.now) (answered_of c.args.platform.now) (changes_of c.args.platform.now) in
    let mid : World = world None (mem_history c.run_main-status.new.platform) (length (image_of_now c.run_main-status.new.platform).recorded) (capacity_of c.run_main-status.new.platform) (answered_of c.run_main-status.new.platform) (changes_of c.run_main-status.new.platform) in
    let cut : World = world None (mem_history c.lose_power.new.platform) (length (image_of_now c.lose_power.new.platform).recorded) (capacity_of c.lose_power.new.platform) (answered_of c.lose_power.new.platform) (changes_of c.lose_power.new.platform) in
    let new : World = world None (mem_history c.run_main-other.new.platform) (length (image_of_now c.run_main-other.new.platform).recorded) (capacity_of c.run_main-other.new.platform) (answered_of c.run_main-other.new.platform) (changes_of c.run_main-other.new.platform) in
    let left = served_left (image_of_now c.run_main-status.new.platform) (image_of_now c.lose_power.new.platform) c.lose_power.ensures.left.may
    (During-now (mem_history c.args.platform.now) (mem_history c.run_main-status.new.platform) IsServedImage (c.run_main-status.ensures.stays.served tt served)) in
    let next = goes_on old mid cut new _ _ _ _ _ _ _ _ _ (c.run_main-status.ensures.serves tt).answers c.lose_power.ensures.left.may (c.run_main-other.ensures.serves tt).answers there stands served left in
    leaves_last (g.L.Sink.written c.args.ledger.now) (g.L.Sink.written c.run_main-other.new.ledger) old.history.present cut.history new.history
    (leaves_then (g.L.Sink.written c.args.ledger.now) (g.L.Sink.written c.run_main-status.new.ledger) (g.L.Sink.written c.run_main-other.new.ledger)
    old.history mid.history cut.history new.history old.history.present
    (c.run_main-status.ensures.ledger.fits tt there stands served) c.lose_power.ensures.left.may
    (c.run_main-other.ensures.ledger.fits tt next.goes.between next.goes.stands left))
