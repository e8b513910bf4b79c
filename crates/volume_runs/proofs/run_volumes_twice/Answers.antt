use Rattle.std.proofs.Common.{Some, refl}
use Rattle.platform.specs.Mem.{mem_history, image_of_now}
use Rattle.platform.proofs.Moments.{During-now}
use Rattle.page_store.proofs.KeepingLaws.{drew_then}
use Rattle.page_store.proofs.StandsLaws.{stands_left}
use Rattle.device_terms.specs.Served.{IsServedImage}
use Rattle.device_course.proofs.FitsLaws.{leaves_last, leaves_then}
use Rattle.device_course.specs.Held.{Held}
use Rattle.volumes.specs.Starting.{IsStart}
use Rattle.volume_runs.specs.Runs.{IsFreeOn, in_memory}
use Rattle.volume_runs.proofs.RunLaws.{all_free, both_disclose, both_on, ended_with, free_on, fresh_on, next_start, served_left, served_stay, start_of}
use Rattle.volume_runs.proofs.run_volumes_twice.Goals as goal

pub returns-clause-runs : goal.returns-clause-runs
returns-clause-runs g c =
    let one = c.run_volumes-status.new in
    let two = c.run_volumes-other.new in
    let old = in_memory g.T.Tape g.I.Source g.O.Sink g.L.Sink c.args.platform.now c.args.tape.now c.args.first.now c.args.output.now c.args.ledger.now in
    let mid = in_memory g.T.Tape g.I.Source g.O.Sink g.L.Sink one.platform one.tape one.input one.output one.ledger in
    let cut = in_memory g.T.Tape g.I.Source g.O.Sink g.L.Sink c.lose_power.new.platform one.tape c.args.second.now one.output one.ledger in
    let new = in_memory g.T.Tape g.I.Source g.O.Sink g.L.Sink two.platform two.tape two.input two.output two.ledger in
    let serving = (c.run_volumes-status.ensures.serves refl).0 in
    let ran = serving.ran in
    let lost = c.lose_power.ensures.left.may in
    let first = c.run_volumes-status.ensures.forgets in
    let second = c.run_volumes-other.ensures.forgets in
    let served_cut = λ (served : IsServedImage old.outside.history.present).
    served_left mid.outside.history.present cut.outside.history.present lost (During-now old.outside.history mid.outside.history IsServedImage (c.run_volumes-status.ensures.stays.served tt served)) in
    let other = (c.run_volumes-other.ensures.serves refl).0 in
    let goes = λ (entry : Held) (start : IsStart (Unit {0}) old.outside entry).
    next_start old.outside mid.outside cut.outside ran.halted old.left mid.left old.written ran.written_then ran.serves entry start lost (served_cut start.served) in
    record {
      mid = mid;
      cut = cut;
      inputs = (refl, refl);
      same = (refl, refl, refl);
      exits = (c.run_volumes-status.ensures.exits, c.run_volumes-other.ensures.exits);
      one = serving;
      lost = c.lose_power.ensures.left;
      two = other;
      goes_on = goes;
      free = all_free old.outside mid.outside ran.halted old.left mid.left old.written ran.written_then ran.serves
          (λ entry start block. IsFreeOn block (IsStart (Unit {0}) cut.outside) cut.outside new.outside other.ran.halted cut.left new.left cut.written other.ran.written_then other.ran.serves (goes entry start).0 (goes entry start).1)
          (λ entry start. record {
            next = (goes entry start).0;
            fresh = (goes entry start).1.session;
            ends = (goes entry start).2;
            later = λ block apart free. free_on block cut.outside new.outside other.ran.halted cut.left new.left cut.written other.ran.written_then other.ran.serves (goes entry start).0 (goes entry start).1 apart free;
          });
      grew = first.grew;
      more = second.grew;
      drew = drew_then old.outside.drawn mid.outside.drawn new.outside.drawn first.grew second.grew first.drew second.drew;
      discloses = λ entry start keys kept premises.
          let ended = ended_with old.outside mid.outside ran.halted old.left mid.left old.written ran.written_then ran.serves entry start in
          let both = both_disclose old.outside.drawn mid.outside.drawn new.outside.drawn old.outside.history mid.outside.history cut.outside.history new.outside.history first second entry.device ended.0 lost start.stands start.served
          ended.1 (served_cut start.served) keys kept in
          let on = both_on keys first.grew second.grew old.outside.history mid.outside.history cut.outside.history new.outside.history both lost premises in (
            on,
            served_stay keys first.grew second.grew old.outside mid.outside cut.outside.history new.outside.history ran.halted old.left mid.left old.written ran.written_then ran.serves on both.one.kept both.first premises,
          );
    }

pub returns-clause-fits : goal.returns-clause-fits
returns-clause-fits g c there stands served =
    let one = c.run_volumes-status.new in
    let old = in_memory g.T.Tape g.I.Source g.O.Sink g.L.Sink c.args.platform.now c.args.tape.now c.args.first.now c.args.output.now c.args.ledger.now in
    let mid = in_memory g.T.Tape g.I.Source g.O.Sink g.L.Sink one.platform one.tape one.input one.output one.ledger in
    let ran = (c.run_volumes-status.ensures.serves refl).0.ran in
    let lost = c.lose_power.ensures.left.may in
    let ended = ended_with old.outside mid.outside ran.halted old.left mid.left old.written ran.written_then ran.serves (fresh_on old.outside there) (start_of old.outside there stands served) in
    let left = served_left (image_of_now one.platform) (image_of_now c.lose_power.new.platform) lost
    (During-now (mem_history c.args.platform.now) (mem_history one.platform) IsServedImage (c.run_volumes-status.ensures.stays.served tt served)) in
    leaves_last (g.L.Sink.written c.args.ledger.now) (g.L.Sink.written c.run_volumes-other.new.ledger) (mem_history c.args.platform.now).present (mem_history c.lose_power.new.platform) (mem_history c.run_volumes-other.new.platform)
    (leaves_then (g.L.Sink.written c.args.ledger.now) (g.L.Sink.written one.ledger) (g.L.Sink.written c.run_volumes-other.new.ledger)
    (mem_history c.args.platform.now) (mem_history one.platform) (mem_history c.lose_power.new.platform) (mem_history c.run_volumes-other.new.platform) (mem_history c.args.platform.now).present
    (c.run_volumes-status.ensures.ledger.fits tt (Some there) stands served) lost
    (c.run_volumes-other.ensures.ledger.fits tt (Some ended.0) (stands_left (image_of_now one.platform) (image_of_now c.lose_power.new.platform) (Some ended.0) lost ended.1) left))
