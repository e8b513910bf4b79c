use Rattle.std.proofs.Common.{rules, ◌≡◌, length, ap}
use Rattle.platform.specs.History.{History, moment}
use Rattle.sdbt_base.specs.Counts.{counts}
use Rattle.folder_platform.specs.Told.{past_of, told_by}
use Rattle.folder_platform.proofs.MomentLaws.{left_at}
use Rattle.folder_runs.proofs.Together.{told_answers, goes_on, fits_over, discloses_runs}
use Rattle.folder_runs.proofs.run_twice.Goals as goal

pub returns-clause-moments : goal.returns-clause-moments
returns-clause-moments g c n begun later earlier is opened left may =
    let was = c.args.platform.now in
    let now = c.run_main-status.new.platform in
    let old : History = told_by (g.C.PageCalls.start was.calls) (g.C.PageCalls.events was.calls) was.told in
    let four : moment old ≡ 4 = ap (λ events. length (past_of (g.C.PageCalls.start was.calls) events)) begun in
    left_at (g.C.PageCalls.start now.calls) (g.C.PageCalls.events now.calls) now.told now.once old four now.safe later earlier is opened left may

pub returns-clause-runs : goal.returns-clause-runs
returns-clause-runs g c told told' =
    let one = told_answers _ _ _ _ _ _ _ _ told (c.run_main-status.ensures.serves tt).answers in
    record {
      written_then = g.O.Sink.written c.run_main-status.new.output;
      one = one;
      two = told_answers _ _ _ _ _ _ _ _ told' (c.run_main-other.ensures.serves tt).answers;
      goes_on = λ there stands served. goes_on _ _ _ _ _ _ _ one there stands served;
    }

pub returns-clause-discloses : goal.returns-clause-discloses
returns-clause-discloses g c told told' at left o =
    discloses_runs _ _ (g.T.Tape.drawn c.args.tape.now) (g.T.Tape.drawn c.run_main-status.new.tape) (g.T.Tape.drawn c.run_main-other.new.tape) at left _ _ _ _ _ _ _ _ _ _ _ _ _
    told told' c.run_main-status.ensures.forgets.discloses c.run_main-other.ensures.forgets.discloses
    (told_answers _ _ _ _ _ _ _ _ told (c.run_main-status.ensures.serves tt).answers) (told_answers _ _ _ _ _ _ _ _ told' (c.run_main-other.ensures.serves tt).answers) o

pub returns-clause-fits : goal.returns-clause-fits
returns-clause-fits g c told told' there stands served left are is =
    fits_over _ (g.L.Sink.written c.args.ledger.now) (g.L.Sink.written c.run_main-status.new.ledger) (g.L.Sink.written c.run_main-other.new.ledger) _ _ _ _ _ _ _ _ _ left there
    told' (told_answers _ _ _ _ _ _ _ _ told (c.run_main-status.ensures.serves tt).answers) stands served are is (c.run_main-status.ensures.ledger.fits told there stands served) c.run_main-other.ensures.ledger.fits

pub returns-clause-causes : goal.returns-clause-causes
returns-clause-causes g c = record {
  between = counts 0 (g.T.Tape.faults c.run_main-status.new.tape) 0 (g.O.Sink.faults c.run_main-status.new.output) (g.L.Sink.faults c.run_main-status.new.ledger);
  one = record { words = search rules; blame = c.run_main-status.ensures.exits.blame };
  two = record { words = search rules; blame = c.run_main-other.ensures.exits.blame };
}
