-- What two runs do with a loss of power between them.
use Rattle.std.proofs.Common.{ℕ, List, ◌++◌, Option, length, sym, subst}
use Rattle.platform.specs.Image.{Image, MayLeave}
use Rattle.platform.specs.History.{During, image_at}
use Rattle.platform.proofs.Moments.{During-now}
use Rattle.page_store.specs.Kept.{Kept}
use Rattle.page_store.specs.Disclosing.{DisclosesBy}
use Rattle.page_store.proofs.KeepingLaws.{drew_then}
use Rattle.page_store.proofs.KeptLaws.{kept_left}
use Rattle.page_store.proofs.DisclosingLaws.{discloses_on}
use Rattle.page_store.proofs.StandsLaws.{stands_left}
use Rattle.device_terms.specs.Served.{IsServedCell, IsServedImage}
use Rattle.sdbt_base.specs.Arrays.{State, Device, closed}
use Rattle.script_lang.specs.Answers.{IsMark}
use Rattle.script_lang.specs.Replies.{Reply}
use Rattle.device_cli.specs.World.{World}
use Rattle.device_cli.specs.Represents.{StandsFor}
use Rattle.device_cli.specs.Ran.{AnswersScript}
use Rattle.device_course.specs.Reaching.{DisclosesTree}
use Rattle.two_runs.specs.TwoRuns.{GoesOnFrom, GoesOn, GoesOnAnywhere, DisclosesTwice}

-- a cell that can be served still can
pub served_left : (image left : Image) → MayLeave image left → IsServedImage image → IsServedImage left
served_left image left lost served =
    subst (λ (cell : Option (List ℕ)). IsServedCell cell (length left.recorded)) (sym lost.cell)
    (subst (λ (pages : List (List ℕ)). IsServedCell image.cell (length pages)) (sym lost.recorded) served)

-- a run over an image that stands for a device which was passed
from_there : (entry : State) (lines : List (List ℕ)) (replies : List Reply) (mark : ℕ) (there : Option Device) (cut new : World) (status : ℕ) (left left_now written written_now : Option (List ℕ))
    → IsMark entry lines replies mark there → StandsFor cut.history.present there → IsServedImage cut.history.present
    → (run : AnswersScript (Unit {0}) cut new status left left_now written written_now)
    → GoesOnFrom entry lines replies mark cut new status run.lines run.replies run.part
from_there entry lines replies mark there cut new status left left_now written written_now is_mark stands served run =
    record { between = there; is_mark = is_mark; stands = stands; answered = run.answered tt there stands served }

-- what the second run finds
pub goes_on : (old mid cut new : World) (first second : ℕ) (left left_now other other_now written between_written written_now : Option (List ℕ))
    → (one : AnswersScript (Unit {0}) old mid first left left_now written between_written) → MayLeave mid.history.present cut.history.present
    → (two : AnswersScript (Unit {0}) cut new second other other_now between_written written_now)
    → (there : Option Device) → StandsFor old.history.present there → IsServedImage old.history.present → IsServedImage cut.history.present
    → GoesOn (closed there) one.lines one.replies cut new second two.lines two.replies two.part
goes_on old mid cut new first second left left_now other other_now written between_written written_now one lost two there stands served served_cut =
    let from = one.answered tt there stands served in
    record {
      ahead = from.ahead;
      one_ahead = from.one_ahead;
      mark = from.exits.mark;
      from = from.exits.from;
      goes = from_there (closed there) one.lines (one.replies ++ from.ahead) from.exits.mark from.exits.there cut new second other other_now between_written written_now
          from.exits.is_mark (stands_left mid.history.present cut.history.present _ lost from.exits.stands) served_cut two;
    }

-- what a run finds when the power was lost at some moment of the first
pub anywhere : (old mid : World) (first : ℕ) (left left_now written written_now : Option (List ℕ))
    → (one : AnswersScript (Unit {0}) old mid first left left_now written written_now)
    → (there : Option Device) → StandsFor old.history.present there → IsServedImage old.history.present → During old.history mid.history IsServedImage
    → GoesOnAnywhere (closed there) one.lines one.replies old mid
anywhere old mid first left left_now written written_now one there stands served during =
    let from = one.answered tt there stands served in
    record {
      ahead = from.ahead;
      one_ahead = from.one_ahead;
      mark = from.passes.mark;
      rises = from.passes.rises;
      within = from.passes.within;
      each = λ i start end cut new status given given_now put put_now lost run.
          let mark = from.passes.each i start end in
          from_there (closed there) one.lines (one.replies ++ from.ahead) (from.passes.mark i) mark.0 cut new status given given_now put put_now
          mark.1 (mark.2 cut.history.present lost) (served_left (image_at mid.history i) cut.history.present lost (during.each i start end)) run;
    }

-- what both runs disclose
pub discloses_twice : (drawn between drawn_now : Option (List (List ℕ))) (old mid cut new : World) (first : ℕ) (left left_now written written_now : Option (List ℕ))
    → (one : DisclosesTree (Unit {0}) drawn between old.history mid.history) → (two : DisclosesTree (Unit {0}) between drawn_now cut.history new.history)
    → AnswersScript (Unit {0}) old mid first left left_now written written_now → MayLeave mid.history.present cut.history.present
    → (IsServedImage old.history.present → IsServedImage cut.history.present)
    → DisclosesTwice drawn drawn_now old.history mid.history cut.history new.history
discloses_twice drawn between drawn_now old mid cut new first left left_now written written_now one two answers lost serves =
    let both : (device : Option Device) → StandsFor old.history.present device → IsServedImage old.history.present → (keys : List (List ℕ)) → Kept keys old.history.present
    → DisclosesBy keys one.grew old.history mid.history × DisclosesBy (keys ++ one.grew) two.grew cut.history new.history
    = λ device there served keys kept.
    let exits = (answers.answered tt device there served).exits in
    let a = one.only tt device there served keys kept in
    let after = During-now old.history mid.history (Kept (keys ++ one.grew)) a.kept in
    let stands : StandsFor cut.history.present exits.there = stands_left mid.history.present cut.history.present _ lost exits.stands in
    (a, two.only tt exits.there stands (serves served) (keys ++ one.grew) (kept_left (keys ++ one.grew) mid.history.present cut.history.present _ exits.stands after lost)) in
    record {
      one = one.grew;
      two = two.grew;
      drew = drew_then drawn between drawn_now one.grew two.grew one.drew two.drew;
      handed_first = one.handed tt;
      handed_second = two.handed tt;
      kept = λ device there served keys kept. During-now cut.history new.history (Kept ((keys ++ one.grew) ++ two.grew)) (both device there served keys kept).1.kept;
      only = λ device there served keys kept premises.
          let d = both device there served keys kept in
          discloses_on keys one.grew two.grew old.history mid.history cut.history new.history d.0 d.1 lost premises;
    }
