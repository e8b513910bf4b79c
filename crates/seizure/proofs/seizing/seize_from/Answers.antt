use Rattle.std.proofs.Common.{◌≡◌, length, sym, subst, ap, ◌∙◌}
use Rattle.platform.proofs.Moments.{whole-now}
use Rattle.seizure.specs.declared.work.Work.{Work}
use Rattle.seizure.specs.Work.{IsAllReached}
use Rattle.seizure.proofs.SearchLaws.{none_wanted, reported}
use Rattle.seizure.proofs.seizing.seize_from.Goals.{then-not-is_empty+in_ok-search, else-not-is_empty}
use Rattle.seizure.proofs.seizing.seize_from.Goals as goal

pub returns-clause-report : goal.returns-clause-report
returns-clause-report g c = λ told roots gains.
    (let P = g.P.Platform in let start = c.args.platform.now in
    let pages = (P.history start).present.readable in
    let count : P.head start ≡ length pages = sym ((whole-now (P.history start)).as_many ∙ g.met.P.Platform.counts_pages told start) in
    let same : P.head c.if-not-is_empty.platform ≡ P.head start =
    elim c.if-not-is_empty.branch [
      | then-not-is_empty+in_ok-search w ↦ ap P.head w.platform-is ∙ w.in_ok-search.ensures.looks.head
      | else-not-is_empty w ↦ ap P.head w.platform-is
    ] in
    let all : IsAllReached roots pages c.if-not-is_empty.work.opened =
    elim c.if-not-is_empty.branch [
      | then-not-is_empty+in_ok-search w ↦ subst (λ (work : Work). IsAllReached roots pages work.opened) (sym w.work-is) (w.in_ok-search.ensures.reached told roots gains)
      | else-not-is_empty w ↦ subst (λ (work : Work). IsAllReached roots pages work.opened) (sym w.work-is)
          (none_wanted roots pages c.args.work.keys c.args.work.opened gains (c.is_empty.ensures.0 w.if-not-is_empty.false) c.requires.fresh)
    ] in
    reported roots pages c.if-not-is_empty.work.opened c.into_report.result all c.into_report.ensures.opened (c.into_report.ensures.pages ∙ c.head.ensures.value ∙ same ∙ count))
