use Rattle.std.proofs.Common.{ℕ, List, [], map, sym, subst, ap, ◌∙◌}
use Rattle.std.specs.Prelude.{Contains}
use Rattle.std.proofs.lemmas.Result.{err_from_is_err_and}
use Rattle.sdbt_base.specs.Keys.{bare}
use Rattle.seizure.specs.declared.work.Work.{Work}
use Rattle.seizure.specs.Work.{Gains, IsAllReached}
use Rattle.seizure.proofs.SearchLaws.{none_wanted, nothing_wanted, reported}
use Rattle.seizure.proofs.paging.seize_pages_all.Goals.{then-not-is_empty+in_ok-search, else-not-is_empty}
use Rattle.seizure.proofs.paging.seize_pages_all.Goals as goal

pub returns-clause-report : goal.returns-clause-report
returns-clause-report c =
    let keys = map bare c.args.keys.now in let pages = c.args.pages.now in
    let wanted = c.want_all.new.self in
    let gains : Gains [] wanted.keys (Contains keys) = subst (λ (l : List (List ℕ)). Gains l wanted.keys (Contains keys)) c.new-work.ensures.keys c.in_ok-want_all.ensures.keys in
    let all : IsAllReached keys pages c.if-not-is_empty.work.opened =
    elim c.if-not-is_empty.branch [
      | then-not-is_empty+in_ok-search w ↦ subst (λ (work : Work). IsAllReached keys pages work.opened) (sym w.work-is) (w.in_ok-search.ensures keys gains)
      | else-not-is_empty w ↦ subst (λ (work : Work). IsAllReached keys pages work.opened) (sym w.work-is)
          (none_wanted keys pages wanted.keys wanted.opened gains (c.is_empty.ensures.0 w.if-not-is_empty.false) (c.want_all.ensures.opened ∙ c.new-work.ensures.opened))
    ] in
    reported keys pages c.if-not-is_empty.work.opened c.into_report.result all c.into_report.ensures.opened (c.into_report.ensures.pages ∙ c.len.ensures.length)

pub returns-in_err-search-clause-memory : goal.returns-in_err-search-clause-memory
returns-in_err-search-clause-memory c =
    let keys = c.args.keys.now in let wanted = c.want_all.new.self in
    let gains : Gains [] wanted.keys (Contains (map bare keys)) = subst (λ (l : List (List ℕ)). Gains l wanted.keys (Contains (map bare keys))) c.new-work.ensures.keys c.in_ok-want_all.ensures.keys in
    let p = err_from_is_err_and c.from_residual-in_err-search.result c.from_residual-in_err-search.ensures.1 in
    rw p.1 (λ none.
    let empty = c.is_empty.ensures.1 (nothing_wanted wanted.keys (map bare keys) gains (ap (map bare) none)) in
    let some = c.if-not-is_empty.true in
    cc)
