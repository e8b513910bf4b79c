use Rattle.std.proofs.Common.{◌≡◌, [], ◌+◌, get_or, sym, subst}
use Rattle.std.proofs.lemmas.Bool.Decides.{Decides-eqb, not_from_Decides}
use Rattle.std.proofs.lemmas.List.{get_or_default}
use Rattle.std.proofs.lemmas.Slice.Eq.{slice_eq-Decides}
use Rattle.seizure.specs.declared.index.Marked.{Marked}
use Rattle.seizure.proofs.IndexLaws.{HasHits, hit_more, hit_other, hits_all}
use Rattle.seizure.proofs.index.hits.Goals.{then-eq+in_ok-push, else-eq}
use Rattle.seizure.proofs.index.hits.Goals as goal

pub loop-mark-preserved : goal.loop-mark-preserved
loop-mark-preserved c =
    let marks = c.args.marks.now in let i = c.loop-mark.mark-index in
    let none : Marked = record { front = []; addr = 0 } in
    let mark : Marked = get_or marks i none in
    let here : (d : Marked) → get_or marks i d ≡ mark = λ d. get_or_default marks i d none c.loop-mark-test.true in
    elim c.if-eq.branch [
      | then-eq+in_ok-push w ↦ subst (HasHits marks c.args.front.now (i + 1)) (sym w.addrs-is)
          (hit_more marks c.args.front.now i c.loop-mark.addrs w.push.new.self mark c.loop-mark.invariant c.loop-mark-test.true here ((slice_eq-Decides Decides-eqb mark.front c.args.front.now c.eq.result c.eq.ensures).0 w.if-eq.true) w.in_ok-push.ensures)
      | else-eq w ↦ subst (HasHits marks c.args.front.now (i + 1)) (sym w.addrs-is) (hit_other marks c.args.front.now i c.loop-mark.addrs mark c.loop-mark.invariant here (not_from_Decides c.eq.result (slice_eq-Decides Decides-eqb mark.front c.args.front.now c.eq.result c.eq.ensures) w.if-eq.false))
    ]

pub returns-clause-hits : goal.returns-clause-hits
returns-clause-hits c = hits_all c.args.marks.now c.args.front.now c.loop-mark.addrs c.loop-mark.mark-index c.loop-mark.invariant c.loop-mark-test.false

pub returns-clause-once : goal.returns-clause-once
returns-clause-once c = c.loop-mark.invariant.once
