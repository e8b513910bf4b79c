use Rattle.std.proofs.Common.{◌≡◌, ◌-◌, ◌+◌, ℕ, suc, List, ap, sym, subst, arith}
use Rattle.workload.proofs.TallyLaws.{IsPassing, passing_one, passing_end}
use Rattle.workload.proofs.summaries.lines_behind.Goals as goal
use Rattle.workload.proofs.summaries.lines_behind.Goals.{in-Some, in_default}

pub lines-preserved : goal.lines-preserved
lines-preserved c =
    let told = c.args.told.now in
    let rest = c.lines.rest.now in
    let lines = c.args.lines in
    let left = lines - (c.lines.counter + 1) in
    let one : lines - c.lines.counter ≡ suc left = omega (arith, c.lines-test.true) in
    let before : IsPassing told lines rest (suc left) = subst (λ (n : ℕ). IsPassing told lines rest n) one c.lines.invariant in
    let After : List ℕ → Type 0 = λ rest. IsPassing told lines rest left in
    elim c.match-split_line.branch [
      | in-Some w ↦
          let is : w.in-Some.behind.now ≡ c.match-split_line.rest.now = ap (λ r. r.now) (sym w.rest-is) in
          subst After is (passing_one told rest _ w.in-Some.behind.now lines left w.in-Some.ensures.found.0 w.in-Some.ensures.found.1 before)
      | in_default w ↦
          let is : rest ≡ c.match-split_line.rest.now = ap (λ r. r.now) (sym w.rest-is) in
          subst After is (passing_end told rest lines left w.in_default.ensures.none before)
    ]
