use Rattle.std.proofs.Common.{◌≡◌, ℕ, length, subst, arith}
use Rattle.seizure.specs.Index.{AreMarks}
use Rattle.seizure.proofs.paging.index_of.Goals as goal

pub returns-clause-marks : goal.returns-clause-marks
returns-clause-marks c =
    let pages = c.args.pages.now in
    let all : c.loop-i.i ≡ length pages = omega (arith, c.len-i-end.ensures.length) in
    c.sort.ensures.marks pages (length pages) (subst (λ (n : ℕ). AreMarks pages n c.loop-i.index.marks.items) all c.loop-i.invariant.marks)
