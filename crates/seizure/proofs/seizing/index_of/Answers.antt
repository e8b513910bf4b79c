use Rattle.std.proofs.Common.{◌≡◌, ℕ, subst, arith}
use Rattle.seizure.specs.Index.{AreMarks}
use Rattle.seizure.proofs.seizing.index_of.Goals as goal

pub returns-clause-marks : goal.returns-clause-marks
returns-clause-marks g c = λ told.
    (let pages = (g.P.Platform.history c.args.platform.now).present.readable in
    let head = g.P.Platform.head c.args.platform.now in
    let all : c.loop-addr.addr ≡ head = omega (arith, c.head-addr-end.ensures.value) in
    c.sort.ensures.marks pages head (subst (λ (n : ℕ). AreMarks pages n c.loop-addr.index.marks.items) all (c.loop-addr.invariant.marks told)))
