-- The first low tells of the lower bound, and the last one of the upper.
use Rattle.std.proofs.Common.{sym, ◌∙◌}
use Rattle.std.proofs.lemmas.Bool.{false≢true}
use Rattle.page_store.proofs.EndLaws.{first_tells, last_tells}
use Rattle.page_store.proofs.wants.Want.bounds.Goals as goal

pub returns-then-starts : goal.returns-then-starts
returns-then-starts c =
    let first = first_tells c.args.self.now.low c.args.entries.now c.requires in
    let last = last_tells c.args.self.now.high c.args.entries.now c.requires in
    (λ h. (first.0 (c.starts.ensures.0 c.if-starts.true), last.0 (c.ends.ensures.0 h)), λ all. c.ends.ensures.1 (last.1 all.1))

pub returns-else-starts : goal.returns-else-starts
returns-else-starts c =
    let first = first_tells c.args.self.now.low c.args.entries.now c.requires in
    (λ h. absurd (false≢true (sym c.if-starts.false ∙ h)), λ all. c.starts.ensures.1 (first.1 all.0))
