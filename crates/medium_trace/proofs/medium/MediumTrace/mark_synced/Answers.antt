use Rattle.std.proofs.Common.{refl, arith}
use Rattle.medium_trace.proofs.Shown.{IsWhole-marked}
use Rattle.medium_trace.proofs.medium.MediumTrace.mark_synced.Goals as goal

pub returns-clause-whole : goal.returns-clause-whole
returns-clause-whole c =
    let is_marked = c.self.invariant in
    IsWhole-marked _ _ _ _ _ record { pages = is_marked.pages; as_many = is_marked.as_many; first = omega arith; within = omega arith } refl
