use Rattle.medium_trace.proofs.Shown.{IsWhole-marked}
use Rattle.medium_trace.proofs.medium.MediumTrace.len.Goals as goal

pub returns-clause-whole : goal.returns-clause-whole
returns-clause-whole c = IsWhole-marked _ _ _ _ _ c.self.invariant c.self.view_is
