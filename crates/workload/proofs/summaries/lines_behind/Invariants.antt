use Rattle.std.proofs.Common.{◌-◌}
use Rattle.workload.proofs.TallyLaws.{IsPassing}
use Rattle.workload.proofs.summaries.lines_behind.Given as goal

-- those that are left are passed over
abbrev pub invariant-lines : goal.invariant-lines
invariant-lines l = IsPassing l.told l.initial.lines l.rest (l.initial.lines - l.counter)
