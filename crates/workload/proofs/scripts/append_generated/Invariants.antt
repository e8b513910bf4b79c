use Rattle.std.proofs.Common.{◌≡◌, ◌-◌, ◌++◌}
use Rattle.std.specs.Prelude.{flat_map}
use Rattle.workload.specs.Lines.{line_of}
use Rattle.workload.specs.Scripts.{generated_commands}
use Rattle.workload.proofs.scripts.append_generated.Given as goal

-- the lines so far and those that are left are all
abbrev pub invariant-lines : goal.invariant-lines
invariant-lines l = l.line ++ flat_map line_of (generated_commands l.draws (l.count - l.counter)) ≡ l.initial.line ++ flat_map line_of (generated_commands l.seed l.count)
