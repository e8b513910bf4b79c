use Rattle.std.proofs.Common.{◌-◌, arith, rules}
use Rattle.workload.proofs.GeneratedLaws.{one_more, none_left}
use Rattle.workload.proofs.scripts.append_generated.Goals as goal

pub lines-preserved : goal.lines-preserved
lines-preserved c =
    one_more c.lines.line _ _ c.lines.draws c.next_step.new.draws c.args.count c.lines.counter _ (omega arith) c.next_step.ensures
    (search rules) c.lines.invariant

pub returns : goal.returns
returns c = none_left c.lines.line _ c.lines.draws (c.args.count - c.lines.counter) (omega arith) c.lines.invariant
