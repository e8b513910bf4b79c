use Rattle.std.proofs.Common.{arith}
use Rattle.byte_arrays.proofs.RangeLaws.{touched_is, is_touched}
use Rattle.byte_arrays.proofs.ranges.touched.Goals as goal

pub returns-clause-touched : goal.returns-clause-touched
returns-clause-touched c block = (
  (λ touched. let at = touched_is c.args.offset c.args.count block touched in (at.0, omega (arith, at.1))),
  (λ at. is_touched c.args.offset c.args.count block (omega (arith, c.if-count-eq0.false)) at.0 (omega (arith, at.1))),
)
