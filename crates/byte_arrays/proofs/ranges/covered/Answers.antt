use Rattle.std.proofs.Common.{arith}
use Rattle.byte_arrays.proofs.RangeLaws.{covered_is, is_covered}
use Rattle.byte_arrays.proofs.ranges.covered.Goals as goal

pub returns-clause-covered : goal.returns-clause-covered
returns-clause-covered c block = (
  (λ covered. let at = covered_is c.args.offset c.args.count block covered in (omega (arith, at.0, c.div_ceil.ensures), at.1)),
  (λ at. is_covered c.args.offset c.args.count block (omega (arith, at.0, c.div_ceil.ensures)) at.1),
)
