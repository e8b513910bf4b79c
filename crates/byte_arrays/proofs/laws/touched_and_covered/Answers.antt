use Rattle.byte_arrays.proofs.RangeLaws.{touched_contains, covered_contains}
use Rattle.byte_arrays.proofs.laws.touched_and_covered.Goals as goal

pub returns-clause-touched : goal.returns-clause-touched
returns-clause-touched c = touched_contains

pub returns-clause-covered : goal.returns-clause-covered
returns-clause-covered c = covered_contains
