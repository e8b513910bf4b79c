use Rattle.byte_arrays.proofs.RangeLaws.{part_last}
use Rattle.byte_arrays.proofs.laws.parts_follow.Goals as goal

pub returns-clause-last : goal.returns-clause-last
returns-clause-last c = part_last
