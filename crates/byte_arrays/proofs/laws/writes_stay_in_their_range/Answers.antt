use Rattle.byte_arrays.proofs.ArrayLaws.{with_bytes-there, with_bytes-elsewhere}
use Rattle.byte_arrays.proofs.laws.writes_stay_in_their_range.Goals as goal

pub returns-clause-there : goal.returns-clause-there
returns-clause-there c = with_bytes-there

pub returns-clause-elsewhere : goal.returns-clause-elsewhere
returns-clause-elsewhere c = with_bytes-elsewhere
