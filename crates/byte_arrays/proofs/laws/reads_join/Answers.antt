use Rattle.byte_arrays.proofs.ArrayLaws.{bytes_at-append}
use Rattle.byte_arrays.proofs.laws.reads_join.Goals as goal

pub returns : goal.returns
returns c = bytes_at-append
