use Rattle.nbd_terms.proofs.ArrayOfLaws.{array_of-written}
use Rattle.nbd_terms.proofs.laws.write_puts_its_bytes.Goals as goal

pub returns : goal.returns
returns c = array_of-written
