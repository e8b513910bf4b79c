use Rattle.nbd_terms.proofs.ArrayOfLaws.{array_of-trimmed, array_of-not_trimmed}
use Rattle.nbd_terms.proofs.laws.trim_clears_the_blocks_it_covers.Goals as goal

pub returns-clause-covered : goal.returns-clause-covered
returns-clause-covered c = array_of-trimmed

pub returns-clause-elsewhere : goal.returns-clause-elsewhere
returns-clause-elsewhere c = array_of-not_trimmed
