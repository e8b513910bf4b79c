use Rattle.volume_terms.proofs.OwnLaws.{turn_blocks, turn_tabled}
use Rattle.volume_terms.proofs.laws.tables_stay.Goals as goal

pub returns-clause-blocks : goal.returns-clause-blocks
returns-clause-blocks c = turn_blocks

pub returns-clause-tabled : goal.returns-clause-tabled
returns-clause-tabled c = turn_tabled
