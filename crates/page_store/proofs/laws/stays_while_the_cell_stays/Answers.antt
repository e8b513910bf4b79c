use Rattle.page_store.proofs.StandsLaws.{stands_during}
use Rattle.page_store.proofs.laws.stays_while_the_cell_stays.Goals as goal

pub returns : goal.returns
returns c = stands_during
