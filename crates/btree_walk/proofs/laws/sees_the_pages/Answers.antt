use Rattle.btree_walk.proofs.MappedLaws.{finds_page, stops_page, stands_over_still}
use Rattle.btree_walk.proofs.laws.sees_the_pages.Goals as goal

pub returns-clause-finds : goal.returns-clause-finds
returns-clause-finds c = finds_page

pub returns-clause-stops : goal.returns-clause-stops
returns-clause-stops c = stops_page

pub returns-clause-stays : goal.returns-clause-stays
returns-clause-stays c = stands_over_still
