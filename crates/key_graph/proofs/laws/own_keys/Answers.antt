use Rattle.key_graph.proofs.OwnLaws.{own_none, own_more, own_first, own_page}
use Rattle.key_graph.proofs.laws.own_keys.Goals as goal

pub returns-clause-none : goal.returns-clause-none
returns-clause-none c = own_none

pub returns-clause-more : goal.returns-clause-more
returns-clause-more c = own_more

pub returns-clause-first : goal.returns-clause-first
returns-clause-first c = own_first

pub returns-clause-page : goal.returns-clause-page
returns-clause-page c = own_page
