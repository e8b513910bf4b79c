use Rattle.key_graph.proofs.SeizureLaws.{chain_begins, chain_goes_on, chains_found, end_opens, keys_found}
use Rattle.key_graph.proofs.laws.chains_are_found.Goals as goal

pub returns-clause-begins : goal.returns-clause-begins
returns-clause-begins c = chain_begins

pub returns-clause-goes_on : goal.returns-clause-goes_on
returns-clause-goes_on c = chain_goes_on

pub returns-clause-all : goal.returns-clause-all
returns-clause-all c = chains_found

pub returns-clause-opens : goal.returns-clause-opens
returns-clause-opens c = end_opens

pub returns-clause-keys : goal.returns-clause-keys
returns-clause-keys c = keys_found
