-- The bytes are a node's record exactly where head and payload are those of one.
use Rattle.node_codec.specs.Laws.{node_found, node_again, no_node_of_again}
use Rattle.node_codec.proofs.decoding.decode_node.Goals as goal

pub returns-clause-found : goal.returns-clause-found
returns-clause-found c = node_found _ _ c.args.version c.args.addr c.args.body.now _ _ c.split_at.ensures.front c.split_at.ensures.back c.node_of.ensures.found

pub returns-clause-again : goal.returns-clause-again
returns-clause-again c = node_again _ _ c.args.version c.args.addr c.args.body.now _ _ c.split_at.ensures.front c.split_at.ensures.back c.node_of.ensures.again

pub returns-clause-none : goal.returns-clause-none
returns-clause-none c = no_node_of_again _ _ c.args.version c.args.addr c.args.body.now (returns-clause-again c)
