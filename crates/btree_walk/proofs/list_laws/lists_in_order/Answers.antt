use Rattle.btree_walk.proofs.OrderLaws.{root_ordered, root_within, tree_up_to}
use Rattle.btree_walk.proofs.list_laws.lists_in_order.Goals as goal

pub returns-clause-ordered : goal.returns-clause-ordered
returns-clause-ordered c = root_ordered

pub returns-clause-within : goal.returns-clause-within
returns-clause-within c = root_within

pub returns-clause-addrs : goal.returns-clause-addrs
returns-clause-addrs c = tree_up_to
