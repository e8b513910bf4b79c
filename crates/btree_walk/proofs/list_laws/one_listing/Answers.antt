use Rattle.std.proofs.Common.{arith}
use Rattle.page_store.specs.Places.{root_want}
use Rattle.btree_walk.proofs.ShowsLaws.{first_wrong_is_wrong}
use Rattle.btree_walk.proofs.OneWalkLaws.{one_nodes, one_first_wrong, never_both}
use Rattle.btree_walk.proofs.list_laws.one_listing.Goals as goal

pub returns-clause-nodes : goal.returns-clause-nodes
returns-clause-nodes c = λ pages root one other fits. one_nodes pages root.order root.level (root_want root) root.key one other (omega (arith, fits.addr, fits.head))

pub returns-clause-wrong : goal.returns-clause-wrong
returns-clause-wrong c = λ pages root one other fits. one_first_wrong pages one other root.order root.level (root_want root) root.key (omega (arith, fits.addr, fits.head))

pub returns-clause-either : goal.returns-clause-either
returns-clause-either c = λ pages root nodes addr fits. never_both pages addr root.order root.level (root_want root) root.key nodes (omega (arith, fits.addr, fits.head))

pub returns-clause-is_wrong : goal.returns-clause-is_wrong
returns-clause-is_wrong c = λ pages root addr. first_wrong_is_wrong pages addr root.order root.level (root_want root) root.key
