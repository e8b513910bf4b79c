use Rattle.std.proofs.Common.{◌∙◌, sym}
use Rattle.btree_twigs.specs.declared.twigs.Child.{out-Child}
use Rattle.btree_update.proofs.OpenLaws.{taken_up}
use Rattle.btree_update.proofs.opening.take_held.Goals as goal

pub returns-in-Some-clause-taken : goal.returns-in-Some-clause-taken
returns-in-Some-clause-taken c =
    taken_up (out-Child c.args.child.now) c.take_up.new.child c.args.held.now.items c.take_up.new.held.items c.low_of-low.result c.in-Some.addr
    (sym c.addr_of.ensures ∙ c.in-Some.is) c.low_of-low.ensures c.take_up.ensures.taken
