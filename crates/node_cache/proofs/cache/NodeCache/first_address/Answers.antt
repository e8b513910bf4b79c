use Rattle.std.proofs.Common.{refl, sym}
use Rattle.node_cache.proofs.SlotLaws.{first_of, none_first, none_in_first}
use Rattle.node_cache.proofs.cache.NodeCache.first_address.Goals as goal

pub returns-in_default-clause-none : goal.returns-in_default-clause-none
returns-in_default-clause-none c = rw (← c.self.view_is) (none_first c.self.inside.slots.entries (sym c.in_default.ensures))

pub returns-in-Some-node-clause-some : goal.returns-in-Some-node-clause-some
returns-in-Some-node-clause-some c = rw (← c.self.view_is) (
    let found = first_of c.self.inside.slots.entries (c.in-Some.field-0-0.now, c.in-Some.slot.now) c.in-Some-node.kept.now (sym c.in-Some.ensures) (sym c.in-Some-node.ensures) in
    (c.in-Some-node.kept.now, found.0, found.1, refl))

pub returns-in-None-clause-none : goal.returns-in-None-clause-none
returns-in-None-clause-none c = rw (← c.self.view_is) (none_in_first c.self.inside.slots.entries (c.in-Some.field-0-0.now, c.in-Some.slot.now) c.self.invariant.tied.full_first (sym c.in-Some.ensures) (sym c.in-None.ensures))
