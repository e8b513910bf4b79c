use Rattle.std.proofs.Common.{◌≡◌, None, Some, ap, sym, ◌∙◌}
use Rattle.node_cache.specs.declared.slots.CachedNode.{CachedNode}
use Rattle.node_cache.proofs.SlotLaws.{first_slot, some_slot}
use Rattle.node_cache.proofs.cache.NodeCache.latest.Goals as goal

pub returns-in_err-slot : goal.returns-in_err-slot
returns-in_err-slot c = rw (← c.self.view_is) (λ first others kept. absurd (some_slot c.self.inside.slots.entries first others kept (sym c.in_err-slot.ensures)))

pub returns-in_err-kept : goal.returns-in_err-kept
returns-in_err-kept c = rw (← c.self.view_is) (λ first others kept.
    let is : None ≡ Some first = c.in_err-kept.ensures ∙ first_slot c.self.inside.slots.entries first others (c.in_ok-slot.field-0-0.now, c.in_ok-slot.slot.now) c.self.invariant.tied.full_first kept (sym c.in_ok-slot.ensures) in
    cc)

pub returns : goal.returns
returns c = rw (← c.self.view_is) (λ first others kept.
    let is : Some c.in_ok-kept.kept.now ≡ Some first = c.in_ok-kept.ensures ∙ first_slot c.self.inside.slots.entries first others (c.in_ok-slot.field-0-0.now, c.in_ok-slot.slot.now) c.self.invariant.tied.full_first kept (sym c.in_ok-slot.ensures) in
    let same : c.in_ok-kept.kept.now ≡ first = cc in
    ap (λ (k : CachedNode). Some k.node) same)
