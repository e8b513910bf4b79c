use Rattle.std.proofs.Common.{◌≡◌, Some, ap, refl, subst, slice_get, ◌∙◌}
use Rattle.node_cache.specs.Slots.{IsUnlisted}
use Rattle.node_cache.proofs.SlotLaws.{tied_after_use, uses_after, none_unlisted, none_under_key}
use Rattle.node_cache.proofs.cache.NodeCache.use_again.Goals as goal

pub returns-in_default-clause-none : goal.returns-in_default-clause-none
returns-in_default-clause-none c =
    let unlisted = subst (λ l. IsUnlisted l c.args.addr) c.deref-2.ensures.value c.in_default.ensures.none in
    rw (← c.self.view_is) (λ not_kept. (refl, none_unlisted c.self.inside.slots.entries c.self.inside.addrs.items c.args.addr c.args.key.now c.self.invariant.tied unlisted))

pub invariant_of-self : goal.invariant_of-self
invariant_of-self c =
    let n = c.in-Some.number in
    let listed = subst (λ l. slice_get l n ≡ Some (Some c.args.addr)) c.deref-2.ensures.value c.in-Some.ensures.found in
    let kept = c.has_key-is_kept.ensures.0 c.if-is_kept.true in
    record {
      tied = tied_after_use c.self.inside.slots.entries c.use_slot.new.slots.entries c.self.inside.addrs.items n c.args.addr c.args.key.now kept.0 c.self.invariant.tied listed kept.1 (ap (λ m. m.entries) c.use_slot.ensures.used) c.use_slot.ensures.distinct;
      covers = c.self.invariant.covers;
      room_is = ap (λ m. m.cap) c.use_slot.ensures.used ∙ c.self.invariant.room_is;
      four_each = c.self.invariant.four_each;
      no_address_more = c.self.invariant.no_address_more;
      no_bucket_more = c.self.invariant.no_bucket_more;
    }

pub returns-then-is_kept-clause-used : goal.returns-then-is_kept-clause-used
returns-then-is_kept-clause-used c =
    let n = c.in-Some.number in
    let listed = subst (λ l. slice_get l n ≡ Some (Some c.args.addr)) c.deref-2.ensures.value c.in-Some.ensures.found in
    let kept = c.has_key-is_kept.ensures.0 c.if-is_kept.true in
    rw (← c.self.view_is) (λ is_kept. (kept.0.node, uses_after c.self.inside.slots.entries c.use_slot.new.slots.entries c.self.inside.addrs.items n c.args.addr c.args.key.now kept.0 c.self.invariant.tied listed kept.1 kept.2 (ap (λ m. m.entries) c.use_slot.ensures.used)))

pub returns-else-is_kept-clause-none : goal.returns-else-is_kept-clause-none
returns-else-is_kept-clause-none c =
    let n = c.in-Some.number in
    let listed = subst (λ l. slice_get l n ≡ Some (Some c.args.addr)) c.deref-2.ensures.value c.in-Some.ensures.found in
    rw (← c.self.view_is) (λ not_kept. (refl, none_under_key c.self.inside.slots.entries c.self.inside.addrs.items n c.args.addr c.args.key.now c.self.invariant.tied listed (λ kept. not_kept (c.has_key-is_kept.ensures.1 kept))))
