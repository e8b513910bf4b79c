use Rattle.std.proofs.Common.{Some, sym, length, max, ◌∙◌}
use Rattle.std.proofs.Math.ListN.{set}
use Rattle.std.proofs.lemmas.List.{length-set}
use Rattle.node_cache.proofs.BucketLaws.{refilled}
use Rattle.node_cache.specs.Buckets.{Covers}
use Rattle.std.proofs.Common.{ap, arith, subst}
use Rattle.std.proofs.lemmas.Grind.{common_steps}
use Rattle.node_cache.specs.Cached.{cached_node, node_of}
use Rattle.node_cache.specs.Slots.{IsSlotFor}
use Rattle.node_cache.proofs.SlotLaws.{tied_after_put, cached_after_put}
use Rattle.node_cache.proofs.cache.NodeCache.put_node.Goals as goal

pub invariant_of-self : goal.invariant_of-self
invariant_of-self c =
    let addrs = c.self.inside.addrs.items in let n = c.slot_for-number.result in
    let all = refilled c.note.new.buckets c.self.inside.buckets.items c.self.inside.buckets.len c.self.inside.buckets.ok.0 (c.note.ensures.count ∙ ap length c.deref_mut.ensures.value) in
    let slot = subst (λ addrs. IsSlotFor c.self.inside.slots.entries addrs c.args.addr c.slot_for-number.result) c.deref-2.ensures.value c.slot_for-number.ensures in
    record {
      tied = tied_after_put c.self.inside.slots.entries c.fill.new.slots.entries c.self.inside.addrs.items c.slot_for-number.result (cached_node c.args.addr c.args.key.now (node_of c.args.level c.args.version c.args.entries.now)) c.self.invariant.tied slot (ap (λ m. m.entries) c.fill.ensures.written) c.fill.ensures.distinct;
      covers = subst (λ bs. Covers bs (set addrs n (Some c.args.addr))) (sym all) (subst (λ l. Covers c.note.new.buckets (set l n (Some c.args.addr))) c.deref-3.ensures.value c.note.ensures.covers);
      room_is = ap (λ m. m.cap) c.fill.ensures.written ∙ c.self.invariant.room_is ∙ ap (max 1) (sym (length-set addrs n (Some c.args.addr)));
      four_each = omega (arith, c.self.invariant.four_each, length-set addrs n (Some c.args.addr), ap length all, c.note.ensures.count, ap length c.deref_mut.ensures.value);
      no_address_more = omega (arith, c.self.invariant.no_address_more, length-set addrs n (Some c.args.addr));
      no_bucket_more = omega (arith, c.self.invariant.no_bucket_more, ap length all, c.note.ensures.count, ap length c.deref_mut.ensures.value);
    }

pub returns-clause-cached : goal.returns-clause-cached
returns-clause-cached c =
    let slot = subst (λ addrs. IsSlotFor c.self.inside.slots.entries addrs c.args.addr c.slot_for-number.result) c.deref-2.ensures.value c.slot_for-number.ensures in
    rw (← c.self.view_is) (cached_after_put c.self.inside.slots.entries c.fill.new.slots.entries c.self.inside.addrs.items c.slot_for-number.result (cached_node c.args.addr c.args.key.now (node_of c.args.level c.args.version c.args.entries.now)) (grind (arith, common_steps)) c.self.invariant.tied slot (ap (λ m. m.entries) c.fill.ensures.written))
