use Rattle.std.proofs.Common.{◌++◌, ◌∷◌, [], map, ap, refl, ◌∙◌, sym, append-nil, append_assoc}
use Rattle.node_cache.specs.Slots.{nodes_in}
use Rattle.node_cache.specs.declared.slots.CachedNode.{CachedNode}
use Rattle.node_cache.proofs.cache.NodeCache.addresses.Goals as goal

pub loop-slot-init : goal.loop-slot-init
loop-slot-init c = rw (← c.self.view_is, c.new-addrs.ensures, c.into_iter-slot-iterator.ensures.into_iter_gives, c.iter-slot-items.ensures.rest) refl

pub loop-slot-preserved-in-Continue-1 : goal.loop-slot-preserved-in-Continue-1
loop-slot-preserved-in-Continue-1 c =
    let left = rw (← c.in-Some-node.ensures) at c.in-Some.ensures.steps in
    c.loop-slot.invariant ∙ ap (λ es. c.loop-slot.addrs ++ map (λ (k : CachedNode). k.addr) (nodes_in es)) left ∙ rw c.in_ok-push.ensures (sym (append_assoc c.loop-slot.addrs (c.in-Some-node.kept.now.addr ∷ []) (map (λ (k : CachedNode). k.addr) (nodes_in c.next.new.self))))

pub loop-slot-preserved : goal.loop-slot-preserved
loop-slot-preserved c =
    let left = rw (← c.in_default.ensures) at c.in-Some.ensures.steps in
    c.loop-slot.invariant ∙ ap (λ es. c.loop-slot.addrs ++ map (λ (k : CachedNode). k.addr) (nodes_in es)) left

pub returns : goal.returns
returns c = sym (c.loop-slot.invariant ∙ ap (λ es. c.loop-slot.addrs ++ map (λ (k : CachedNode). k.addr) (nodes_in es)) c.in-None.ensures.steps.0 ∙ append-nil c.loop-slot.addrs)
