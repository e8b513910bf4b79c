use Rattle.std.specs.Prelude.{IfSome, IfNone}
use Rattle.std.specs.Borrow.{Bor}
use Rattle.std.proofs.Common.{◌≡◌, Option, None, Some, nat_eq, sym, subst, slice_get}
use Rattle.std.specs.Map.{lookup}
use Rattle.node_codec.specs.declared.body.NodeBody.{NodeBody}
use Rattle.node_cache.specs.declared.slots.CachedNode.{CachedNode}
use Rattle.node_cache.specs.Cached.{IsOnlyCached, IsCached}
use Rattle.node_cache.specs.Slots.{nodes_in, IsUnlisted}
use Rattle.node_cache.proofs.SlotLaws.{only_at_slot, none_unlisted, none_under_key}
use Rattle.node_cache.proofs.cache.NodeCache.peek.Goals as goal

found_then : (P Q : Bor NodeBody → Type 0) (r : Option (Bor NodeBody)) → ((n : Bor NodeBody) → P n → Q n) → IfSome r P → IfSome r Q
found_then P Q None f h = h
found_then P Q (Some n) f h = f n h

none_then : (P Q : Type 0) (r : Option (Bor NodeBody)) → (P → Q) → IfNone r P → IfNone r Q
none_then P Q None f h = f h
none_then P Q (Some n) f h = h

pub returns-in_default-clause-none : goal.returns-in_default-clause-none
returns-in_default-clause-none c =
    let unlisted = subst (λ l. IsUnlisted l c.args.addr) c.deref-2.ensures.value c.in_default.ensures.none in
    rw (← c.self.view_is) (none_unlisted c.self.inside.slots.entries c.self.inside.addrs.items c.args.addr c.args.key.now c.self.invariant.tied unlisted)

pub returns-clause-found : goal.returns-clause-found
returns-clause-found c =
    let es = c.self.inside.slots.entries in let addrs = c.self.inside.addrs.items in let n = c.in-Some.number in
    let listed = subst (λ l. slice_get l n ≡ Some (Some c.args.addr)) c.deref-2.ensures.value c.in-Some.ensures.found in
    rw (← c.self.view_is) (found_then _ _ c.node_under.result
    (λ node kept. subst (IsOnlyCached (nodes_in es) c.args.addr c.args.key.now) kept.3 (only_at_slot es addrs n c.args.addr c.args.key.now kept.0 c.self.invariant.tied listed kept.1 kept.2))
    c.node_under.ensures.some)

pub returns-clause-none : goal.returns-clause-none
returns-clause-none c =
    let es = c.self.inside.slots.entries in let addrs = c.self.inside.addrs.items in let n = c.in-Some.number in
    let listed = subst (λ l. slice_get l n ≡ Some (Some c.args.addr)) c.deref-2.ensures.value c.in-Some.ensures.found in
    rw (← c.self.view_is) (none_then _ _ c.node_under.result (λ none. none_under_key es addrs n c.args.addr c.args.key.now c.self.invariant.tied listed none) c.node_under.ensures.none)
