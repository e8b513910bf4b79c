use Rattle.std.proofs.Common.{arith, max, sym}
use Rattle.std.proofs.lemmas.List.{length-set}
use Rattle.std.proofs.lemmas.Option.{slice_get_within}
use Rattle.node_cache.proofs.BucketLaws.{covers_without}
use Rattle.std.proofs.Common.{◌≡◌, ap, subst, ◌∙◌, nat_eq, None, Some, slice_get}
use Rattle.std.specs.Map.{keys_of, remove_entry}
use Rattle.std.specs.List.{IsDistinct}
use Rattle.lru.specs.LruCache.{demoted}
use Rattle.node_cache.specs.Slots.{IsUnlisted}
use Rattle.node_cache.proofs.SlotLaws.{tied_after_forget, cached_after_forget, cached_as_before, demoted_first}
use Rattle.node_cache.proofs.cache.NodeCache.forget.Goals as goal

pub invariant_of-self : goal.invariant_of-self
invariant_of-self c =
    let n = c.in-Some.number in let es = c.self.inside.slots.entries in let addrs = c.self.inside.addrs.items in
    let listed = subst (λ l. slice_get l n ≡ Some (Some c.args.addr)) c.deref-2.ensures.value c.in-Some.ensures.found in
    let filled = ap (λ m. m.entries) c.empty.ensures.written in
    let after = ap (λ m. m.entries) c.demote.ensures.entries ∙ ap (demoted (nat_eq n)) filled ∙ demoted_first n None (remove_entry (nat_eq n) es) in
    record {
      tied = tied_after_forget es c.demote.new.self.entries addrs n c.args.addr c.self.invariant.tied listed after (subst (λ l. IsDistinct nat_eq (keys_of l)) filled c.empty.ensures.distinct);
      covers = covers_without c.self.inside.buckets.items addrs n (slice_get_within addrs n (Some c.args.addr) listed) c.self.invariant.covers;
      room_is = ap (λ m. m.cap) c.demote.ensures.entries ∙ ap (λ m. m.cap) c.empty.ensures.written ∙ c.self.invariant.room_is ∙ ap (max 1) (sym (length-set addrs n None));
      four_each = omega (arith, c.self.invariant.four_each, length-set addrs n None);
      no_address_more = omega (arith, c.self.invariant.no_address_more, length-set addrs n None);
      no_bucket_more = c.self.invariant.no_bucket_more;
    }

pub returns-in-Some : goal.returns-in-Some
returns-in-Some c =
    let n = c.in-Some.number in let es = c.self.inside.slots.entries in let addrs = c.self.inside.addrs.items in
    let listed = subst (λ l. slice_get l n ≡ Some (Some c.args.addr)) c.deref-2.ensures.value c.in-Some.ensures.found in
    let filled = ap (λ m. m.entries) c.empty.ensures.written in
    let after = ap (λ m. m.entries) c.demote.ensures.entries ∙ ap (demoted (nat_eq n)) filled ∙ demoted_first n None (remove_entry (nat_eq n) es) in
    rw (← c.self.view_is) (cached_after_forget es c.demote.new.self.entries addrs n c.args.addr c.self.invariant.tied listed after)

pub returns-in_default : goal.returns-in_default
returns-in_default c =
    let unlisted = subst (λ l. IsUnlisted l c.args.addr) c.deref-2.ensures.value c.in_default.ensures.none in
    rw (← c.self.view_is) (cached_as_before c.args.addr c.self.inside.slots.entries c.self.inside.addrs.items c.self.invariant.tied unlisted)
