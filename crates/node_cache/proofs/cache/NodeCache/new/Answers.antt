use Rattle.node_cache.proofs.BucketLaws.{covers_blank}
use Rattle.std.proofs.Common.{◌≡◌, ◌∙◌, ap, arith, length, max, sym}
use Rattle.node_cache.specs.Cached.{cached}
use Rattle.node_cache.proofs.SlotLaws.{filled_more, filled_tied, filled_kept}
use Rattle.node_cache.proofs.cache.NodeCache.new.Goals as goal

pub loop-number-preserved : goal.loop-number-preserved
loop-number-preserved c =
    let more = filled_more c.loop-number.slots.entries c.loop-number.addrs.items c.loop-number.number c.loop-number.slots.cap (omega (arith, c.loop-number-test.true, c.loop-number.invariant.1)) c.loop-number.invariant.0 in
    rw (c.in_ok-put.ensures.entries, c.push_reserved.ensures.items, c.in_ok-new.ensures) (more, c.loop-number.invariant.1, c.push_reserved.ensures.capacity ∙ c.loop-number.invariant.2)

pub invariant_of-result : goal.invariant_of-result
invariant_of-result c =
    let filled = c.loop-number.invariant.0 in
    let size : length c.loop-number.addrs.items ≡ c.args.capacity = omega (arith, filled.as_many, c.loop-number-test.false, c.loop-number.auto.number-end) in
    record {
      tied = filled_tied c.loop-number.slots.entries c.loop-number.addrs.items c.loop-number.number filled;
      covers = covers_blank c.in_ok-buckets.buckets.items c.loop-number.addrs.items (λ slot within. filled.nones slot (omega (arith, within, filled.as_many)));
      room_is = c.loop-number.invariant.1 ∙ ap (max 1) (sym size);
      four_each = omega (arith, size, c.in_ok-buckets.ensures.count, c.in_ok-buckets.buckets.ok.0);
      no_address_more = omega (arith, size, c.loop-number.invariant.2);
      no_bucket_more = omega (arith, c.in_ok-buckets.ensures.count, c.in_ok-buckets.ensures.room, c.in_ok-buckets.buckets.ok.0);
    }

pub returns : goal.returns
returns c =
    let filled = c.loop-number.invariant.0 in
    let none = filled_kept c.loop-number.number c.loop-number.slots.entries filled.empty in
    let size : length c.loop-number.addrs.items ≡ c.args.capacity = omega (arith, filled.as_many, c.loop-number-test.false, c.loop-number.auto.number-end) in
    λ i. cached (size i) (none i)
