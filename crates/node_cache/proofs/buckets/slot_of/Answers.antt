use Rattle.std.proofs.Common.{◌≢◌, Some, None, sym, ap, subst, ◌∙◌, slice_get}
use Rattle.node_cache.specs.declared.buckets.Bucket.TheVariants.{Empty, One}
use Rattle.node_cache.specs.Slots.{IsUnlisted}
use Rattle.node_cache.proofs.BucketLaws.{unlisted_where, if_none}
use Rattle.node_cache.proofs.buckets.slot_of.Goals as goal

pub returns-in_default-clause-none : goal.returns-in_default-clause-none
returns-in_default-clause-none c = unlisted_where c.args.buckets.now c.args.addrs.now c.args.addr None (sym c.in_default.ensures) (λ slot may. absurd may) c.requires

pub returns-in-Empty-clause-none : goal.returns-in-Empty-clause-none
returns-in-Empty-clause-none c = unlisted_where c.args.buckets.now c.args.addrs.now c.args.addr (Some Empty) (sym c.in-Some.ensures ∙ ap Some c.in-Empty.is) (λ slot may. absurd may) c.requires

pub returns-in-One-clause-none : goal.returns-in-One-clause-none
returns-in-One-clause-none c =
    if_none (slice_get c.args.addrs.now c.in-One.number ≢ Some (Some c.args.addr)) (IsUnlisted c.args.addrs.now c.args.addr) c.find_in.result
    (λ differs. unlisted_where c.args.buckets.now c.args.addrs.now c.args.addr (Some (One c.in-One.number)) (sym c.in-Some.ensures ∙ ap Some c.in-One.is) (λ slot is. subst (λ s. slice_get c.args.addrs.now s ≢ Some (Some c.args.addr)) is differs) c.requires)
    c.find_in.ensures.none
