use Rattle.std.proofs.Common.{sym, ap, subst, ◌∙◌, slice_get}
use Rattle.node_cache.specs.Buckets.{MayHave}
use Rattle.node_cache.proofs.BucketLaws.{covers_with}
use Rattle.node_cache.proofs.buckets.note.Goals as goal

pub returns-clause-covers : goal.returns-clause-covers
returns-clause-covers c =
    let place = c.place_of-place in
    covers_with c.args.buckets.now c.args.addrs.now c.args.number c.args.addr place.result c.bucket_with.result place.ensures.place place.ensures.within c.requires.covers c.bucket_with.ensures.here
    (λ slot other differs listed at may. c.bucket_with.ensures.others slot other differs listed at (subst (λ b. MayHave b slot) (ap (slice_get c.args.buckets.now) place.ensures.place ∙ sym c.bucket_of-old.ensures) may))
