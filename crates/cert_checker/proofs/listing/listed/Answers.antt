use Rattle.cert_checker.proofs.ListingLaws.{listed_all, keys_ascend, keys_have}
use Rattle.cert_checker.proofs.listing.listed.Goals as goal

pub returns-clause-ascends : goal.returns-clause-ascends
returns-clause-ascends c = keys_ascend c.args.entries.now c.loop-addr.addrs (listed_all c.loop-addr.addrs c.loop-addr.addr-iterator _ c.in-None.ensures.steps.0 c.loop-addr.invariant) c.keys-addr-items.ensures.ordered

pub returns-clause-has : goal.returns-clause-has
returns-clause-has c = keys_have c.args.entries.now c.loop-addr.addrs (listed_all c.loop-addr.addrs c.loop-addr.addr-iterator _ c.in-None.ensures.steps.0 c.loop-addr.invariant)
