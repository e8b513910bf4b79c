use Rattle.std.proofs.Common.{◌∙◌, refl, arith}
use Rattle.node_cache.proofs.CacheLaws.{forgotten-more, forgotten-all}
use Rattle.node_cache.proofs.cache.NodeCache.forget_all.Goals as goal

pub loop-addr-init : goal.loop-addr-init
loop-addr-init c = refl

pub loop-addr-preserved : goal.loop-addr-preserved
loop-addr-preserved c = c.forget.ensures ∙ forgotten-more c.loop-addr.addr-index _ c.args.addrs.now c.args.self.now c.loop-addr.self (omega arith) c.loop-addr.invariant

pub returns : goal.returns
returns c = c.loop-addr.invariant ∙ forgotten-all c.loop-addr.addr-index c.args.addrs.now c.args.self.now (omega arith)
