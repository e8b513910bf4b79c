use Rattle.std.proofs.Common.{◌≡◌, take}
use Rattle.node_cache.specs.Cached.{forgotten}
use Rattle.node_cache.proofs.cache.NodeCache.forget_all.Given as goal

abbrev pub invariant-loop-addr : goal.invariant-loop-addr
invariant-loop-addr l = l.self ≡ forgotten (take l.addr-index l.addrs) l.initial.self
