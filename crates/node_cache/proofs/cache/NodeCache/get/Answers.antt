use Rattle.std.proofs.Common.{refl}
use Rattle.node_cache.proofs.cache.NodeCache.get.Goals as goal

pub returns-else-use_again : goal.returns-else-use_again
returns-else-use_again c =
    let none = c.if-use_again.ensures.none (λ h. cc) in
    ((refl, λ n. tt, none), record { used = tt; found = tt; none = none.1; apart = c.if-use_again.ensures.apart })
