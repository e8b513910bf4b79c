use Rattle.std.proofs.Common.{◌≡◌, ◌<◌, AllPairs, List, ℕ, rules, subst}
use Rattle.key_graph.proofs.SearchLaws.{keys_ascend}
use Rattle.key_graph.proofs.reach.listed.Goals as goal

pub returns-clause-ascending : goal.returns-clause-ascending
returns-clause-ascending c =
    let same : c.args.found.now.keys ≡ c.loop-addr.addrs = search rules in
    subst (λ (l : List ℕ). AllPairs (λ one next. one < next) l) same (keys_ascend c.args.found.now.keys c.into_iter-addr-iterator.ensures.into_iter_gives.4)
