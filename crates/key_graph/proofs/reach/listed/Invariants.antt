use Rattle.std.proofs.Common.{◌≡◌, ◌++◌}
use Rattle.key_graph.proofs.reach.listed.Given as goal

abbrev pub invariant-loop-addr : goal.invariant-loop-addr
invariant-loop-addr l = l.addrs ++ l.addr-iterator ≡ l.found.keys
