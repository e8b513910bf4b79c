use Rattle.std.proofs.Common.{◌≡◌, ◌++◌, take, map}
use Rattle.device_core.proofs.certifying.with_records.Given as goal

abbrev pub invariant-loop-entry : goal.invariant-loop-entry
invariant-loop-entry l = l.addrs.items ≡ l.fn.nodes ++ map (λ e. e.addr) (take l.entry-index l.entries)
