use Rattle.std.proofs.Common.{◌≡◌, ℕ, length}
use Rattle.key_graph.specs.Trace.{entry_in}
use Rattle.cert_checker.specs.Rules.{or_else}
use Rattle.cert_checker.specs.Held.{live_of, traced_all}
use Rattle.cert_checker.proofs.updates.insert_all.Given as goal

abbrev pub invariant-loop-item : goal.invariant-loop-item
invariant-loop-item l = (q : ℕ) → or_else (entry_in (traced_all l.left.items) q) (live_of l.live q) ≡ or_else (entry_in (traced_all l.fn.added.items) q) (live_of l.fn.live q)

abbrev pub decreases-loop-item : goal.decreases-loop-item
decreases-loop-item l = length l.left.items
