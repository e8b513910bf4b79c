use Rattle.std.proofs.Common.{ℕ, ◌≤◌, ◌+◌, ◌-◌, vec_len}
use Rattle.btree_twigs.specs.Updates.{HasSpares}
use Rattle.btree_update.specs.Holding.{AddsSpares}
use Rattle.btree_update.proofs.groves.make_spares.Given as goal

abbrev pub decreases-loop-alloc : goal.decreases-loop-alloc
decreases-loop-alloc l = l.level + 1 - vec_len l.spares

abbrev pub invariant-loop-alloc : goal.invariant-loop-alloc
invariant-loop-alloc l = record {
  each : (order : ℕ) → order ≤ 64 → HasSpares order 0 l.fn.spares.items → HasSpares order 0 l.spares.items;
  few : AddsSpares (l.level + 1) l.fn.spares.items l.spares.items;
}
