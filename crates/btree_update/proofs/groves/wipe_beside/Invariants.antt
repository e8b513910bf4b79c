use Rattle.std.proofs.Common.{◌≡◌, ◌<◌, ℕ}
use Rattle.std.specs.Prelude.{IfSome, option_map, slice_get}
use Rattle.btree_update.specs.LetGo.{IsWiped, AreAsWideBeside}
use Rattle.btree_update.proofs.groves.wipe_beside.Given as goal

abbrev pub invariant-loop-node : goal.invariant-loop-node
invariant-loop-node l = record {
  wiped : (k : ℕ) → k < l.node-index → IfSome (slice_get l.beside k) (λ node. IfSome node IsWiped);
  many : AreAsWideBeside l.fn.beside l.beside;
}
