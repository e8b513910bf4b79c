use Rattle.std.proofs.Common.{◌≡◌, ◌<◌, ℕ}
use Rattle.std.specs.Prelude.{IfSome, option_map, slice_get}
use Rattle.btree_update.specs.LetGo.{IsWiped, AreAsWide}
use Rattle.btree_update.proofs.groves.wipe_held.Given as goal

abbrev pub invariant-loop-twig : goal.invariant-loop-twig
invariant-loop-twig l = record {
  wiped : (k : ℕ) → k < l.twig-index → IfSome (slice_get l.held k) IsWiped;
  many : AreAsWide l.fn.held l.held;
}
