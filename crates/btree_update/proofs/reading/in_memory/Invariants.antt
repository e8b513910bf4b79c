use Rattle.std.proofs.Common.{◌≡◌, ◌<◌, take, vec_capacity}
use Rattle.btree_update.specs.Reading.{all_kept}
use Rattle.btree_update.proofs.reading.in_memory.Given as goal

abbrev pub invariant-loop-entry : goal.invariant-loop-entry
invariant-loop-entry l = record {
  so_far : l.children.items ≡ all_kept (take l.entry-index l.entry-items);
  room : 64 < vec_capacity l.children;
}
