use Rattle.std.proofs.Common.{◌≡◌, ◌+◌, ◌++◌, map, drop}
use Rattle.node_codec.specs.declared.body.Entry.{Entry}
use Rattle.tree_build.specs.Nodes.{data_from}
use Rattle.tree_build.proofs.planning.plan_data.Given as goal

abbrev pub invariant-loop-entry : goal.invariant-loop-entry
invariant-loop-entry l = record {
  addr : l.addr ≡ l.base + l.entry-index;
  added : l.added ++ data_from l.addr (map (λ (e : Entry). e.low) (drop l.entry-index l.entries)) ≡ l.initial.added ++ data_from l.base (map (λ (e : Entry). e.low) l.entries);
}
