use Rattle.std.proofs.Common.{◌≡◌, ◌≤◌, take, length}
use Rattle.std.specs.List.{filter}
use Rattle.seizure.specs.declared.opened.Opened.{Opened}
use Rattle.seizure.specs.Opened.{is_node_kind}
use Rattle.seizure.proofs.opened.count_of_nodes.Given as goal

abbrev pub invariant-loop-item : goal.invariant-loop-item
invariant-loop-item l = record {
  counted : l.count ≡ length (filter (λ (o : Opened). is_node_kind o.kind) (take l.item-index l.opened));
  most : l.count ≤ l.item-index;
}
