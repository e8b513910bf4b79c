use Rattle.std.proofs.Common.{drop}
use Rattle.node_codec.specs.Parts.{RangeFrom}
use Rattle.node_codec.proofs.entries.are_in_range.Given as goal

-- all are in range exactly where those that are left are, from the low on that may be next
abbrev pub invariant-loop-entry : goal.invariant-loop-entry
invariant-loop-entry l = record {
  so_far : RangeFrom l.version l.addr l.least (drop l.entry-index l.entries) → RangeFrom l.version l.addr 0 l.entries;
  left : RangeFrom l.version l.addr 0 l.entries → RangeFrom l.version l.addr l.least (drop l.entry-index l.entries);
}
