use Rattle.std.proofs.Common.{◌≡◌, ◌*◌, length, take}
use Rattle.std.specs.Prelude.{All}
use Rattle.std.specs.List.{flat_map}
use Rattle.sdbt_base.specs.Keys.{entry_size}
use Rattle.node_codec.specs.Record.{entry_bytes}
use Rattle.node_codec.specs.Parts.{IsEntry}
use Rattle.node_codec.proofs.entries.read_entries.Given as goal

-- the entries so far
abbrev pub invariant-loop-i : goal.invariant-loop-i
invariant-loop-i l = record {
  count : length l.entries.items ≡ l.i;
  spelled : take (entry_size l.version * l.i) l.payload ≡ flat_map entry_bytes l.entries.items;
  are : All (IsEntry l.version) l.entries.items;
}
