use Rattle.std.proofs.Common.{◌≡◌, ◌*◌, take}
use Rattle.std.specs.Prelude.{All}
use Rattle.std.specs.List.{flat_map}
use Rattle.sdbt_base.specs.Keys.{IsKeyOf, entry_size}
use Rattle.node_codec.specs.Record.{entry_bytes}
use Rattle.node_codec.proofs.entries.put_entries.Given as goal

-- the entries so far
abbrev pub invariant-loop-i : goal.invariant-loop-i
invariant-loop-i l = record {
  spelled : take (entry_size l.version * l.i) l.out ≡ flat_map entry_bytes (take l.i l.entries);
  keys : All (λ e. IsKeyOf l.version e.key) (take l.i l.entries);
}
