use Rattle.std.proofs.Common.{◌≡◌, ◌*◌, List, ◌++◌, length, drop}
use Rattle.std.specs.List.{flat_map}
use Rattle.volume_table.specs.Tables.{IsTable, table_bytes, volume_bytes}
use Rattle.volume_table.specs.declared.volume.Volume.{Volume}
use Rattle.volume_table.proofs.TableLaws.{Continues}
use Rattle.volume_table.proofs.decoding.decode.Given as goal

-- the volumes so far, and each table with these bytes begins with them
abbrev pub invariant-loop-i : goal.invariant-loop-i
invariant-loop-i l = record {
  count : length l.table ≡ l.i;
  table : IsTable l.blocks l.table;
  spelled : flat_map volume_bytes l.table ++ drop (64 * l.i) l.bytes ≡ l.bytes;
  only : (other : List Volume) → IsTable l.blocks other → l.bytes ≡ table_bytes other → Continues l.table other (drop (64 * l.i) l.bytes);
}
