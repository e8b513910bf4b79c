use Rattle.std.proofs.Common.{◌≡◌, ◌*◌, ◌≤◌, length, take}
use Rattle.std.specs.List.{All, flat_map}
use Rattle.volume_table.specs.Tables.{volume_bytes}
use Rattle.volume_table.proofs.encoding.put_entries.Given as goal

-- the entries so far
abbrev pub invariant-loop-i : goal.invariant-loop-i
invariant-loop-i l = record {
  spelled : take (64 * l.i) l.out ≡ flat_map volume_bytes (take l.i l.volumes);
  names : All (λ v. length v.name ≤ 47) (take l.i l.volumes);
}
