use Rattle.std.proofs.Common.{◌≤◌, take, length}
use Rattle.std.specs.Io.KnownBytes.{Appends}
use Rattle.sdbt_base.proofs.transfers.write_whole.Given as goal

-- the front was written
abbrev pub invariant-loop : goal.invariant-loop
invariant-loop g l = record {
  bound : l.written ≤ length l.bytes;
  front : Appends (g.W.Write.contents l.fn.writer) (g.W.Write.contents l.writer) (take l.written l.bytes);
}
