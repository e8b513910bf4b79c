use Rattle.std.proofs.Common.{◌≡◌, ◌≤◌, take, length}
use Rattle.std.specs.Io.KnownBytes.{Consumes}
use Rattle.tpm_cell.proofs.std_tpm.take_reply.Given as goal

-- the front was read
abbrev pub invariant-loop : goal.invariant-loop
invariant-loop g l = record {
  same : length l.reply ≡ length l.fn.reply;
  bound : l.filled ≤ length l.reply;
  front : Consumes (g.R.Read.remaining l.fn.file) (g.R.Read.remaining l.file) (take l.filled l.reply);
}
