use Rattle.std.proofs.Common.{◌≡◌, ◌≤◌, take, length}
use Rattle.std.specs.Io.KnownBytes.{Consumes}
use Rattle.root_words.proofs.record_files.read_front.Given as goal

-- the front was read
abbrev pub invariant-loop : goal.invariant-loop
invariant-loop g l = record {
  same : length l.into ≡ length l.fn.into;
  bound : l.filled ≤ length l.into;
  front : Consumes (g.R.Read.remaining l.fn.reader) (g.R.Read.remaining l.reader) (take l.filled l.into);
}
