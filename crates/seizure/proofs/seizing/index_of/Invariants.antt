use Rattle.std.proofs.Common.{◌≡◌, ◌≤◌, ◌+◌}
use Rattle.seizure.specs.Index.{AreMarks, AreBelow, AreApart}
use Rattle.seizure.specs.Looks.{Looks}
use Rattle.seizure.proofs.seizing.index_of.Given as goal

abbrev pub invariant-loop-addr : goal.invariant-loop-addr
invariant-loop-addr g l = record {
  looks : Looks g.P.Platform l.fn.platform l.platform;
  quiet : g.P.Platform.faults l.platform ≡ g.P.Platform.faults l.fn.platform;
  marks : g.P.Platform.tells → AreMarks (g.P.Platform.history l.fn.platform).present.readable l.addr l.index.marks.items;
  below : AreBelow l.addr l.index.marks.items;
  apart : AreApart l.index.marks.items;
  reads : g.P.Platform.tells → g.P.Platform.reads l.platform ≤ g.P.Platform.reads l.fn.platform + l.addr;
}
