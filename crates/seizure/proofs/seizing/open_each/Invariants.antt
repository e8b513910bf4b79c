use Rattle.std.proofs.Common.{◌≡◌, ◌≤◌, ◌+◌, take}
use Rattle.seizure.specs.Looks.{Looks}
use Rattle.seizure.specs.Work.{KnowsItsKeys, Tried}
use Rattle.seizure.proofs.seizing.open_each.Given as goal

abbrev pub invariant-loop-i : goal.invariant-loop-i
invariant-loop-i g l = record {
  looks : Looks g.P.Platform l.fn.platform l.platform;
  quiet : g.P.Platform.faults l.platform ≡ g.P.Platform.faults l.fn.platform;
  tried : g.P.Platform.tells → Tried (g.P.Platform.history l.fn.platform).present.readable l.key (take l.i l.addrs) l.fn.work l.work;
  known : KnowsItsKeys l.work;
  reads : g.P.Platform.tells → g.P.Platform.reads l.platform ≤ g.P.Platform.reads l.fn.platform + l.i;
}
