use Rattle.std.proofs.Common.{take}
use Rattle.seizure.specs.Work.{Tried}
use Rattle.seizure.proofs.paging.open_each.Given as goal

abbrev pub invariant-loop-i : goal.invariant-loop-i
invariant-loop-i l = Tried l.pages l.key (take l.i l.addrs) l.initial.work l.work
