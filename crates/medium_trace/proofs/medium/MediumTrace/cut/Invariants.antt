use Rattle.std.proofs.Common.{◌≡◌, take}
use Rattle.medium_trace.specs.Trace.{Tears}
use Rattle.medium_trace.proofs.medium.MediumTrace.cut.Given as goal

abbrev pub invariant-loop-addr : goal.invariant-loop-addr
invariant-loop-addr l = record {
  recorded : l.self.recorded ≡ l.initial.self.recorded;
  readable : Tears (take l.addr-index l.torn) l.initial.self.readable l.self.readable;
  synced : l.self.synced ≡ l.initial.self.synced;
}
