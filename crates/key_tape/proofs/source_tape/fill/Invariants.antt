use Rattle.std.proofs.Common.{◌≡◌, length, ◌-◌, ◌≤◌, take}
use Rattle.sdbt_base.specs.Told.{Gave}
use Rattle.key_tape.proofs.source_tape.fill.Given as goal

abbrev pub invariant-takes : goal.invariant-takes
invariant-takes g l = record {
  within : l.filled ≤ length l.bytes;
  gave : Gave (g.S.Source.left l.initial.source) (take l.filled l.bytes) (g.S.Source.left l.source);
  quiet : g.S.Source.faults l.source ≡ g.S.Source.faults l.initial.source;
  open_yet : g.S.Source.ends l.source ≡ g.S.Source.ends l.initial.source;
}

abbrev pub decreases-takes : goal.decreases-takes
decreases-takes g l = length l.initial.bytes - l.filled
