use Rattle.std.specs.Prelude.{◌≡◌, ◌-◌, length}
use Rattle.nbd_core.specs.Room.{Came, IsShorter}
use Rattle.nbd_core.proofs.intake.Intake.need.Given as goal

abbrev pub invariant-loop-self : goal.invariant-loop-self
invariant-loop-self g l = record {
  came : Came (g.I.Source.left l.fn.input) (g.I.Source.left l.input) l.fn.self l.self.left (IsShorter l.count) l.self.ahead;
  open_yet : g.I.Source.ends l.input ≡ g.I.Source.ends l.fn.input;
  quiet : g.I.Source.faults l.input ≡ g.I.Source.faults l.fn.input;
}

abbrev pub decreases-loop-self : goal.decreases-loop-self
decreases-loop-self g l = l.count - length l.self.ahead
