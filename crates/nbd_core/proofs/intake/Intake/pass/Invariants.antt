use Rattle.std.specs.Prelude.{◌≡◌, ◌+◌, List, ℕ, length, ◌++◌}
use Rattle.nbd_core.specs.Room.{Came, IsShorter}
use Rattle.nbd_core.proofs.intake.Intake.pass.Given as goal

abbrev pub invariant-loop-left : goal.invariant-loop-left
invariant-loop-left g l = record {
  gone : List ℕ;
  came : Came (g.I.Source.left l.fn.input) (g.I.Source.left l.input) l.fn.self l.self.left (IsShorter l.count) (gone ++ l.self.ahead);
  all : length gone + l.left ≡ l.count;
  open_yet : g.I.Source.ends l.input ≡ g.I.Source.ends l.fn.input;
  quiet : g.I.Source.faults l.input ≡ g.I.Source.faults l.fn.input;
}

abbrev pub decreases-loop-left : goal.decreases-loop-left
decreases-loop-left g l = l.left
