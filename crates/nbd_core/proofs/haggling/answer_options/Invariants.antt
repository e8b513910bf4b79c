use Rattle.std.specs.Prelude.{◌≡◌, ◌+◌, List, length}
use Rattle.nbd_lang.specs.Options.{OptionSent}
use Rattle.nbd_core.specs.Haggling.{AreOthers}
use Rattle.nbd_core.proofs.HaggleLaws.{Heard}
use Rattle.nbd_core.proofs.haggling.answer_options.Given as goal

abbrev pub invariant-options : goal.invariant-options
invariant-options g l = record {
  options : List OptionSent;
  heard : Heard l.size l.flags.no_zeroes (g.I.Source.left l.fn.input) (g.I.Source.left l.input) l.fn.intake l.intake (g.O.Sink.written l.fn.output) (g.O.Sink.written l.output) options;
  others : AreOthers options;
  open_yet : g.I.Source.ends l.input ≡ g.I.Source.ends l.fn.input;
  input : g.I.Source.faults l.input ≡ g.I.Source.faults l.fn.input;
  output : g.O.Sink.faults l.output ≡ g.O.Sink.faults l.fn.output;
}

abbrev pub decreases-options : goal.decreases-options
decreases-options g l = length l.intake.ahead + l.intake.left
