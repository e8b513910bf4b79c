use Rattle.device_core.proofs.AscendLaws.{AscendBelow}
use Rattle.device_core.proofs.surveying.are_ascending.Given as goal

abbrev pub invariant-loop-i : goal.invariant-loop-i
invariant-loop-i l = AscendBelow l.entries l.i
