use Rattle.nbd_terms.proofs.WritingLaws.{write_step, block_before}
use Rattle.nbd_terms.proofs.laws.parts_are_written.Goals as goal

pub returns-clause-step : goal.returns-clause-step
returns-clause-step c = write_step

pub returns-clause-before : goal.returns-clause-before
returns-clause-before c = block_before
