use Rattle.std.proofs.Common.{inr}
use Rattle.tpm_cell.proofs.tpm_cell.TpmCell.open.Goals as goal

pub returns-in-Err-clause-refused : goal.returns-in-Err-clause-refused
returns-in-Err-clause-refused g c = (c.read_index.new.tpm, inr (c.look.new.tpm, c.in_ok-look.ensures.usable, c.in-Err.ensures.failed))
