use Rattle.device_course.proofs.FitsLaws.{fits_left}
use Rattle.device_course.proofs.a_fitting_ledger_survives_a_loss_of_power.Goals as goal

pub returns : goal.returns
returns c = fits_left
