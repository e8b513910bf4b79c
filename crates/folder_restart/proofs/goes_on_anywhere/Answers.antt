use Rattle.folder_restart.proofs.StandingLaws.{goes_on}
use Rattle.folder_restart.proofs.goes_on_anywhere.Goals as goal

pub returns : goal.returns
returns c = goes_on
