use Rattle.folder_restart.proofs.StandingLaws.{stands_opened}
use Rattle.folder_restart.proofs.stands_when_opened.Goals as goal

pub returns : goal.returns
returns c = stands_opened
