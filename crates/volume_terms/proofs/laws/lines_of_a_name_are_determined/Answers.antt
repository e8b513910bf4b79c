use Rattle.volume_terms.proofs.OwnLaws.{are_once, volume_once}
use Rattle.volume_terms.proofs.laws.lines_of_a_name_are_determined.Goals as goal

pub returns-clause-lines : goal.returns-clause-lines
returns-clause-lines c = are_once

pub returns-clause-volume : goal.returns-clause-volume
returns-clause-volume c = volume_once
