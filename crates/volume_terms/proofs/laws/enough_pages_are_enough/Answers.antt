use Rattle.volume_terms.proofs.CountingLaws.{none_short, lines_grow}
use Rattle.volume_terms.proofs.laws.enough_pages_are_enough.Goals as goal

pub returns-clause-enough : goal.returns-clause-enough
returns-clause-enough c = none_short

pub returns-clause-most : goal.returns-clause-most
returns-clause-most c = lines_grow
