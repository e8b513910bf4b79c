use Rattle.device_terms.proofs.ServedLaws.{serves_still, serves_turned}
use Rattle.device_terms.proofs.a_served_cell_stays_so.Goals as goal

pub returns-clause-still : goal.returns-clause-still
returns-clause-still c = λ old new during served. serves_still old new during served

pub returns-clause-turned : goal.returns-clause-turned
returns-clause-turned c = λ old new next turns served then. serves_turned old new next turns served then
