use Rattle.workload.proofs.GeneratedLaws.{length-generated_commands, generated_are_ordinary}
use Rattle.workload.proofs.laws.generated_commands_are_ordinary.Goals as goal

pub returns-clause-count : goal.returns-clause-count
returns-clause-count c = length-generated_commands

pub returns-clause-ordinary : goal.returns-clause-ordinary
returns-clause-ordinary c = generated_are_ordinary
