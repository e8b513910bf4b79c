use Rattle.device_session.proofs.CountLaws.{mapped_len}
use Rattle.device_session.proofs.laws.stands_under_session.Goals as goal

pub returns-clause-stands : goal.returns-clause-stands
returns-clause-stands c = λ session image device contents holds. (session.root, holds.committed, holds.stands)

pub returns-clause-numbers : goal.returns-clause-numbers
returns-clause-numbers c = λ session image device contents holds. (holds.stands.blocks, holds.stands.number)

pub returns-clause-untouched : goal.returns-clause-untouched
returns-clause-untouched c = λ session image device contents holds untouched. holds.untouched untouched

pub returns-clause-mapped : goal.returns-clause-mapped
returns-clause-mapped c = λ session image device contents head is holds. mapped_len session image device contents holds
