use Rattle.device_session.proofs.CountLaws.{needs_none, needs_some}
use Rattle.device_session.proofs.laws.changes_need_pages.Goals as goal

pub returns-clause-none : goal.returns-clause-none
returns-clause-none c = λ session pages is untouched. needs_none session pages is untouched

pub returns-clause-some : goal.returns-clause-some
returns-clause-some c = λ session pages is touched. needs_some session pages is touched
