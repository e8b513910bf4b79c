use Rattle.cert_checker.proofs.FirstLaws.{one_first, none_first}
use Rattle.cert_checker.proofs.laws.one_first.Goals as goal

pub returns-clause-one : goal.returns-clause-one
returns-clause-one c = one_first

pub returns-clause-none : goal.returns-clause-none
returns-clause-none c = none_first
