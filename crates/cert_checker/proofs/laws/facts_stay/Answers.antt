use Rattle.cert_checker.proofs.StepLaws.{facts_stay as lemma}
use Rattle.cert_checker.proofs.laws.facts_stay.Goals as goal

pub returns : goal.returns
returns c = lemma
