use Rattle.cert_checker.proofs.SuccessionLaws.{succession as lemma}
use Rattle.cert_checker.proofs.laws.succession.Goals as goal

pub returns : goal.returns
returns c = lemma
