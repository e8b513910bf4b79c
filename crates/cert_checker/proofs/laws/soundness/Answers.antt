use Rattle.cert_checker.proofs.SoundLaws.{soundness as lemma}
use Rattle.cert_checker.proofs.laws.soundness.Goals as goal

pub returns : goal.returns
returns c = lemma
