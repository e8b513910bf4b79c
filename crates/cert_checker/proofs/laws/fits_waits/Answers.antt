use Rattle.cert_checker.proofs.FitsLaws.{fits_waits as lemma}
use Rattle.cert_checker.proofs.laws.fits_waits.Goals as goal

pub returns : goal.returns
returns c = lemma
