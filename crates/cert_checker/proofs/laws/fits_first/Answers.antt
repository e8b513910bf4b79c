use Rattle.cert_checker.proofs.FitsLaws.{fits_first as lemma}
use Rattle.cert_checker.proofs.laws.fits_first.Goals as goal

pub returns : goal.returns
returns c = lemma
