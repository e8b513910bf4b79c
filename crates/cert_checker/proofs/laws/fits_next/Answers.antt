use Rattle.cert_checker.proofs.FitsLaws.{fits_next as lemma}
use Rattle.cert_checker.proofs.laws.fits_next.Goals as goal

pub returns : goal.returns
returns c = lemma
