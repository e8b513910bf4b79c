use Rattle.cert_checker.proofs.FormatLaws.{format_fits as lemma}
use Rattle.cert_checker.proofs.laws.format_fits.Goals as goal

pub returns : goal.returns
returns c = lemma
