use Rattle.cert_codec.proofs.RoundTrip.{one_cert}
use Rattle.cert_codec.proofs.laws.one_certificate.Goals as goal

pub returns : goal.returns
returns c = one_cert
