use Rattle.cert_codec.proofs.Lacks.{flat_cert}
use Rattle.cert_codec.proofs.laws.what_is_written_is_one_line.Goals as goal

pub returns : goal.returns
returns c = flat_cert
