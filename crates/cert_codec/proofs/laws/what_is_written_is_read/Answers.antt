use Rattle.cert_codec.proofs.RoundTrip.{written_is_read}
use Rattle.cert_codec.proofs.laws.what_is_written_is_read.Goals as goal

pub returns : goal.returns
returns c = written_is_read
