use Rattle.cert_codec.proofs.Torn.{no_first_part}
use Rattle.cert_codec.proofs.laws.no_first_part_is_read.Goals as goal

pub returns : goal.returns
returns c = no_first_part
