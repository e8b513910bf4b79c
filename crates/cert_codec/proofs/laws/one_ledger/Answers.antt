use Rattle.cert_codec.proofs.LedgerLaws.{one_ledger}
use Rattle.cert_codec.proofs.laws.one_ledger.Goals as goal

pub returns : goal.returns
returns c = one_ledger
