use Rattle.cert_codec.proofs.LedgerLaws.{entry_adds, part_adds}
use Rattle.cert_codec.proofs.laws.an_entry_adds_its_certificate.Goals as goal

pub returns : goal.returns
returns c = record { whole = entry_adds; part = part_adds }
