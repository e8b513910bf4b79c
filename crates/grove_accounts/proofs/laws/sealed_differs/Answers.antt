use Rattle.grove_accounts.proofs.CertLaws as certs
use Rattle.grove_accounts.proofs.laws.sealed_differs.Goals as goal

pub returns : goal.returns
returns c = λ image root committed grove each nodes after added pages h more sealed adds written. certs.cert_differs image root committed grove each nodes after added pages h more sealed adds written
