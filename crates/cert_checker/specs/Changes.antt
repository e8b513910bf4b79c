-- What a change says of a certificate.
use Rattle.std.specs.Prelude.{◌≡◌}
use Rattle.cert_maker.specs.Cert.{Cert}
use Rattle.cert_checker.specs.declared.change.Change.{Change}
use Rattle.cert_checker.specs.Held.{traced_all}
use Rattle.cert_checker.specs.First.{added_addrs, never_addrs}

-- the change has the lists of the certificate
pub record IsOf (change : Change) (cert : Cert) : Type 0 where
  pub added : traced_all change.added.items ≡ cert.added
  pub addrs : change.addrs.items ≡ added_addrs cert
  pub gone : change.gone.items ≡ cert.gone
  pub never : change.never.items ≡ never_addrs cert
