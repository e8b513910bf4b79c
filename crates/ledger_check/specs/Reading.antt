-- How far a ledger is read.
use Rattle.std.specs.Prelude.{◌≡◌, ℕ, List, ◌++◌}
use Rattle.text_lines.specs.Lines.{whole_lines_of, rest_of}
use Rattle.cert_maker.specs.Cert.{Cert}
use Rattle.cert_codec.specs.Ledger.{AreCertsOf}
use Rattle.ledger_check.specs.declared.reader.LedgerReader.{LedgerReader}

-- the certificates of some lines were fed to a checker
abbrev pub Fed : List (List ℕ) → List Cert → List Cert → Type 0
Fed lines before now = (certs : List Cert) × AreCertsOf lines certs × (now ≡ before ++ certs)

-- these bytes were read: the certificates of their whole lines were fed, and what follows the last line feed is kept
pub record HasRead (reader : LedgerReader) (taken : List ℕ) : Type 0 where
  pub certs : AreCertsOf (whole_lines_of taken) reader.checker
  pub line : reader.line.items ≡ rest_of taken
