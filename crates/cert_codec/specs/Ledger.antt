-- The certificates of a ledger.
use Rattle.std.specs.Prelude.{◌≡◌, ◌⊎◌, List, [], ◌∷◌, ℕ}
use Rattle.text_lines.specs.Lines.{lines_of}
use Rattle.cert_maker.specs.Cert.{Cert}
use Rattle.cert_codec.specs.Text.{Spells}

-- the certificates that these lines spell, in their order. A line that spells none is skipped
abbrev pub AreCertsOf : List (List ℕ) → List Cert → Type 0
AreCertsOf [] certs = certs ≡ []
AreCertsOf (line ∷ lines) certs =
    ((cert : Cert) × (others : List Cert) × Spells line cert × AreCertsOf lines others × (certs ≡ cert ∷ others))
    ⊎ (((cert : Cert) → ¬ Spells line cert) × AreCertsOf lines certs)

-- the certificates of a ledger's bytes. A last line may lack its line feed
abbrev pub IsLedger : List ℕ → List Cert → Type 0
IsLedger text = AreCertsOf (lines_of text)
