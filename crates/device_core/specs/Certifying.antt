-- What a format puts to the ledger.
use Rattle.std.specs.Prelude.{◌≡◌, ◌+◌, [], ◌∷◌, ℕ, List, None, length}
use Rattle.sdbt_base.specs.Traces.{Traced, NodeOver}
use Rattle.platform.specs.Image.{Image}
use Rattle.root_codec.specs.declared.root.Root.{Root}
use Rattle.key_graph.specs.Trace.{entry_in}
use Rattle.cert_maker.specs.Cert.{Cert}
use Rattle.cert_maker.specs.CertOf.{CertOf}
use Rattle.cert_codec.specs.Text.{entry, Fits as FitsText}
use Rattle.device_terms.specs.Certifying.{IsOfTrees}

-- a format's certificate, over an empty cell: that of no tree before it, of the tree after it, and of no data page
abbrev pub IsOfFormat : Image → Image → Root → Cert → Type 0
IsOfFormat old new root cert = (old.cell ≡ None) × IsOfTrees [] (length old.recorded) new.readable root [] cert

-- what a certificate says of an empty leaf
abbrev pub empty_leaf : ℕ → Traced
empty_leaf addr = record { addr = addr; trace = NodeOver [] }

-- the bytes are the entry of the certificate of a device's first root record, by which a tree comes to be of an empty leaf at this address, behind so many pages
pub record IsFirstEntry (addr : ℕ) (line : List ℕ) : Type 0 where
  pub cert : Cert
  pub in_text : FitsText cert
  pub is : line ≡ entry cert
  pub of : CertOf (entry_in []) (entry_in (empty_leaf addr ∷ [])) 0 addr addr (addr + 1) [] cert
