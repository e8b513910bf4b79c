-- The chain of a ledger's certificates, and when it is accepted.
use Rattle.std.specs.Prelude.{◌≡◌, ◌+◌, ◌==◌, ◌||◌, if◌then◌else◌, Bool, false, ℕ, List, [], ◌∷◌, Option, None, Some}
use Rattle.root_codec.specs.declared.root.Root.{Root}
use Rattle.page_store.specs.Tree.{Place}
use Rattle.cert_maker.specs.Cert.{Cert}
use Rattle.key_graph.specs.Trace.{Entries}
use Rattle.cert_maker.specs.Trace.{entries_of}
use Rattle.cert_checker.specs.Rules.{Keeps, after}

-- whether one of the certificates has number 0
abbrev pub has_first : List Cert → Bool
has_first [] = false
has_first (cert ∷ others) = (cert.commit == 0) || has_first others

-- from the last certificate with number 0 on, or all where there is none
unfoldable pub from_last_first : List Cert → List Cert
from_last_first [] = []
from_last_first (cert ∷ others) = if has_first others then from_last_first others else cert ∷ others

-- whether the list begins with a certificate of this number
abbrev pub begins_with : ℕ → List Cert → Bool
begins_with number [] = false
begins_with number (cert ∷ others) = cert.commit == number

-- of neighbours with the same number only the last
unfoldable pub last_of_each : List Cert → List Cert
last_of_each [] = []
last_of_each (cert ∷ others) = if begins_with cert.commit others then last_of_each others else cert ∷ last_of_each others

-- without the last certificate where that has this number
unfoldable pub without_last : ℕ → List Cert → List Cert
without_last number [] = []
without_last number (cert ∷ []) = if cert.commit == number then [] else cert ∷ []
without_last number (cert ∷ next ∷ others) = cert ∷ without_last number (next ∷ others)

-- of these certificates, those that stay for a root record with this number
abbrev pub picks : ℕ → List Cert → List Cert
picks number certs = without_last (number + 1) (last_of_each certs)

-- the chain of a ledger's certificates and the number of the root record
abbrev pub chain_of : List Cert → ℕ → List Cert
chain_of certs number = picks number (from_last_first certs)

-- the last certificate, or this one
abbrev pub last_or : Option Cert → List Cert → Option Cert
last_or former [] = former
last_or former (cert ∷ others) = last_or (Some cert) others

-- what is live after certificates
abbrev pub after_all : Entries → List Cert → Entries
after_all live [] = live
after_all live (cert ∷ others) = after_all (after live cert) others

-- each certificate keeps the rules, over what is live before it
abbrev pub EachKeeps : Entries → Option Cert → List Cert → Type 0
EachKeeps live former [] = Unit {0}
EachKeeps live former (cert ∷ others) = Keeps live former cert × EachKeeps (after live cert) (Some cert) others

-- before a chain nothing is live
abbrev pub nothing : Entries
nothing addr = None

-- what is live after a chain
abbrev pub live_after : List Cert → Entries
live_after chain = after_all nothing chain

-- 10: the chain isn't empty, and its last certificate has the root record's number, root node and head
pub record EndsAt (chain : List Cert) (root : Root) : Type 0 where
  pub last : Cert
  pub is : last_or None chain ≡ Some last
  pub number : last.commit ≡ root.commit
  pub top : last.root ≡ root.addr
  pub end : last.head ≡ root.head

-- no rule is broken
pub record Accepted (chain : List Cert) (root : Root) : Type 0 where
  pub each : EachKeeps nothing None chain
  pub ends : EndsAt chain root

-- the ledger's chain is accepted, and what is live after it are the entries of the tree
pub record Fits (certs : List Cert) (root : Root) (places : List Place) : Type 0 where
  pub accepted : Accepted (chain_of certs root.commit) root
  pub live : (addr : ℕ) → live_after (chain_of certs root.commit) addr ≡ entries_of places addr
