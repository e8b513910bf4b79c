-- The text of a certificate, which is JSON, and its entry in a ledger.
use Rattle.std.specs.Prelude.{◌≡◌, ◌<◌, ◌^◌, ℕ, List, [], ◌∷◌, ◌++◌, map, codes, Some, IsUtf8}
use Rattle.std.specs.List.{AllByRecursion}
use Rattle.serde_json.specs.Data.{Data, number, unsigned, array, object, member, no_members}
use Rattle.serde_json.specs.View.{items_of}
use Rattle.serde_json.specs.Read.{read}
use Rattle.serde_json.specs.Written.{compact_text}
use Rattle.sdbt_base.specs.declared.lists.Unkept.{Unkept}
use Rattle.sdbt_base.specs.Traces.{TraceEntry, Traced, DataOf, NodeOver}
use Rattle.cert_maker.specs.Cert.{Cert}

-- a whole number
abbrev pub whole : ℕ → Data
whole n = number (unsigned n)

-- an array of some things, each as this
abbrev pub array_of : {X : Type 0} → (X → Data) → List X → Data
array_of json xs = array (items_of (map json xs))

-- an array of whole numbers
abbrev pub numbers : List ℕ → Data
numbers = array_of whole

-- an added address: with 0 and its block where it is a data record, with 1 and its children where it is a node
abbrev pub row : ℕ → TraceEntry → List ℕ
row addr (DataOf block) = addr ∷ 0 ∷ block ∷ []
row addr (NodeOver children) = addr ∷ 1 ∷ children

abbrev pub added_json : Traced → Data
added_json traced = numbers (row traced.addr traced.trace)

-- a page that was never kept: its block and its address
abbrev pub never_json : Unkept → Data
never_json page = numbers (page.block ∷ page.addr ∷ [])

-- an object with the members of a certificate, which stand in the order of their names
abbrev pub cert_object : Data → Data → Data → Data → Data → Data → Data → Data
cert_object added base commit gone head never root =
    object (member (codes "added") added (member (codes "base") base (member (codes "commit") commit (member (codes "gone") gone
    (member (codes "head") head (member (codes "never") never (member (codes "root") root no_members)))))))

-- a certificate as JSON
abbrev pub cert_json : Cert → Data
cert_json cert =
    cert_object (array_of added_json cert.added) (whole cert.base) (whole cert.commit) (numbers cert.gone) (whole cert.head)
    (array_of never_json cert.never) (whole cert.root)

-- the bytes are JSON in UTF-8 that reads as the certificate. White space is allowed, and of a member that is named
-- more than once the last one counts
abbrev pub Spells : List ℕ → Cert → Type 0
Spells bytes cert = IsUtf8 bytes × (read bytes ≡ Some (cert_json cert))

-- a line feed, the certificate as JSON with no space in it, and a line feed
abbrev pub entry : Cert → List ℕ
entry cert = 10 ∷ (compact_text (cert_json cert) ++ 10 ∷ [])

-- what a trace says has numbers that fit eight bytes
abbrev pub TraceFits : TraceEntry → Type 0
TraceFits (DataOf block) = block < 2 ^ 64
TraceFits (NodeOver children) = AllByRecursion (λ child. child < 2 ^ 64) children

abbrev pub TracedFits : Traced → Type 0
TracedFits traced = (traced.addr < 2 ^ 64) × TraceFits traced.trace

abbrev pub PageFits : Unkept → Type 0
PageFits page = (page.block < 2 ^ 64) × (page.addr < 2 ^ 64)

-- each number of a certificate fits eight bytes
pub record Fits (cert : Cert) : Type 0 where
  pub commit : cert.commit < 2 ^ 64
  pub base : cert.base < 2 ^ 64
  pub head : cert.head < 2 ^ 64
  pub root : cert.root < 2 ^ 64
  pub added : AllByRecursion TracedFits cert.added
  pub gone : AllByRecursion (λ addr. addr < 2 ^ 64) cert.gone
  pub never : AllByRecursion PageFits cert.never
