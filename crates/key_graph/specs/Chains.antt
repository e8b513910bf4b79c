-- Chains of opening: each yielded key is tried on every page.
use Rattle.std.specs.Prelude.{◌≡◌, ◌≢◌, ℕ, List, [], ◌∷◌, ◌++◌, Some, AllPairs, Contains, slice_get}
use Rattle.seal_record.specs.Sealing.{masked, Opens}
use Rattle.key_graph.specs.Opening.{kind_of, block_of, Yields}

-- an address, and a key for it
pub record Link : Type 0 where
  pub addr : ℕ
  pub key : List ℕ

abbrev pub link : ℕ → List ℕ → Link
link addr key = record { addr = addr; key = key }

-- the key opens the page at the address
pub record OpensAt (pages : List (List ℕ)) (at : Link) : Type 0 where
  pub page : List ℕ
  pub there : slice_get pages at.addr ≡ Some page
  pub opens : Opens at.key at.addr page

-- the key opens the page at the address, and yields this other key there
pub record YieldsAt (pages : List (List ℕ)) (at : Link) (other : List ℕ) : Type 0 where
  pub page : List ℕ
  pub there : slice_get pages at.addr ≡ Some page
  pub opens : Opens at.key at.addr page
  pub yields : Yields at.key page other

-- a chain over pages, whose first key may begin it: each key opens the page at its address, and yields the next one there
abbrev pub IsChain : List (List ℕ) → (List ℕ → Type 0) → List Link → Type 0
IsChain pages May [] = Unit {0}
IsChain pages May (at ∷ chain) = May at.key × OpensAt pages at × IsChain pages (YieldsAt pages at) chain

-- a chain from one of these keys ends there
pub record ChainEnds (keys pages : List (List ℕ)) (at : Link) : Type 0 where
  pub before : List Link
  pub chain : IsChain pages (Contains keys) (before ++ at ∷ [])

-- a chain from one of these keys ends at the address
abbrev pub Reached : List (List ℕ) → List (List ℕ) → ℕ → Type 0
Reached keys pages addr = (key : List ℕ) × ChainEnds keys pages (link addr key)

-- a chain from one of these keys ends at the address, and the body there has this kind and this block field
pub record ReachedBody (keys pages : List (List ℕ)) (addr kind block : ℕ) : Type 0 where
  pub key : List ℕ
  pub page : List ℕ
  pub ends : ChainEnds keys pages (link addr key)
  pub there : slice_get pages addr ≡ Some page
  pub kind_is : kind ≡ kind_of (masked key page)
  pub block_is : block ≡ block_of (masked key page)

-- no key stands twice in the list
abbrev pub Distinct : List (List ℕ) → Type 0
Distinct keys = AllPairs (λ a b. a ≢ b) keys

-- at each address one of the keys at most opens the page
abbrev pub OneOpener : List (List ℕ) → List (List ℕ) → Type 0
OneOpener keys pages =
    (addr : ℕ) (one other : List ℕ) → Contains keys one → Contains keys other
    → OpensAt pages (link addr one) → OpensAt pages (link addr other) → one ≡ other

-- the premises on keys: none stands twice in the list, and no two of them open one page
pub record KeyPremises (keys pages : List (List ℕ)) : Type 0 where
  pub distinct : Distinct keys
  pub one_opener : OneOpener keys pages
