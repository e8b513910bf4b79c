-- What a key yields on a page that it opens.
use Rattle.std.specs.Prelude.{◌≡◌, ◌==◌, ◌⊎◌, ◌<◌, ◌+◌, ◌*◌, ℕ, List, if◌then◌else◌, min, take, drop, slice_index}
use Rattle.std.specs.Int.{w16, w64, from_be_bytes}
use Rattle.seal_record.specs.Sealing.{masked}

-- so many bytes of a body, from a place on
abbrev pub part : ℕ → ℕ → List ℕ → List ℕ
part at size body = take size (drop at body)

-- the kind byte of a body
abbrev pub kind_of : List ℕ → ℕ
kind_of body = slice_index body 16

-- the block field of a body
abbrev pub block_of : List ℕ → ℕ
block_of body = from_be_bytes w64 (part 24 8 body)

-- the kind of a node, and how many bytes one of its entries has: with digests, more
abbrev pub IsNodeKind : ℕ → ℕ → Type 0
IsNodeKind kind size = ((kind ≡ 2) × (size ≡ 48)) ⊎ ((kind ≡ 3) × (size ≡ 80))

-- how many entries of this size a body has by its count: at most as many as there is room for
abbrev pub count_of : ℕ → List ℕ → ℕ
count_of size body = min (from_be_bytes w16 (part 18 2 body)) (if size == 80 then 51 else 85)

-- the key in one of the entries of a body, of this size: a digest stands behind it
abbrev pub key_in : ℕ → List ℕ → ℕ → List ℕ
key_in size body entry = part (size * entry + 48) 32 body

-- a key yields another on a page: under it the page is of the kind of a node, and one of its entries has the other key
pub record Yields (key page other : List ℕ) : Type 0 where
  pub entry : ℕ
  pub size : ℕ
  pub node : IsNodeKind (kind_of (masked key page)) size
  pub within : entry < count_of size (masked key page)
  pub here : other ≡ key_in size (masked key page) entry
