-- That each page has a key of its own.
use Rattle.std.specs.Prelude.{◌≡◌, ◌<◌, ℕ, List, Some, Contains, length, slice_get}
use Rattle.seal_record.specs.Sealing.{Opens}
use Rattle.key_graph.specs.Opening.{Yields}

-- the key at this position of the list opens the page at its address, and what it yields there is in the list
pub record IsSealed (keys : List (List ℕ)) (position addr : ℕ) (page : List ℕ) : Type 0 where
  pub key : List ℕ
  pub listed : slice_get keys position ≡ Some key
  pub opens : Opens key addr page
  pub yields : (other : List ℕ) → Yields key page other → Contains keys other

-- each page has a key of the list at a position of its own
pub record HaveOwnKeys (keys pages : List (List ℕ)) : Type 0 where
  pub position : ℕ → ℕ
  pub sealed : (addr : ℕ) (page : List ℕ) → slice_get pages addr ≡ Some page → IsSealed keys (position addr) addr page
  pub apart : (one other : ℕ) → one < length pages → other < length pages → position one ≡ position other → one ≡ other
