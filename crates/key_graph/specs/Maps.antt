-- A map from addresses to keys that opening does not lead out of.
use Rattle.std.specs.Prelude.{◌≡◌, ◌≤◌, ◌↔◌, ℕ, List, Some, All, Contains, map, take, length, slice_get}
use Rattle.seal_record.specs.Sealing.{Opens}
use Rattle.key_graph.specs.Chains.{Link, OpensAt, YieldsAt, Reached}

abbrev pub keys_of : List Link → List (List ℕ)
keys_of links = map (λ l. l.key) links

abbrev pub addresses_of : List Link → List ℕ
addresses_of links = map (λ l. l.addr) links

-- each key of the map opens the page at its address, and yields only keys of the map there; each root is a key of the map, and each
-- address is the end of a chain from the roots
pub record IsClosed (pages roots : List (List ℕ)) (links : List Link) : Type 0 where
  pub opens : All (OpensAt pages) links
  pub yields : All (λ l. (key : List ℕ) → YieldsAt pages l key → Contains (keys_of links) key) links
  pub begins : All (Contains (keys_of links)) roots
  pub reached : All (λ l. Reached roots pages l.addr) links

-- each key of the map is in the list
abbrev pub AreListed : List (List ℕ) → List Link → Type 0
AreListed keys links = All (λ l. Contains keys l.key) links

-- chains from the roots end at exactly the addresses of the map
abbrev pub ReachesExactly : List (List ℕ) → List (List ℕ) → List Link → Type 0
ReachesExactly roots pages links = (addr : ℕ) → Reached roots pages addr ↔ Contains (addresses_of links) addr

-- the pages are the first ones of the others
abbrev pub AreFirst : List (List ℕ) → List (List ℕ) → Type 0
AreFirst pages longer = take (length pages) longer ≡ pages

-- each page behind the first ones is opened at its address by one of these keys
abbrev pub AreOpenedBy : List (List ℕ) → List (List ℕ) → List (List ℕ) → Type 0
AreOpenedBy keys pages longer =
    (addr : ℕ) (page : List ℕ) → length pages ≤ addr → slice_get longer addr ≡ Some page
    → (key : List ℕ) × Contains keys key × Opens key addr page
