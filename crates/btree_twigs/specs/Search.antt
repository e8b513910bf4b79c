-- Where a search ends.
use Rattle.std.specs.Prelude.{◌≡◌, ℕ, Contains, ◌<◌, ◌≤◌, List, [], ◌∷◌, ◌++◌}
use Rattle.std.specs.List.{AllByRecursion}
use Rattle.btree_twigs.specs.Stubs.{Stub, datum}
use Rattle.btree_twigs.specs.declared.twigs.Spot.{Spot}
use Rattle.btree_twigs.specs.declared.twigs.Spot.TheVariants.{Found, Absent, Below}

-- of these places, those at the block are these: the ones before end there or before, the ones behind begin after it
pub record IsAt (block : ℕ) (stubs here : List Stub) : Type 0 where
  pub front : List Stub
  pub back : List Stub
  pub all : stubs ≡ front ++ (here ++ back)
  pub before : AllByRecursion (λ s. s.high ≤ block) front
  pub after : AllByRecursion (λ s. block < s.low) back

-- where the block is among these places
abbrev pub IsSpot : ℕ → List Stub → Spot → Type 0
IsSpot block stubs (Found addr key) = IsAt block stubs (datum block addr key ∷ [])
IsSpot block stubs Absent = IsAt block stubs []
IsSpot block stubs (Below level low high addr key) =
    (1 ≤ level) × (low ≤ block) × (block < high) × IsAt block stubs (record { level = level; low = low; high = high; addr = addr; key = key } ∷ [])

-- the data record of a block is among these places
abbrev pub HasDatum : ℕ → List Stub → Type 0
HasDatum block stubs = (addr : ℕ) × (key : List ℕ) × Contains stubs (datum block addr key)
