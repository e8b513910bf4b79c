-- The table of volumes, and its one spelling.
use Rattle.std.specs.Prelude.{◌≡◌, ◌≢◌, ℕ, ◌+◌, ◌-◌, ◌*◌, ◌^◌, ◌<◌, ◌≤◌, ◌⊎◌, List, [], ◌∷◌, ◌++◌, All, Some, length, replicate, slice_get, take, drop}
use Rattle.std.specs.Int.{w64, to_be_bytes}
use Rattle.std.specs.List.{concat, flat_map, AllPairs, insert}
use Rattle.volume_table.specs.Names.{IsName, name_bytes}
use Rattle.volume_table.specs.declared.volume.Volume.{Volume}

-- the 64 bytes of a volume's entry
unfoldable pub volume_bytes : Volume → List ℕ
volume_bytes v = concat (name_bytes v.name ∷ to_be_bytes w64 v.start ∷ to_be_bytes w64 v.count ∷ [])

-- the 4,096 bytes of a table: its entries, and zeros
abbrev pub table_bytes : List Volume → List ℕ
table_bytes table = flat_map volume_bytes table ++ replicate (4096 - 64 * length table) 0

-- what an entry can say
pub record FitsEntry (v : Volume) : Type 0 where
  pub name : IsName v.name
  pub start : v.start < 2 ^ 64
  pub count : v.count < 2 ^ 64

-- the range has blocks, and they are blocks of the device, but not its first
pub record IsInside (blocks : ℕ) (v : Volume) : Type 0 where
  pub start : 1 ≤ v.start
  pub count : 1 ≤ v.count
  pub within : v.start + v.count ≤ blocks

-- one range ends before the other begins
abbrev pub EndsBefore : Volume → Volume → Type 0
EndsBefore a b = a.start + a.count ≤ b.start

-- the table of a device of so many blocks
pub record IsTable (blocks : ℕ) (table : List Volume) : Type 0 where
  pub most : length table ≤ 64
  pub names : All (λ v. IsName v.name) table
  pub inside : All (IsInside blocks) table
  pub ordered : AllPairs EndsBefore table
  pub named : AllPairs (λ a b. a.name ≢ b.name) table

-- one can stand before the other
abbrev pub Leads : Volume → Volume → Type 0
Leads a b = EndsBefore a b × (a.name ≢ b.name)

-- a volume can stand behind all of a table
pub record Follows (blocks : ℕ) (table : List Volume) (v : Volume) : Type 0 where
  pub name : IsName v.name
  pub inside : IsInside blocks v
  pub led : All (λ a. Leads a v) table

-- no volume of the table has this name
abbrev pub Lacks : List Volume → List ℕ → Type 0
Lacks table name = All (λ v. v.name ≢ name) table

-- a range of so many blocks could begin here: it is on the device, and no volume has any of it
pub record FitsAt (blocks : ℕ) (table : List Volume) (count start : ℕ) : Type 0 where
  pub least : 1 ≤ start
  pub within : start + count ≤ blocks
  pub free : All (λ v. (start + count ≤ v.start) ⊎ (v.start + v.count ≤ start)) table

-- it could begin here, and nowhere before
pub record IsLeastStart (blocks : ℕ) (table : List Volume) (count start : ℕ) : Type 0 where
  pub fits : FitsAt blocks table count start
  pub least : (other : ℕ) → FitsAt blocks table count other → start ≤ other

-- a range can be put at this place of the table, and begin at the least block that it could begin at
pub record IsGap (blocks : ℕ) (table : List Volume) (count at start : ℕ) : Type 0 where
  pub place : at ≤ length table
  pub least : IsLeastStart blocks table count start
  pub before : All (λ v. v.start + v.count ≤ start) (take at table)
  pub behind : All (λ v. start + count ≤ v.start) (drop at table)

-- a table with one volume more
abbrev pub IsPlaced : List Volume → Volume → List Volume → Type 0
IsPlaced old v new = (at : ℕ) × (at ≤ length old) × (new ≡ insert old at v)

-- the volume at this place of the table has the block
abbrev pub Has : List Volume → ℕ → ℕ → Type 0
Has table i block = (v : Volume) × (slice_get table i ≡ Some v) × (v.start ≤ block) × (block < v.start + v.count)
