-- The volumes of a device with a session on it: the table that block 0 spells, and their arrays of blocks.
use Rattle.std.specs.Prelude.{◌≡◌, ◌+◌, ◌<◌, ◌≤◌, ◌⊎◌, ℕ, List, Option, None, Some, Contains, length, map, slice_get}
use Rattle.std.specs.List.{remove}
use Rattle.sdbt_base.specs.Arrays.{Blocks, content_of, written}
use Rattle.byte_arrays.specs.Ranges.{blocks_from}
use Rattle.device_course.specs.Held.{Held, trim_all}
use Rattle.volume_table.specs.Tables.{IsTable, IsLeastStart, IsPlaced, FitsAt, Lacks, table_bytes}
use Rattle.volume_table.specs.declared.volume.Volume.{Volume}

-- block 0 of the session's array spells this table of the device
pub record IsTabled (held : Held) (table : List Volume) : Type 0 where
  pub is : IsTable held.device.blocks table
  pub spelled : content_of held.session.contents 0 ≡ table_bytes table

-- the table has this volume, and this is its name
abbrev pub IsNamed : List Volume → List ℕ → Volume → Type 0
IsNamed table name v = Contains table v × (v.name ≡ name)

-- the block is one of the volume's
pub record IsBlockOf (v : Volume) (block : ℕ) : Type 0 where
  pub from : v.start ≤ block
  pub below : block < v.start + v.count

-- a table with one volume less
abbrev pub IsTaken : List Volume → Volume → List Volume → Type 0
IsTaken old v new = (at : ℕ) × (slice_get old at ≡ Some v) × (new ≡ remove old at)

-- a device of so many blocks can have a volume of this many
pub record IsCount (blocks count : ℕ) : Type 0 where
  pub least : 1 ≤ count
  pub most : count ≤ blocks

-- there are 64 volumes, or this many blocks that follow one another are free nowhere
abbrev pub HasNoRoom : ℕ → List Volume → ℕ → Type 0
HasNoRoom blocks table count = (length table ≡ 64) ⊎ ((start : ℕ) → FitsAt blocks table count start → ⊥)

-- the volume that a table gets by a name and a number of blocks, at the least block where it could begin; and the table with it
pub record IsNew (blocks : ℕ) (table : List Volume) (name : List ℕ) (count : ℕ) (v : Volume) (placed : List Volume) : Type 0 where
  pub named : v.name ≡ name
  pub counted : v.count ≡ count
  pub start : IsLeastStart blocks table count v.start
  pub room : length table < 64
  pub puts : IsPlaced table v placed
  pub is : IsTable blocks placed

-- the blocks of a volume, as an array
abbrev pub array_of : Blocks → Volume → List (List ℕ)
array_of contents v = map (λ block. content_of contents block) (blocks_from v.start v.count)

-- the array of the volume of this name, if the table has one
abbrev pub VolumeOf : List Volume → Blocks → List ℕ → Option (List (List ℕ)) → Type 0
VolumeOf table contents name None = Lacks table name
VolumeOf table contents name (Some array) = (v : Volume) × IsNamed table name v × (array ≡ array_of contents v)

-- the same of a device with a session on it
abbrev pub VolumeIn : Held → List ℕ → Option (List (List ℕ)) → Type 0
VolumeIn held name volume = (table : List Volume) × IsTabled held table × VolumeOf table held.session.contents name volume

-- this table is written to block 0, and then all blocks of this volume are trimmed
abbrev pub changed : Held → List Volume → Volume → Held
changed held table v = record held {
  session = trim_all (written held.session 0 (table_bytes table)) (blocks_from v.start v.count);
  pages = held.pages + 1;
  updates = held.updates + (1 + v.count);
}
