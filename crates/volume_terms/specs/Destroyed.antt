-- What a destroyed volume leaves.
use Rattle.std.specs.Prelude.{◌≡◌, ◌≢◌, ◌⊎◌, ℕ, List, [], ◌∷◌, None, Contains}
use Rattle.std.specs.FinMap as map
use Rattle.sdbt_base.specs.Arrays.{Blocks, content_of}
use Rattle.device_course.specs.Held.{Held}
use Rattle.volume_table.specs.Tables.{IsTable, table_bytes}
use Rattle.volume_table.specs.declared.volume.Volume.{Volume}
use Rattle.volume_lines.specs.Grammar.{Spells}
use Rattle.volume_lines.specs.Lines.{Destroy}
use Rattle.volume_lines.specs.Replies.{Reply, Destroyed}
use Rattle.volume_terms.specs.Volumes.{IsTabled, IsNamed, IsBlockOf}

-- this is so, where the reply says that a volume was destroyed
abbrev pub IfDestroyed : Reply → Type 0 → Type 0
IfDestroyed (Destroyed number) Claim = Claim
IfDestroyed _ Claim = Unit {0}

-- of a device with so many blocks these map no such one, and it is in no volume of the table that its block 0 spells
pub record IsUnused (block : ℕ) (blocks : ℕ) (contents : Blocks) : Type 0 where
  pub unmapped : map.get contents block ≡ None
  pub table : List Volume
  pub is : IsTable blocks table
  pub spelled : content_of contents 0 ≡ table_bytes table
  pub lacks : (v : Volume) → Contains table v → IsBlockOf v block → ⊥

-- so it is of the blocks of the device, and of those of the session
pub record IsFree (block : ℕ) (held : Held) : Type 0 where
  pub device : IsUnused block held.device.blocks held.device.contents
  pub session : IsUnused block held.device.blocks held.session.contents

-- a volume has the block
abbrev pub IsInVolume : ℕ → Held → Type 0
IsInVolume block held = (table : List Volume) × IsTabled held table × (v : Volume) × Contains table v × IsBlockOf v block

-- it is free in each of these states, up to the first in which a volume has it again
abbrev pub IsFreeUntilTaken : ℕ → List Held → Type 0
IsFreeUntilTaken block [] = Unit {0}
IsFreeUntilTaken block (state ∷ states) = IsInVolume block state ⊎ (IsFree block state × IsFreeUntilTaken block states)

-- a volume has it in one of these states
abbrev pub IsTakenIn : ℕ → List Held → Type 0
IsTakenIn block [] = ⊥
IsTakenIn block (state ∷ states) = IsInVolume block state ⊎ IsTakenIn block states

-- the device has what the session had before, but for block 0, and none of the volume's blocks
pub record HasDestroyed (old : Held) (v : Volume) (new : Held) : Type 0 where
  pub gone : (block : ℕ) → IsBlockOf v block → map.get new.device.contents block ≡ None
  pub others : (block : ℕ) → block ≢ 0 → (IsBlockOf v block → ⊥) → map.get new.device.contents block ≡ map.get old.session.contents block

-- the line destroys a volume: nothing is left of it, and all of its blocks are free
pub record LeavesNothing (old : Held) (line : List ℕ) (new : Held) : Type 0 where
  pub name : List ℕ
  pub spelled : Spells line (Destroy name)
  pub table : List Volume
  pub tabled : IsTabled old table
  pub v : Volume
  pub named : IsNamed table name v
  pub destroyed : HasDestroyed old v new
  pub free : (block : ℕ) → IsBlockOf v block → IsFree block new
