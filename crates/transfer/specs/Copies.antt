-- When a device is a copy of another one, and the way to it.
use Rattle.std.specs.Prelude.{◌≡◌, ◌⊎◌, ℕ, true, List, [], ◌∷◌, Option, None, Some}
use Rattle.std.specs.FinMap as map
use Rattle.sdbt_base.specs.Arrays.{Blocks, Device, Session as OpenSession, content_of, new_device}

-- the same blocks, order and contents; numbers and versions may differ
pub record IsCopy (device copy : Device) : Type 0 where
  pub blocks : copy.blocks ≡ device.blocks
  pub order : copy.order ≡ device.order
  pub contents : copy.contents ≡ device.contents

-- a device with as many blocks and of the same order that was never written
abbrev pub blank_of : Device → Device
blank_of device = new_device device.blocks device.order

-- such a one, of either version: a new device is of version 1, and one that was there may be of version 2
abbrev pub IsBlank : Device → Device → Type 0
IsBlank device there = there ≡ record (blank_of device) { version = there.version }

-- on the way to a copy: never written yet, or a copy
abbrev pub IsOnWay : Device → Option Device → Type 0
IsOnWay device None = ⊥
IsOnWay device (Some there) = IsBlank device there ⊎ IsCopy device there

-- as many blocks, and a tree of the same order
pub record IsAlike (device there : Device) : Type 0 where
  pub blocks : there.blocks ≡ device.blocks
  pub order : there.order ≡ device.order

-- there is a copy
abbrev pub HasCopy : Device → Option Device → Type 0
HasCopy device None = ⊥
HasCopy device (Some there) = IsCopy device there

-- there is none, or one of as many blocks and of the same order that was never written
abbrev pub IsFresh : Device → Option Device → Type 0
IsFresh device None = Unit {0}
IsFresh device (Some there) = IsBlank device there

-- another device, to which none is moved
abbrev pub IsOther : Device → Option Device → Type 0
IsOther device there = (HasCopy device there → ⊥) × (IsFresh device there → ⊥)

-- an array, with a block written as another array has it
abbrev pub copy_block : Blocks → OpenSession → ℕ → OpenSession
copy_block contents array block = record { contents = map.insert array.contents block (content_of contents block); touched = true }

-- and with these blocks, in their order
abbrev pub copied : Blocks → List ℕ → OpenSession → OpenSession
copied contents [] array = array
copied contents (block ∷ blocks) array = copied contents blocks (copy_block contents array block)
