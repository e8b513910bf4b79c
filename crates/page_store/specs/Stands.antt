-- Which device an image stands for.
use Rattle.std.specs.Prelude.{◌≡◌, ◌≢◌, ◌<◌, ◌≤◌, ℕ, List, Option, None, Some, All, AllPairs, length, map, slice_get}
use Rattle.std.specs.FinMap.{from_entries}
use Rattle.sdbt_base.specs.Keys.{IsKeyOf}
use Rattle.platform.specs.Image.{Image}
use Rattle.root_codec.specs.declared.root.Root.{Root}
use Rattle.root_codec.specs.RootRecord.{FitsRoot, root_bytes}
use Rattle.sdbt_base.specs.Arrays.{Device}
use Rattle.page_store.specs.Tree.{Parts, Tree}

-- the blocks that a tree maps, each with its content
abbrev pub pairs_of : Parts → List (ℕ × List ℕ)
pairs_of parts = map (λ m. (m.block, m.content)) parts.mapped

-- the image's cell is this root record, and its tree has these parts, which are the device's
pub record StandsBy (image : Image) (device : Device) (root : Root) (parts : Parts) : Type 0 where
  pub cell : image.cell ≡ Some (root_bytes root)
  pub in_range : FitsRoot root
  pub key : IsKeyOf root.version root.key
  pub version : root.version ≡ device.version
  pub order : root.order ≡ device.order
  pub blocks : root.blocks ≡ device.blocks
  pub number : root.commit ≡ device.number
  pub head : root.head ≤ image.synced
  pub tree : Tree image.readable root parts
  pub apart : AllPairs (λ p q. p.addr ≢ q.addr) parts.places
  pub count : length parts.mapped ≡ root.mapped
  pub below : All (λ p. p.addr < root.head) parts.places
  pub recorded : All (λ p. slice_get image.readable p.addr ≡ slice_get image.recorded p.addr) parts.places
  pub contents : device.contents ≡ from_entries (pairs_of parts)

-- the image stands for the device: with an empty cell for none
abbrev pub Stands : Image → Option Device → Type 0
Stands image None = image.cell ≡ None
Stands image (Some device) = (root : Root) × (parts : Parts) × StandsBy image device root parts

-- the image stands for a device, or for none
abbrev pub IsSound : Image → Type 0
IsSound image = (device : Option Device) × Stands image device
