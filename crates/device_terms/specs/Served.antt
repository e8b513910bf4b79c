-- Which images can be served.
use Rattle.std.specs.Prelude.{◌≡◌, ℕ, List, Option, None, Some, length}
use Rattle.platform.specs.Image.{Image}
use Rattle.root_codec.specs.declared.root.Root.{Root}
use Rattle.root_codec.specs.RootRecord.{root_bytes}
use Rattle.page_store.specs.Roots.{IsRootWithin}

-- an empty cell, or one whose record can be served while the medium has so many pages
abbrev pub IsServedCell : Option (List ℕ) → ℕ → Type 0
IsServedCell None pages = Unit {0}
IsServedCell (Some bytes) pages = (root : Root) × IsRootWithin pages root × (bytes ≡ root_bytes root)

-- an image whose cell can be served over its pages
abbrev pub IsServedImage : Image → Type 0
IsServedImage image = IsServedCell image.cell (length image.recorded)
