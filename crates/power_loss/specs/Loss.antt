-- What a loss of power leaves that tears pages.
use Rattle.std.specs.Prelude.{◌≡◌, ℕ, ◌<◌, ◌≤◌, List, Some, Contains, length, slice_get}
use Rattle.medium_trace.specs.Page.{zero_page}
use Rattle.platform.specs.Image.{Image, MayLeave}

-- a loss of power leaves this of an image: each page of the list that it may tear reads as zero bytes, and all else is as it was
pub record Tore (torn : List ℕ) (image left : Image) : Type 0 where
  pub may : MayLeave image left
  pub zeros : (addr : ℕ) → Contains torn addr → image.synced ≤ addr → addr < length image.recorded → slice_get left.readable addr ≡ Some zero_page
  pub others : (addr : ℕ) → ¬ (Contains torn addr) → slice_get left.readable addr ≡ slice_get image.readable addr
