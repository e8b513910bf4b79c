-- Images whose readable pages were changed, and where that goes unnoticed.
use Rattle.std.specs.Prelude.{◌≡◌, ◌≢◌, ℕ, List, Some, length, slice_get}
use Rattle.platform.specs.Image.{Image}
use Rattle.page_digest.specs.Digest.{digest}
use Rattle.node_codec.specs.Record.{Record}
use Rattle.page_store.specs.Places.{IsRecordAt}

-- the same cell, recorded pages and number of synced ones; what reads give may differ
pub record IsChangeOf (image changed : Image) : Type 0 where
  pub cell : changed.cell ≡ image.cell
  pub recorded : changed.recorded ≡ image.recorded
  pub synced : changed.synced ≡ image.synced

-- a read of the address gives another page than the recorded one, of the same digest
pub record Collides (image : Image) (addr : ℕ) : Type 0 where
  pub page : List ℕ
  pub other : List ℕ
  pub there : slice_get image.readable addr ≡ Some page
  pub recorded : slice_get image.recorded addr ≡ Some other
  pub apart : page ≢ other
  pub same : digest page ≡ digest other

-- a record whose page reads as it was recorded, under a key with a digest, and what is a record of the same address and key where what
-- reads give was changed
pub record IsReadChanged (image changed : Image) (addr : ℕ) (key : List ℕ) (value other : Record) : Type 0 where
  pub change : IsChangeOf image changed
  pub long : length key ≡ 64
  pub recorded : slice_get image.readable addr ≡ slice_get image.recorded addr
  pub before : IsRecordAt image.readable addr key value
  pub after : IsRecordAt changed.readable addr key other
