-- What a session is over an image.
use Rattle.std.specs.Prelude.{◌≡◌, true, false, List, Contains, length}
use Rattle.std.specs.FinMap.{from_entries}
use Rattle.sdbt_base.specs.Arrays.{Device, Blocks}
use Rattle.platform.specs.Image.{Image}
use Rattle.page_store.specs.Tree.{Parts, joined}
use Rattle.page_store.specs.Stands.{StandsBy, pairs_of}
use Rattle.btree_walk.specs.Sights.{StandsOver}
use Rattle.btree_walk.specs.Among.{KeepsAmong}
use Rattle.grove_accounts.specs.Holding.{HoldsTree}
use Rattle.device_session.specs.Sessions.{Session}

-- the image stands for the device that the session was opened on, or that its last commit made; each place of the session's tree that has a
-- page fits, and the page reads as it was recorded; what it maps is an array of these contents: without a change the device's own, and after
-- one the page of the root record's node is let go of; and each node that is cached is what its page is, and has the address and the
-- key of a place of the root record's tree
pub record Holds (session : Session) (image : Image) (device : Device) (contents : Blocks) : Type 0 where
  pub committed : Parts
  pub stands : StandsBy image device session.root committed
  pub each : List Parts
  pub tree : HoldsTree image session.root committed.places session.grove each
  pub contents_are : contents ≡ from_entries (pairs_of (joined each))
  pub count : session.mapped ≡ length (joined each).mapped
  pub untouched : session.is_touched ≡ false → contents ≡ device.contents
  pub left : session.is_touched ≡ true → Contains session.grove.gone.items session.root.addr
  pub cached : StandsOver image.readable session.cache
  pub among : KeepsAmong committed.places session.cache
