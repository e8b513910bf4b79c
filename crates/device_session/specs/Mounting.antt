-- What a session is after a mount.
use Rattle.std.specs.Prelude.{◌≡◌, ℕ, false, [], List, Some}
use Rattle.sdbt_base.specs.Arrays.{Device}
use Rattle.platform.specs.declared.platforms.Platform.{Ghosts}
use Rattle.root_codec.specs.RootRecord.{root_bytes}
use Rattle.page_store.specs.Stands.{Stands}
use Rattle.node_cache.specs.Cached.{cached}
use Rattle.device_session.specs.Sessions.{Session}
use Rattle.device_session.specs.Open.{IsOpen, AreDataPages, is_touched}
use Rattle.device_session.specs.Holds.{Holds}
use Rattle.device_session.specs.Keys.{HoldsListed}
use Rattle.device_session.specs.Damage.{Follows}

-- a session without changes was opened on the root record in the cell, with room for so many nodes in an empty cache
pub record Mounts {S : Type 0} (P : Ghosts S) (room : ℕ) (platform platform_now : S) (session : Session) : Type 0 where
  pub is_open : IsOpen session (P.head platform_now)
  pub untouched : is_touched session ≡ false
  -- it counts what the root record says, whatever the tree has
  pub mapped : session.mapped ≡ session.root.mapped
  pub pages : AreDataPages session []
  pub empty : session.cache ≡ cached room []
  pub found : P.tells → (P.history platform).present.cell ≡ Some (root_bytes session.root)
  pub follows : P.tells → Follows session (P.history platform_now).present
  pub holds : P.tells → (device : Device) → Stands (P.history platform).present (Some device) → Holds session (P.history platform_now).present device device.contents
  -- it wrote no data record, so that any keys are a list of its keys
  pub listed : P.tells → (device : Device) → Stands (P.history platform).present (Some device) → (keys : List (List ℕ)) → HoldsListed session (P.history platform_now).present keys
