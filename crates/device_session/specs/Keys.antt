-- That a session's keys are listed.
use Rattle.std.specs.Prelude.{ℕ, List, Contains}
use Rattle.sdbt_base.specs.Arrays.{Device, Blocks}
use Rattle.sdbt_base.specs.Keys.{bare}
use Rattle.platform.specs.Image.{Image}
use Rattle.btree_twigs.specs.Stubs.{Stub}
use Rattle.btree_update.specs.Groves.{places_of}
use Rattle.grove_accounts.specs.Certs.{IsOwnStub}
use Rattle.device_session.specs.Sessions.{Session}
use Rattle.device_session.specs.Holds.{Holds}

-- the session holds an array over the image, and the key of each data record that it wrote and maps is listed
pub record HoldsListed (session : Session) (image : Image) (keys : List (List ℕ)) : Type 0 where
  pub device : Device
  pub contents : Blocks
  pub holds : Holds session image device contents
  pub listed : (s : Stub) → Contains (places_of session.grove) s → IsOwnStub session.root.head s → Contains keys (bare s.key)

-- what lists the session's keys lists them still
abbrev pub StaysListed : Image → Image → Session → Session → Type 0
StaysListed image after session now = (keys : List (List ℕ)) → HoldsListed session image keys → HoldsListed now after keys
