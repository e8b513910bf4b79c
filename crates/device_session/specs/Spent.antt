-- A session of which nothing is left.
use Rattle.std.specs.Prelude.{◌≡◌, []}
use Rattle.btree_walk.specs.Readers.{IsWiped}
use Rattle.btree_update.specs.LetGo.{IsWipedGrove}
use Rattle.device_session.specs.Sessions.{Session}

-- nothing of what it read or sealed is in its buffers, no node in its cache, and no key in its tree
pub record HasNothing (session : Session) : Type 0 where
  pub wiped : IsWiped session.buffers session.node
  pub cache : session.cache.nodes ≡ []
  pub grove : IsWipedGrove session.grove
