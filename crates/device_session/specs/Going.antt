-- What each call of a session says of it beside its purpose.
use Rattle.std.specs.Prelude.{◌≡◌, ◌≤◌, ◌+◌, ℕ, Result, OnErr}
use Rattle.platform.specs.Image.{Image}
use Rattle.btree_walk.specs.Sights.{ForgetsNone}
use Rattle.device_session.specs.Sessions.{Session}
use Rattle.device_session.specs.Open.{IsOpen, is_touched, needed_by}
use Rattle.device_session.specs.Damage.{Follows}

-- a session's cache has room for as many nodes as it had, and has forgotten nothing that there is room for
abbrev pub ForgetsNothing : Session → Session → Type 0
ForgetsNothing session now = ForgetsNone session.cache now.cache

-- after a call the session goes on: open on so many pages, on its root record, with a cache that has forgotten nothing; and where this is known it follows the
-- pages still, whatever they are
pub record GoesOn (Known : Type 0) (image after : Image) (pages : ℕ) (session now : Session) : Type 0 where
  pub follows : Known → Follows session image → Follows now after
  pub is_open : IsOpen now pages
  pub root : now.root ≡ session.root
  pub forgets : ForgetsNothing session now

-- an update makes a commit need 41 pages more at most; one that was refused leaves what it needs, whether something was changed, and how many blocks are counted
pub record Updates {E : Type 0} (session now : Session) (result : Result (Unit {0}) E) : Type 0 where
  pub needs : needed_by now ≤ needed_by session + 41
  pub needs_still : OnErr result (needed_by now ≡ needed_by session)
  pub touched_still : OnErr result (is_touched now ≡ is_touched session)
  pub mapped_still : OnErr result (now.mapped ≡ session.mapped)
