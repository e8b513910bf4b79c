-- What a session and the platform stand for.
use Rattle.std.specs.Prelude.{◌≡◌, ◌≤◌, ℕ, List, Option, None, Some}
use Rattle.sdbt_base.specs.Arrays.{Device, Session as OpenSession, State}
use Rattle.sdbt_base.specs.declared.sinks.Sink.{Ghosts as SinkGhosts}
use Rattle.sdbt_base.specs.declared.tapes.Tape.{Ghosts as TapeGhosts}
use Rattle.platform.specs.declared.platforms.Platform.{Ghosts as PlatformGhosts}
use Rattle.platform.specs.Image.{Image}
use Rattle.platform.specs.History.{History}
use Rattle.page_store.specs.Stands.{Stands, IsSound}
use Rattle.device_session.specs.Holds.{Holds}
use Rattle.device_session.specs.Open.{is_touched}
use Rattle.device_session.specs.Keys.{HoldsListed}
use Rattle.device_terms.specs.Served.{IsServedImage}
use Rattle.device_session.specs.Sessions.{Session}

-- what there is beside a session: the moments of the platform, how many pages it has and can have, how often a page was read or the cell looked at, the keys that were drawn, and what the ledger has got
pub record Outside : Type 0 where
  pub history : History
  pub head : ℕ
  pub capacity : ℕ
  pub reads : ℕ
  pub drawn : Option (List (List ℕ))
  pub written : Option (List ℕ)

abbrev pub outside : History → ℕ → ℕ → ℕ → Option (List (List ℕ)) → Option (List ℕ) → Outside
outside history head capacity reads drawn written = record { history = history; head = head; capacity = capacity; reads = reads; drawn = drawn; written = written }

-- the same of a platform, a tape and a ledger
abbrev pub around : {S R Q : Type 0} → PlatformGhosts S → TapeGhosts R → SinkGhosts Q → S → R → Q → Outside
around P T L platform tape ledger = outside (P.history platform) (P.head platform) (P.capacity platform) (P.reads platform) (T.drawn tape) (L.written ledger)

-- pages are only added, and no more than there is room for
pub record IsLater (old new : Outside) : Type 0 where
  pub capacity : new.capacity ≡ old.capacity
  pub rises : old.head ≤ new.head
  pub within : new.head ≤ new.capacity

-- the session, if there is one, has over the image the array of the state's session; below it is the state's device
abbrev pub IsSessionOf : Option Session → Image → Option Device → Option OpenSession → Type 0
IsSessionOf None image device None = Unit {0}
IsSessionOf None image device (Some there) = ⊥
IsSessionOf (Some session) image device None = ⊥
IsSessionOf (Some session) image None (Some there) = ⊥
IsSessionOf (Some session) image (Some device) (Some there) = Holds session image device there.contents × (is_touched session ≡ there.touched)

-- the image stands for the state's device, and the session is the state's
pub record Represents (image : Image) (held : Option Session) (state : State) : Type 0 where
  pub device : Stands image state.device
  pub session : IsSessionOf held image state.device state.session

-- the same, and the cell can be served
pub record IsAt (image : Image) (held : Option Session) (state : State) : Type 0 where
  pub there : Represents image held state
  pub served : IsServedImage image

-- the image stands, and the session, if there is one, has no key that isn't listed
abbrev pub IsListed : Option Session → Image → List (List ℕ) → Type 0
IsListed None image keys = IsSound image
IsListed (Some session) image keys = HoldsListed session image keys
