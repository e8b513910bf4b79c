-- What a run works on.
use Rattle.std.specs.Prelude.{◌≡◌, ℕ, ◌+◌, ◌-◌, ◌*◌, ◌≤◌, Bool, nat_lt, List, Option, None, Some}
use Rattle.sdbt_base.specs.Arrays.{State}
use Rattle.sdbt_base.specs.declared.tapes.Tape.{Ghosts as TapeGhosts}
use Rattle.platform.specs.History.{History}
use Rattle.platform.specs.declared.platforms.Platform.{Ghosts}
use Rattle.device_session.specs.Open.{needed_by}
use Rattle.device_session.specs.Sessions.{Session}
use Rattle.script_lang.specs.Commands.{Command}
use Rattle.device_cli.specs.Pages.{needed_for, upgrade_of}

-- the session, if one is open; the moments of the platform; how many pages it has, and how many it can have; how many reads were made, of pages and of the cell; how often all pages were synced, or the cell changed; and the keys that the tape drew
pub record World : Type 0 where
  pub session : Option Session
  pub history : History
  pub head : ℕ
  pub capacity : ℕ
  pub reads : ℕ
  pub changes : ℕ
  pub drawn : Option (List (List ℕ))

abbrev pub world : Option Session → History → ℕ → ℕ → ℕ → ℕ → World
world session history head capacity reads changes = record { session = session; history = history; head = head; capacity = capacity; reads = reads; changes = changes; drawn = None }

-- the same of a platform, while nothing is told of a tape
abbrev pub world_of : {S : Type 0} → Ghosts S → Option Session → S → World
world_of P session platform = world session (P.history platform) (P.head platform) (P.capacity platform) (P.reads platform) (P.changes platform)

-- the same with a tape that drew these keys
abbrev pub drew_by : Option (List (List ℕ)) → World → World
drew_by drawn w = record w { drawn = drawn }

abbrev pub world_by : {S R : Type 0} → Ghosts S → TapeGhosts R → Option Session → S → R → World
world_by P T session platform tape = drew_by (T.drawn tape) (world_of P session platform)

-- the same where the look at the cell before the first line is counted
abbrev pub first_by : Option (List (List ℕ)) → World → World
first_by drawn w = record w { reads = w.reads + 1; drawn = drawn }

-- where a run begins, which looks at the cell before its first line
abbrev pub start_by : {S R : Type 0} → Ghosts S → TapeGhosts R → S → R → World
start_by P T platform tape = first_by (T.drawn tape) (world_of P None platform)

-- how many pages a commit of the session's changes needs
abbrev pub needed_of : Option Session → ℕ
needed_of None = 0
needed_of (Some session) = needed_by session

-- whether fewer pages are free than a command needs, in a state that the world stands for
abbrev pub is_full : World → State → Command → Bool
is_full w state command = nat_lt (w.capacity - w.head) (needed_for command (needed_of w.session) (upgrade_of state))

-- 41 pages for each of so many updates are enough for a commit of the session's changes
abbrev pub AreEnough : Option Session → ℕ → Type 0
AreEnough session updates = needed_of session ≤ 41 * updates

-- the one world comes from the other: pages are only added, and no more than there is room for
pub record IsLater (old new : World) : Type 0 where
  pub capacity : new.capacity ≡ old.capacity
  pub rises : old.head ≤ new.head
  pub within : new.head ≤ new.capacity
