-- What the calls of a session do to a run, on any image, whatever they answer.
use Rattle.std.specs.Prelude.{◌≡◌, ◌≤◌, ◌+◌, ◌*◌, ℕ, List, Option, Some}
use Rattle.sdbt_base.specs.Arrays.{State}
use Rattle.sdbt_base.specs.declared.tapes.Tape.{Ghosts as TapeGhosts}
use Rattle.platform.specs.declared.platforms.Platform.{Ghosts as PlatformGhosts}
use Rattle.platform.specs.History.{CellStays}
use Rattle.device_course.specs.Keys.{KeepsOn}
use Rattle.device_course.specs.States.{IsAt, IsListed}
use Rattle.device_session.specs.Going.{ForgetsNothing}
use Rattle.device_session.specs.Open.{IsOpen, blocks_of, needed_by}
use Rattle.device_session.specs.Sessions.{Session}
use Rattle.sdbt_base.specs.Counts.{NoneFell, counts}
use Rattle.session_calls.specs.Damage.{IsMounted}

-- what a tape tells: the keys that it drew, and its count of faults
pub record Drawn : Type 0 where
  pub keys : Option (List (List ℕ))
  pub faults : ℕ

abbrev pub drawn_by : {R : Type 0} → TapeGhosts R → R → Drawn
drawn_by T tape = record { keys = T.drawn tape; faults = T.faults tape }

-- so many updates at most, and calls beside them that make none, which read so many pages at most: the session goes on, open and on the root record in the cell, and its cache has forgotten nothing;
-- the cell stays at each moment, and nothing is synced; a page is added for each update at most, and a commit needs 41 more at most; keys are kept, and nothing is put to the ledger, whatever it has got. From each state
-- that the session and the image stood for they come to one that they stand for now
pub record Along {S : Type 0} (P : PlatformGhosts S) (updates most : ℕ) (platform platform_now : S) (drawn drawn_now : Drawn) (session now : Session) : Type 0 where
  pub is_open : IsOpen now (P.head platform_now)
  pub mounted : P.tells → IsMounted (P.history platform).present session → IsMounted (P.history platform_now).present now
  pub blocks : blocks_of now ≡ blocks_of session
  pub forgets : ForgetsNothing session now
  pub cell : P.tells → CellStays (P.history platform) (P.history platform_now)
  pub capacity : P.capacity platform_now ≡ P.capacity platform
  pub rises : P.head platform ≤ P.head platform_now
  pub adds : P.head platform_now ≤ P.head platform + updates
  pub needs : needed_by now ≤ needed_by session + 41 * updates
  pub reads : P.tells → P.reads platform_now ≤ P.reads platform + most
  pub changes : P.tells → P.changes platform_now ≡ P.changes platform
  pub keeps : (written : Option (List ℕ)) → KeepsOn P.tells drawn.keys drawn_now.keys written written (Some session) (P.history platform) (P.history platform_now) (Unit {0}) (IsListed (Some now) (P.history platform_now).present)
  pub through : P.tells → (entry : State) → IsAt (P.history platform).present (Some session) entry → (next : State) × IsAt (P.history platform_now).present (Some now) next
  pub fell : NoneFell (counts (P.faults platform) drawn.faults 0 0 0) (counts (P.faults platform_now) drawn_now.faults 0 0 0)
