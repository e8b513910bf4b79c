-- A device with a session on it, and what trims and a commit make of them.
use Rattle.std.specs.Prelude.{◌≡◌, ◌+◌, ◌*◌, ◌≤◌, ℕ, true, false, List, [], ◌∷◌, Some}
use Rattle.sdbt_base.specs.Arrays.{Device, Session as OpenSession, State, committed_if, mounted, unmapped}
use Rattle.platform.specs.Image.{Image}
use Rattle.device_session.specs.Open.{needed_by}
use Rattle.device_session.specs.Sessions.{Session}
use Rattle.device_course.specs.States.{IsAt}

-- the device, the session's array, how many pages there are, and how many updates were accepted since the mount or the last commit
pub record Held : Type 0 where
  pub device : Device
  pub session : OpenSession
  pub pages : ℕ
  pub updates : ℕ

abbrev pub device_of : Held → Device
device_of held = held.device

abbrev pub state_of : Held → State
state_of held = mounted held.device held.session

-- the session, over an image of so many pages, stands for this: the array is its own, and a commit of it needs 41 pages for each update at most
pub record IsHeld (image : Image) (head : ℕ) (session : Session) (held : Held) : Type 0 where
  pub at : IsAt image (Some session) (state_of held)
  pub pages : held.pages ≡ head
  pub needs : needed_by session ≤ 41 * held.updates

-- the array after trims of these blocks
abbrev pub trim_all : OpenSession → List ℕ → OpenSession
trim_all session [] = session
trim_all session (block ∷ blocks) = trim_all (unmapped session block) blocks

-- after a commit that needed so many pages: the device has the session's array, and the next number where something was changed
abbrev pub after_commit : Held → ℕ → Held
after_commit held needed = record {
  device = committed_if held.session.touched held.device held.session;
  session = record { contents = held.session.contents; touched = false };
  pages = held.pages + needed;
  updates = 0;
}

-- a commit needs no page without a change, and else one at least and 41 for each update at most
pub record Needs (held : Held) (needed : ℕ) : Type 0 where
  pub none : held.session.touched ≡ false → needed ≡ 0
  pub some : held.session.touched ≡ true → 1 ≤ needed
  pub most : needed ≤ 41 * held.updates
