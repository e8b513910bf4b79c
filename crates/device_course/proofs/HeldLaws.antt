-- What is said of a device with a session on it.
use Rattle.std.proofs.Common.{◌≡◌, ◌∷◌, ◌++◌, ◌∙◌, ℕ, List, [], refl}
use Rattle.sdbt_base.specs.Arrays.{Session as OpenSession, unmapped}
use Rattle.platform.specs.Image.{Image}
use Rattle.device_session.specs.Open.{IsOpen, needed_by}
use Rattle.device_session.specs.Sessions.{Session}
use Rattle.device_session.proofs.CountLaws.{needs_none, needs_some}
use Rattle.device_course.specs.Held.{Held, IsHeld, Needs, trim_all}

-- one trim more
pub trim_all-more : (array : OpenSession) (blocks : List ℕ) (block : ℕ) → trim_all array (blocks ++ block ∷ []) ≡ unmapped (trim_all array blocks) block
trim_all-more array [] block = refl
trim_all-more array (first ∷ blocks) block = trim_all-more (unmapped array first) blocks block

-- what the session's commit needs
pub needs_of : (session : Session) (image : Image) (head : ℕ) (entry : Held) → IsOpen session head → IsHeld image head session entry → Needs entry (needed_by session)
needs_of session image head entry there_open held = record {
  none = λ idle. needs_none session head there_open (held.at.there.session.1 ∙ idle);
  some = λ touched. needs_some session head there_open (held.at.there.session.1 ∙ touched);
  most = held.needs;
}
