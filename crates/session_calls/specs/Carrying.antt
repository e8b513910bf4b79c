-- What a part of a run over a session does, on any image.
use Rattle.std.specs.Prelude.{◌≡◌, ◌≤◌, List, Option, Some, IfSome}
use Rattle.sdbt_base.specs.Arrays.{Device, State}
use Rattle.device_course.specs.Course.{Made}
use Rattle.device_course.specs.Keys.{KeepsOn}
use Rattle.device_course.specs.States.{Outside, IsAt, IsListed}
use Rattle.device_session.specs.Open.{IsOpen, blocks_of}
use Rattle.device_session.specs.Sessions.{Session}
use Rattle.session_calls.specs.Damage.{IsMounted}

-- a session is open, on the root record that is in the cell
pub record IsReady (tells : Type 0) (here : Outside) (session : Session) : Type 0 where
  pub is_open : IsOpen session here.head
  pub mounted : tells → IsMounted here.history.present session

-- a part of a run that began with this session, and ended with that one, if the run goes on: it is ready for more then; pages were only added; keys were kept, what was deleted stays
-- so, and the ledger got what belongs to the root records that came into the cell, of one more entry a part only where the run doesn't go on; and from each state that the start stood
-- for it made some devices
pub record Carries (tells : Type 0) (old new : Outside) (session : Session) (after : Option Session) (Going : Type 0) : Type 0 where
  pub ready : IfSome after (IsReady tells new)
  pub blocks : IfSome after (λ now. blocks_of now ≡ blocks_of session)
  pub capacity : new.capacity ≡ old.capacity
  pub rises : old.head ≤ new.head
  pub keeps : KeepsOn tells old.drawn new.drawn old.written new.written (Some session) old.history new.history Going (λ keys. IfSome after (λ now. IsListed (Some now) new.history.present keys))
  pub made : tells → (entry : State) → IsAt old.history.present (Some session) entry → (marks : List (Option Device)) × (exit : State) × Made old.history new.history after entry marks exit
