-- Choices that the calls of a desk share.
use Rattle.std.proofs.Common.{◌≡◌, Option, None, Some, Result, Ok, Err, refl}
use Rattle.std.specs.Prelude.{OnOk}
use Rattle.device_session.specs.Sessions.{Session}

-- a session that is not absent is there
pub some_of : (held : Option Session) → (held ≡ None → ⊥) → (Goal : Type 0) → ((session : Session) → held ≡ Some session → Goal) → Goal
some_of None some Goal k = absurd (some refl)
some_of (Some session) some Goal k = k session refl

-- what holds anyway
pub on_ok : {T E : Type 0} (r : Result T E) (X : Type 0) → X → OnOk r X
on_ok (Ok t) X x = x
on_ok (Err e) X x = tt
