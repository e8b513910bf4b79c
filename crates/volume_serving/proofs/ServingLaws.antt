-- What a run keeps behind a reply, and that a line is one of some text.
use Rattle.std.proofs.Common.{◌≡◌, ℕ, List, Option, None, Some, Result, Ok, Err, replicate, refl, sym, subst, arith}
use Rattle.std.specs.Prelude.{IfOk, IsOk}
use Rattle.std.proofs.lemmas.List.{length-replicate}
use Rattle.device_course.specs.States.{Outside}
use Rattle.device_session.specs.Sessions.{Session}
use Rattle.line_run.specs.Pending.{IsPending}
use Rattle.line_run.specs.declared.stop.Stop.{Stop}
use Rattle.session_calls.specs.Carrying.{Carries}
use Rattle.session_calls.proofs.CarryLaws.{carries_end, carries_going}
use Rattle.volume_serving.specs.Handled.{goes_on}

pub carries_told : (tells : Type 0) (old new : Outside) (session now : Session) (Was : Type 0) (result : Result Session Stop) → Was → IfOk result (λ s. s ≡ now) → Carries tells old new session (Some now) Was
    → Carries tells old new session (goes_on result) (IsOk result)
carries_told tells old new session now Was (Ok next) was same carries =
    subst (λ (s : Session). Carries tells old new session (Some s) (IsOk {T = Session} {E = Stop} (Ok next))) (sym same) (carries_going tells old new session (Some now) Was (IsOk {T = Session} {E = Stop} (Ok next)) (λ going. was) carries)
carries_told tells old new session now Was (Err stop) was same carries = carries_end tells old new session (Some now) Was (IsOk {T = Session} {E = Stop} (Err stop)) (λ going. was) carries

-- what is pending is a part of some line
pub some_text : (pending : Option (List ℕ)) → (text : List ℕ) × IsPending pending text
some_text None = (replicate 8301 0, omega (arith, length-replicate {A = ℕ} 8301 0))
some_text (Some bytes) = (bytes, refl)
