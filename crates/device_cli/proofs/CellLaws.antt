-- That the cell can be served at each moment, what a call leaves that only looked, and which state a part of a run comes to.
use Rattle.platform.specs.History.{History, During}
use Rattle.std.proofs.Common.{◌≡◌, ◌≤◌, ℕ, zero, List, [], ◌∷◌, None, Ok, refl, sym, subst, arith}
use Rattle.platform.proofs.Moments.{During-now}
use Rattle.std.specs.Prelude.{Option, Some, IfSome, replicate}
use Rattle.std.proofs.lemmas.List.{length-replicate}
use Rattle.device_terms.specs.Served.{IsServedImage}
use Rattle.device_session.specs.Open.{IsOpen}
use Rattle.device_session.specs.Sessions.{Session}
use Rattle.device_session.proofs.InsertLaws.{open_later}
use Rattle.sdbt_base.specs.Arrays.{State}
use Rattle.platform.specs.Image.{Image}
use Rattle.device_course.specs.States.{IsAt}
use Rattle.line_run.specs.Pending.{IsPending}
use Rattle.device_cli.specs.Replied.{Handled}
use Rattle.line_run.specs.Puts.{no_line}
use Rattle.device_cli.specs.Represents.{Stood}
use Rattle.device_cli.specs.World.{World, needed_of}
use Rattle.session_calls.specs.declared.stops.DeviceStop.{DeviceStop}

-- at the end of that time too
pub served_at : (old new : History) → During old new IsServedImage → IsServedImage new.present
served_at old new during = During-now old new IsServedImage during

-- a look at the platform leaves a run without a session in its state
pub at_looked : (old new : Image) (held : Option Session) (entry : State) → held ≡ None → new ≡ old → IsAt old None entry → IsAt new held entry
at_looked old new held entry none same at = subst (λ (i : Image). IsAt i held entry) (sym same) (subst (λ (s : Option Session). IsAt old s entry) (sym none) at)

-- the state after lines that were handled
pub handled_through : (tells : Type 0) (old new : World) (last : DeviceStop → List ℕ) (lines : List (List ℕ)) (written written_now : Option (List ℕ)) → Handled tells ⊥ old new last (Ok tt) lines written written_now
    → tells → (entry : State) → Stood old entry → (now : State) × Stood new now
handled_through tells old new last lines written written_now h told entry at =
    let a = h.replied.answered told entry (needed_of old.session) at (omega arith) in
    (a.now.state, a.ends.0)

pending_text : (pending : Option (List ℕ)) → (text : List ℕ) × IsPending pending text
pending_text None = (replicate 8301 zero, omega (arith, length-replicate {A = ℕ} 8301 zero))
pending_text (Some bytes) = (bytes, refl)

-- and after one line, whatever is pending of it
pub answered_through : (tells : Type 0) (old new : World) (pending written written_now : Option (List ℕ)) → ((text : List ℕ) → IsPending pending text → Handled tells ⊥ old new no_line (Ok tt) (text ∷ []) written written_now)
    → tells → (entry : State) → Stood old entry → (now : State) × Stood new now
answered_through tells old new pending written written_now handled told entry at =
    let text = pending_text pending in
    handled_through tells old new no_line (text.0 ∷ []) written written_now (handled text.0 text.1) told entry at

-- a session that is open stays so as pages are added
pub ready_later : (held : Option Session) (pages more : ℕ) → pages ≤ more → IfSome held (λ session. IsOpen session pages) → IfSome held (λ session. IsOpen session more)
ready_later None pages more le ready = tt
ready_later (Some session) pages more le ready = open_later session pages more le ready
