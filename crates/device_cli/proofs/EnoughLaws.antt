-- How many updates are enough for the commit of a session after a call.
use Rattle.std.proofs.Common.{◌≡◌, ℕ, ◌+◌, ◌≤◌, List, Option, None, Some, Ok, Err, inl, inr, sym, subst, ap, arith}
use Rattle.std.specs.Prelude.{◌⊎◌, Result, IfOk}
use Rattle.device_session.specs.Open.{needed_by}
use Rattle.device_session.specs.Sessions.{Session}
use Rattle.script_lang.specs.Replies.{said}
use Rattle.script_lang.specs.Commands.{Format}
use Rattle.script_lang.specs.declared.replies.Reply.{Reply as Given}
use Rattle.script_lang.specs.declared.replies.Reply.TheVariants as given
use Rattle.device_cli.specs.Pages.{updates_after}
use Rattle.platform.specs.Image.{Image}
use Rattle.device_cli.specs.Parts.{Adds}
use Rattle.device_cli.specs.Replied.{outcome}
use Rattle.device_cli.specs.World.{needed_of, AreEnough}
use Rattle.session_calls.specs.declared.stops.DeviceStop.{DeviceStop}

-- a session that needs as many pages as before, or 41 more after an update
pub enough_less : (held : Option Session) (session now : Session) (updates : ℕ) → held ≡ Some session → needed_by now ≤ needed_by session → AreEnough held updates → AreEnough (Some now) updates
enough_less held session now updates is less enough = omega (arith, less, enough, ap (λ (s : Option Session). needed_of s) is)

pub enough_more : (held : Option Session) (session now : Session) (updates : ℕ) → held ≡ Some session → needed_by now ≤ needed_by session + 41 → AreEnough held updates → AreEnough (Some now) (updates + 1)
enough_more held session now updates is more enough = omega (arith, more, enough, ap (λ (s : Option Session). needed_of s) is)

-- no session
pub enough_none : (held : Option Session) (updates : ℕ) → held ≡ None → AreEnough held updates
enough_none held updates none = subst (λ (s : Option Session). AreEnough s updates) (sym none) (omega arith)

-- a format that is refused leaves the session, and adds no page
pub enough_refused : (result : Result Given DeviceStop) (buffer : List ℕ) (held : Option Session) (updates : ℕ) → IfOk result (λ now. (now ≡ given.NotEmpty) ⊎ (now ≡ given.Range))
    → AreEnough held updates → IfOk (outcome result buffer) (λ said. AreEnough held (updates_after said updates))
enough_refused (Ok now) buffer held updates (inl e) enough = subst (λ (r : Given). AreEnough held (updates_after (said r buffer) updates)) (sym e) enough
enough_refused (Ok now) buffer held updates (inr e) enough = subst (λ (r : Given). AreEnough held (updates_after (said r buffer) updates)) (sym e) enough
enough_refused (Err stop) buffer held updates either enough = tt

pub pages_refused : (tells : Type 0) (image : Image) (result : Result Given DeviceStop) (buffer : List ℕ) (blocks order changes head head_now : ℕ) → IfOk result (λ now. (now ≡ given.NotEmpty) ⊎ (now ≡ given.Range))
    → head_now ≡ head → IfOk (outcome result buffer) (λ said. Adds tells image (Format blocks order) said changes head head_now)
pages_refused tells image (Ok now) buffer blocks order changes head head_now (inl e) same = subst (λ (r : Given). Adds tells image (Format blocks order) (said r buffer) changes head head_now) (sym e) (omega (arith, same))
pages_refused tells image (Ok now) buffer blocks order changes head head_now (inr e) same = subst (λ (r : Given). Adds tells image (Format blocks order) (said r buffer) changes head head_now) (sym e) (omega (arith, same))
pages_refused tells image (Err stop) buffer blocks order changes head head_now either same = tt
