-- From which state a mount leads to which.
use Rattle.std.proofs.Common.{◌≡◌, ℕ, List, Option, None, Some, Ok, false, refl, sym, subst, ap}
use Rattle.sdbt_base.specs.Arrays.{Device, Session as OpenSession, State, session_on}
use Rattle.platform.specs.Image.{Image}
use Rattle.root_codec.specs.RootRecord.{root_bytes}
use Rattle.page_store.specs.Roots.{IsBadCell}
use Rattle.page_store.specs.Stands.{Stands}
use Rattle.device_terms.specs.Served.{IsServedCell, IsServedImage}
use Rattle.device_course.specs.States.{IsAt}
use Rattle.device_session.specs.Holds.{Holds}
use Rattle.device_session.specs.Open.{is_touched}
use Rattle.device_session.specs.Sessions.{Session}
use Rattle.session_calls.specs.Mounts.{MountLeads}
use Rattle.session_calls.proofs.StateLaws.{at_array}

-- a cell that can be served is not one that can't
pub bad_served : (cell : Option (List ℕ)) (pages : ℕ) → IsServedCell cell pages → IsBadCell pages cell → ⊥
bad_served None pages served bad = bad.full refl
bad_served (Some bytes) pages (root, served, same) bad = bad.bad root served (ap (λ (b : List ℕ). Some b) same)

-- a look at the image leaves the state
pub at_same : (old new : Image) (entry : State) → new ≡ old → IsAt old None entry → IsAt new None entry
at_same old new entry same at = subst (λ (i : Image). IsAt i None entry) (sym same) at

-- where the cell is empty there is no device
pub empty_leads : (old new : Image) (device : Option Device) (there : Option OpenSession) → IsAt old None (record { device = device; session = there }) → old.cell ≡ None → new ≡ old
    → MountLeads new (record { device = device; session = there }) (Ok None)
empty_leads old new None None at empty same = (refl, at_same old new (record { device = None; session = None }) same at)
empty_leads old new (Some device) None at empty same = absurd (let cell = at.there.device.2.cell in cc)
empty_leads old new device (Some array) at empty same = absurd at.there.session

-- and where it is full a session on it
pub found_leads : (old new : Image) (session : Session) (device : Option Device) (there : Option OpenSession) → IsAt old None (record { device = device; session = there }) → old.cell ≡ Some (root_bytes session.root)
    → is_touched session ≡ false → IsServedImage new → ((d : Device) → Stands old (Some d) → Holds session new d d.contents)
    → MountLeads new (record { device = device; session = there }) (Ok (Some session))
found_leads old new session None None at full fresh served holds = absurd (let empty = at.there.device in cc)
found_leads old new session (Some device) None at full fresh served holds =
    let has = holds device at.there.device in
    (device, refl, at_array new session device (session_on device) has fresh served, has.stands.number)
found_leads old new session device (Some array) at full fresh served holds = absurd at.there.session
