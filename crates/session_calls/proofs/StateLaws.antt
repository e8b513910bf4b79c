-- What a session and an image stand for.
use Rattle.std.proofs.Common.{◌≡◌, Option, None, Some}
use Rattle.sdbt_base.specs.Arrays.{Device, Session as OpenSession, State, mounted}
use Rattle.platform.specs.Image.{Image}
use Rattle.platform.specs.History.{History, CellStays}
use Rattle.platform.proofs.Moments.{During-now}
use Rattle.device_terms.specs.Served.{IsServedImage}
use Rattle.device_terms.proofs.ServedLaws.{serves_still}
use Rattle.device_course.specs.States.{IsAt}
use Rattle.device_session.specs.Holds.{Holds}
use Rattle.device_session.specs.Open.{is_touched}
use Rattle.device_session.specs.Sessions.{Session}

by_cases : (image : Image) (session : Session) (device : Option Device) (there : Option OpenSession) → IsAt image (Some session) (record { device = device; session = there }) → (Goal : State → Type 0)
    → ((d : Device) (array : OpenSession) → IsAt image (Some session) (mounted d array) → Goal (mounted d array)) → Goal (record { device = device; session = there })
by_cases image session None None at Goal k = absurd at.there.session
by_cases image session (Some d) None at Goal k = absurd at.there.session
by_cases image session None (Some array) at Goal k = absurd at.there.session
by_cases image session (Some d) (Some array) at Goal k = k d array at

-- with a session it is a device with an array on it
pub with_array : (image : Image) (session : Session) (entry : State) → IsAt image (Some session) entry → (Goal : State → Type 0)
    → ((d : Device) (array : OpenSession) → IsAt image (Some session) (mounted d array) → Goal (mounted d array)) → Goal entry
with_array image session entry at Goal k = by_cases image session entry.device entry.session at Goal k

-- a session that has an array over an image that can be served
pub at_array : (image : Image) (session : Session) (device : Device) (array : OpenSession) → Holds session image device array.contents → is_touched session ≡ array.touched → IsServedImage image
    → IsAt image (Some session) (mounted device array)
at_array image session device array holds touched served =
    record { there = record { device = (session.root, holds.committed, holds.stands); session = (holds, touched) }; served = served }

-- the cell can be served still where it stayed
pub served_still : (old new : History) → CellStays old new → IsServedImage old.present → IsServedImage new.present
served_still old new stays served = During-now old new IsServedImage (serves_still old new stays served)
