use Rattle.std.proofs.Common.{ℕ, None, refl, sym, ◌∙◌, subst, ap}
use Rattle.platform.specs.Image.{Image}
use Rattle.device_terms.specs.Served.{IsServedCell, IsServedImage}
use Rattle.device_course.proofs.KeysLaws.{listed_image, mount_listed, on_look}
use Rattle.session_calls.proofs.MountLaws.{at_same, bad_served, empty_leads, found_leads}
use Rattle.session_calls.proofs.mounting.mount_session.Goals as goal

pub returns-in-Ok-clause-finds : goal.returns-in-Ok-clause-finds
returns-in-Ok-clause-finds g c = (
  c.in-Ok.ensures.mounts,
  λ told. record { cell = ap (λ (i : Image). i.cell) (c.mount.ensures.looks.image told) ∙ c.in-Ok.ensures.mounts.found told; follows = c.in-Ok.ensures.mounts.follows told },
)

pub returns-in-Ok-clause-leads : goal.returns-in-Ok-clause-leads
returns-in-Ok-clause-leads g c told entry at =
    found_leads _ _ c.in-Ok.session entry.device entry.session at (c.in-Ok.ensures.mounts.found told) c.in-Ok.ensures.mounts.untouched
    (subst IsServedImage (sym (c.mount.ensures.looks.image told)) at.served) (c.in-Ok.ensures.mounts.holds told)

pub returns-in-Err-NoDevice-clause-leads : goal.returns-in-Err-NoDevice-clause-leads
returns-in-Err-NoDevice-clause-leads g c told entry at =
    empty_leads _ _ entry.device entry.session at ((rw c.in-Err-NoDevice.field-0-is at c.in-Err-NoDevice.ensures.refused) told) (c.mount.ensures.looks.image told)

pub returns-in-Err-BadRoot-clause-leads : goal.returns-in-Err-BadRoot-clause-leads
returns-in-Err-BadRoot-clause-leads g c told entry at =
    let P = g.P.Platform in
    let image = (P.history c.args.platform.now).present in
    bad_served image.cell (P.head c.args.platform.now) (subst (λ (n : ℕ). IsServedCell image.cell n) (g.met.P.Platform.counts_pages told c.args.platform.now) at.served)
    ((rw c.in-Err-BadRoot.field-0-is at c.in-Err-BadRoot.ensures.refused) told)

pub returns-in-Err-PlatformFault-clause-leads : goal.returns-in-Err-PlatformFault-clause-leads
returns-in-Err-PlatformFault-clause-leads g c told entry at = at_same _ _ entry (c.mount.ensures.looks.image told) at

pub returns-in-Err-Memory-clause-leads : goal.returns-in-Err-Memory-clause-leads
returns-in-Err-Memory-clause-leads g c told entry at = at_same _ _ entry (c.mount.ensures.looks.image told) at

pub returns-in-Ok-clause-keeps : goal.returns-in-Ok-clause-keeps
returns-in-Ok-clause-keeps g c = λ drawn written. on_look _ drawn written None _ _ _ _ c.mount.ensures.looks.image c.mount.ensures.looks.time
    (λ told keys kept h. mount_listed None (g.P.Platform.history c.args.platform.now).present keys keys _ _ refl (c.in-Ok.ensures.mounts.found told) h (λ device stands. c.in-Ok.ensures.mounts.listed told device stands keys))

pub returns-in-Err-NoDevice-clause-keeps : goal.returns-in-Err-NoDevice-clause-keeps
returns-in-Err-NoDevice-clause-keeps g c = λ drawn written. on_look _ drawn written None _ _ _ _ c.mount.ensures.looks.image c.mount.ensures.looks.time (λ told keys kept h. listed_image None _ _ keys (c.mount.ensures.looks.image told) h)

pub returns-in-Err-BadRoot-clause-keeps : goal.returns-in-Err-BadRoot-clause-keeps
returns-in-Err-BadRoot-clause-keeps g c = λ drawn written. on_look _ drawn written None _ _ _ _ c.mount.ensures.looks.image c.mount.ensures.looks.time (λ told keys kept h. tt)

pub returns-in-Err-PlatformFault-clause-keeps : goal.returns-in-Err-PlatformFault-clause-keeps
returns-in-Err-PlatformFault-clause-keeps g c = λ drawn written. on_look _ drawn written None _ _ _ _ c.mount.ensures.looks.image c.mount.ensures.looks.time (λ told keys kept h. tt)

pub returns-in-Err-Memory-clause-keeps : goal.returns-in-Err-Memory-clause-keeps
returns-in-Err-Memory-clause-keeps g c = λ drawn written. on_look _ drawn written None _ _ _ _ c.mount.ensures.looks.image c.mount.ensures.looks.time (λ told keys kept h. tt)
