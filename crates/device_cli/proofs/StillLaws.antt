-- A call that looked at the platform and changed nothing.
use Rattle.std.proofs.Common.{◌≡◌, Option, refl, sym, subst, ap}
use Rattle.platform.specs.Image.{Image}
use Rattle.platform.specs.History.{Steps, During}
use Rattle.platform.proofs.Moments.{During-step}
use Rattle.page_store.proofs.StandsLaws.{stands_during}
use Rattle.sdbt_base.specs.Arrays.{State}
use Rattle.device_terms.specs.Served.{IsServedImage}
use Rattle.device_session.specs.Sessions.{Session}
use Rattle.device_cli.specs.World.{World}
use Rattle.device_course.specs.States.{IsSessionOf}
use Rattle.device_course.specs.Marks.{Leaves}
use Rattle.device_cli.specs.Represents.{StandsFor, Stood}

-- what a state was over the image before, it is over the same image after
pub still_after : (old new : World) (entry : State) → new.session ≡ old.session → new.history.present ≡ old.history.present → Steps old.history new.history
    → new.head ≡ old.head → Stood old entry → Stood new entry × During old.history new.history (Leaves entry.device)
still_after old new entry session image steps head rep = (
  record {
    there = record {
      device = subst (λ (i : Image). StandsFor i entry.device) (sym image) rep.there.device;
      session = subst (λ (s : Option Session). IsSessionOf s new.history.present entry.device entry.session) (sym session)
          (subst (λ (i : Image). IsSessionOf old.session i entry.device entry.session) (sym image) rep.there.session);
    };
    served = subst IsServedImage (sym image) rep.served;
  },
  stands_during old.history new.history _ rep.there.device
      (During-step old.history new.history (λ image. image.cell ≡ old.history.present.cell) steps refl (ap (λ (i : Image). i.cell) image)),
)
