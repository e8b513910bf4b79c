-- What a loss of power leaves during a call: the device from before, and from a moment on the one after.
use Rattle.std.proofs.Common.{◌≡◌, Option, subst, sym, ◌∙◌, arith}
use Rattle.sdbt_base.specs.Arrays.{Device}
use Rattle.platform.specs.Image.{Image, IsEarlier, LeavesOnly}
use Rattle.platform.specs.History.{History, During, Turns, image_at, moment}
use Rattle.platform.proofs.Moments.{image_at-now, Turns-not}
use Rattle.page_store.specs.Stands.{Stands}
use Rattle.page_store.proofs.StandsLaws.{stands_later, stands_leaves, stands_during}

-- while the cell is as it was a loss of power leaves the device from before, and then what it leaves of an image
pub turns_leaves : (old new : History) (X : Image) (before : Option Device) (After : Image → Type 0) → Stands old.present before → LeavesOnly After X → Turns old new (λ image. image.cell ≡ old.present.cell) (λ image. image ≡ X) → Turns old new (LeavesOnly (λ left. Stands left before)) (LeavesOnly After)
turns_leaves old new X before After was next turns = record {
  extends = turns.extends;
  turn = turns.turn;
  before = λ i from to early.
      let first : image_at new (moment old) ≡ old.present = turns.extends.same (moment old) (omega arith) ∙ image_at-now old (moment old) (omega arith) in
      let earlier = subst (λ (image : Image). IsEarlier image (image_at new i)) first (new.ascends (moment old) i from) in
      stands_leaves (image_at new i) before (stands_later old.present (image_at new i) before earlier (turns.before i from to early) was);
  after = λ i from to late. subst (LeavesOnly After) (sym (turns.after i from to late)) next;
}

-- of one that stands for a device that device
pub turns_stands : (old new : History) (X : Image) (before after : Option Device) → Stands old.present before → Stands X after → Turns old new (λ image. image.cell ≡ old.present.cell) (λ image. image ≡ X) → Turns old new (LeavesOnly (λ left. Stands left before)) (LeavesOnly (λ left. Stands left after))
turns_stands old new X before after was next = turns_leaves old new X before (λ left. Stands left after) was (stands_leaves X after next)

-- as long as the cell is as it was a loss of power leaves the device from before, whatever it would leave then
pub during_leaves : (old new : History) (before : Option Device) (After : Image → Type 0) → Stands old.present before → During old new (λ image. image.cell ≡ old.present.cell) → Turns old new (LeavesOnly (λ left. Stands left before)) (LeavesOnly After)
during_leaves old new before After was during = Turns-not old new (LeavesOnly (λ left. Stands left before)) (LeavesOnly After) (stands_during old new before was during)

pub during_stands : (old new : History) (before after : Option Device) → Stands old.present before → During old new (λ image. image.cell ≡ old.present.cell) → Turns old new (LeavesOnly (λ left. Stands left before)) (LeavesOnly (λ left. Stands left after))
during_stands old new before after = during_leaves old new before (λ left. Stands left after)
