-- What an erasure does, whether its one step was taken or failed: a look at the cell, and then the step that may empty it.
use Rattle.std.proofs.Common.{◌≡◌, ◌⊎◌, inl, inr, ℕ, List, Option, None, refl, sym, ◌∙◌, ap, subst}
use Rattle.sdbt_base.specs.Arrays.{Device}
use Rattle.platform.specs.Image.{Image, IsEither, LeavesOnly, with_cell}
use Rattle.platform.specs.History.{History, Steps, During, Turns}
use Rattle.platform.proofs.Moments.{During-step, During-now, During-call, Turns-either, whole-now}
use Rattle.page_store.specs.Stands.{Stands, IsSound}
use Rattle.page_store.specs.Kept.{Kept}
use Rattle.page_store.specs.Floors.{Forgets}
use Rattle.page_store.proofs.StandsLaws.{stands_leaves}
use Rattle.page_store.proofs.KeptLaws.{kept_cleared}
use Rattle.page_store.proofs.FloorLaws.{low_few, succeeds_none, forgets_published}
use Rattle.device_terms.proofs.MomentLaws.{one_look}

-- a loss of power leaves the device from before, or none
pub erased : (old mid new : History) (device : Option Device) → Steps old mid → mid.present ≡ old.present → Steps mid new → IsEither mid.present (with_cell mid.present None) new.present → Stands old.present device → Turns old new (LeavesOnly (λ left. Stands left device)) (LeavesOnly (λ left. Stands left None))
erased old mid new device first same second either stands =
    let P : Image → Type 0 = LeavesOnly (λ left. Stands left device) in
    let Q : Image → Type 0 = LeavesOnly (λ left. Stands left None) in
    let here = stands_leaves old.present device stands in
    let there = subst P (sym same) here in
    Turns-either old mid new P Q (During-step old mid P first here there) second
    (elim either as (λ e. P new.present ⊎ Q new.present) [
      | inl still ↦ inl (subst P (sym still) there)
      | inr empty ↦ inr (subst Q (sym empty) (stands_leaves (with_cell mid.present None) None refl))
    ])

pub kept_look : (keys : List (List ℕ)) (old new : History) → Steps old new → new.present ≡ old.present → Kept keys old.present → During old new (Kept keys)
kept_look keys old new steps same kept = During-step old new (Kept keys) steps kept (subst (Kept keys) (sym same) kept)

pub kept_erased : (keys : List (List ℕ)) (old mid new : History) → Steps old mid → mid.present ≡ old.present → Steps mid new → IsEither mid.present (with_cell mid.present None) new.present → Kept keys old.present → During old new (Kept keys)
kept_erased keys old mid new look same steps either kept =
    let first = kept_look keys old mid look same kept in
    let here = During-now old mid (Kept keys) first in
    During-call old mid new (Kept keys) first steps (elim either as (λ e. Kept keys new.present) [
      | inl is ↦ subst (Kept keys) (sym is) here
      | inr is ↦ subst (Kept keys) (sym is) (kept_cleared keys mid.present here)
    ])

pub turns_erased : (old mid new : History) → Steps old mid → mid.present ≡ old.present → Steps mid new → IsEither mid.present (with_cell mid.present None) new.present → Turns old new (λ image. image.cell ≡ old.present.cell) (λ image. image ≡ with_cell old.present None)
turns_erased old mid new look same steps either =
    let X = with_cell old.present None in
    Turns-either old mid new (λ image. image.cell ≡ old.present.cell) (λ image. image ≡ X) (one_look old mid look same) steps
    (elim either as (λ e. (new.present.cell ≡ old.present.cell) ⊎ (new.present ≡ X)) [
      | inl is ↦ inl (ap (λ (i : Image). i.cell) (is ∙ same))
      | inr is ↦ inr (is ∙ ap (λ (i : Image). with_cell i None) same)
    ])

pub forgets_erased : (old mid new : History) → Steps old mid → mid.present ≡ old.present → Steps mid new → IsEither mid.present (with_cell mid.present None) new.present → IsSound old.present → Forgets old new
forgets_erased old mid new look same steps either sound =
    let X = with_cell old.present None in
    let turns = turns_erased old mid new look same steps either in
    let few = low_few old.present sound (whole-now old).synced in
    forgets_published old new X sound (None, refl) turns (succeeds_none old.present X refl few)
