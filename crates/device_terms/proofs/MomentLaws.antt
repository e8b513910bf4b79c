-- How the moments of calls on a device compose: the cell stays as it was, until the root record is replaced.
use Rattle.std.proofs.Common.{◌≡◌, ◌⊎◌, inl, inr, List, ℕ, Option, None, Some, refl, ap, sym, ◌∙◌}
use Rattle.platform.specs.Image.{Image, IsEither, with_cell, all_synced}
use Rattle.platform.specs.History.{History, Steps, During, Turns, CellStays}
use Rattle.platform.specs.Image.{IsEarlier}
use Rattle.platform.proofs.RunLaws.{Turns-cases}
use Rattle.platform.proofs.Moments.{During-step, During-call, During-start, During-now, During-then, During-weaker, Turns-not, Turns-either, Turns-after, Turns-weaker, Extends-earlier}

-- the cell is what it was
abbrev pub HasCell : Option (List ℕ) → Image → Type 0
HasCell cell image = image.cell ≡ cell

-- no call yet
pub still : (history : History) → During history history (λ image. image.cell ≡ history.present.cell)
still history = During-start history (HasCell history.present.cell) refl

-- one call that leaves the cell
pub one_call : (old new : History) → Steps old new → new.present.cell ≡ old.present.cell → During old new (λ image. image.cell ≡ old.present.cell)
one_call old new steps cell = During-step old new (HasCell old.present.cell) steps refl cell

-- one call that leaves the image
pub one_look : (old new : History) → Steps old new → new.present ≡ old.present → During old new (λ image. image.cell ≡ old.present.cell)
one_look old new steps same = one_call old new steps (ap (λ (i : Image). i.cell) same)

-- one call more
pub call_more : (old mid new : History) → During old mid (λ image. image.cell ≡ old.present.cell) → Steps mid new → new.present.cell ≡ mid.present.cell → During old new (λ image. image.cell ≡ old.present.cell)
call_more old mid new during steps cell =
    During-call old mid new (HasCell old.present.cell) during steps (cell ∙ During-now old mid (HasCell old.present.cell) during)

pub look_more : (old mid new : History) → During old mid (λ image. image.cell ≡ old.present.cell) → Steps mid new → new.present ≡ mid.present → During old new (λ image. image.cell ≡ old.present.cell)
look_more old mid new during steps same = call_more old mid new during steps (ap (λ (i : Image). i.cell) same)

-- a sync, and then the one step that may replace the root record
pub published : (old mid new : History) (bytes root : List ℕ) → Steps old mid → mid.present.cell ≡ old.present.cell → mid.present ≡ all_synced old.present → Steps mid new → IsEither mid.present (with_cell mid.present (Some bytes)) new.present → bytes ≡ root → Turns old new (λ image. image.cell ≡ old.present.cell) (λ image. image ≡ with_cell (all_synced old.present) (Some root))
published old mid new bytes root first cell synced second either is =
    let Q : Image → Type 0 = λ image. image ≡ with_cell (all_synced old.present) (Some root) in
    Turns-either old mid new (HasCell old.present.cell) Q (one_call old mid first cell) second
    (elim either as (λ e. (new.present.cell ≡ old.present.cell) ⊎ Q new.present) [
      | inl same ↦ inl (ap (λ (i : Image). i.cell) same ∙ cell)
      | inr swapped ↦ inr (swapped ∙ ap (λ (i : Image). with_cell i (Some bytes)) synced ∙ ap (λ (b : List ℕ). with_cell (all_synced old.present) (Some b)) is)
    ])

-- one step that may replace the root record
pub swapped : (old new : History) (X : Image) → Steps old new → IsEither old.present X new.present → Turns old new (λ image. image.cell ≡ old.present.cell) (λ image. image ≡ X)
swapped old new X steps either =
    let Q : Image → Type 0 = λ image. image ≡ X in
    Turns-either old old new (HasCell old.present.cell) Q (still old) steps
    (elim either as (λ e. (new.present.cell ≡ old.present.cell) ⊎ Q new.present) [
      | inl same ↦ inl (ap (λ (i : Image). i.cell) same)
      | inr is ↦ inr is
    ])

-- the turn doesn't come
pub not_published : (old new : History) (X : Image) → During old new (λ image. image.cell ≡ old.present.cell) → Turns old new (λ image. image.cell ≡ old.present.cell) (λ image. image ≡ X)
not_published old new X during = Turns-not old new (HasCell old.present.cell) (λ image. image ≡ X) during

-- calls that leave the cell, and then those among which the turn may come
pub then_published : (old mid new : History) (X : Image) → During old mid (λ image. image.cell ≡ old.present.cell) → Turns mid new (λ image. image.cell ≡ mid.present.cell) (λ image. image ≡ X) → Turns old new (λ image. image.cell ≡ old.present.cell) (λ image. image ≡ X)
then_published old mid new X during turns =
    let cell = During-now old mid (HasCell old.present.cell) during in
    Turns-after old mid new (HasCell old.present.cell) (λ image. image ≡ X) during
    (Turns-weaker mid new (HasCell mid.present.cell) (λ image. image ≡ X) (HasCell old.present.cell) (λ image. image ≡ X) (λ image is. is ∙ cell) (λ image is. is) turns)

-- a cell that stays until it is that of another image changes once at most
pub once : (old new : History) (X : Image) → Turns old new (λ image. image.cell ≡ old.present.cell) (λ image. image ≡ X) → Turns old new (λ image. image.cell ≡ old.present.cell) (λ image. image.cell ≡ new.present.cell)
once old new X turns = elim (Turns-cases old new (HasCell old.present.cell) (λ image. image ≡ X) turns) [
  | inl stays ↦ Turns-not old new (HasCell old.present.cell) (HasCell new.present.cell) stays
  | inr is ↦ Turns-weaker old new (HasCell old.present.cell) (λ image. image ≡ X) (HasCell old.present.cell) (HasCell new.present.cell)
      (λ image same. same) (λ image same. ap (λ (i : Image). i.cell) same ∙ ap (λ (i : Image). i.cell) (sym is)) turns
]

-- one that stays changes not even once
pub stays_once : (old new : History) → During old new (λ image. image.cell ≡ old.present.cell) → Turns old new (λ image. image.cell ≡ old.present.cell) (λ image. image.cell ≡ new.present.cell)
stays_once old new stays = Turns-not old new (HasCell old.present.cell) (HasCell new.present.cell) stays

-- the image before is earlier than the one after
pub earlier : (old new : History) (P : Image → Type 0) → During old new P → IsEarlier old.present new.present
earlier old new P during = Extends-earlier old new during.extends

-- the cell stays, and then stays
pub stays_then : (old mid new : History) → CellStays old mid → CellStays mid new → CellStays old new
stays_then old mid new first second =
    let here : mid.present.cell ≡ old.present.cell = During-now old mid (λ image. image.cell ≡ old.present.cell) first in
    During-then old mid new (λ image. image.cell ≡ old.present.cell) first (During-weaker mid new (λ image. image.cell ≡ mid.present.cell) (λ image. image.cell ≡ old.present.cell) (λ image same. same ∙ here) second)

-- a cell that stays until it is that of an image with an empty one
pub emptied : (old new : History) (X : Image) → X.cell ≡ None → Turns old new (λ image. image.cell ≡ old.present.cell) (λ image. image ≡ X) → Turns old new (λ image. image.cell ≡ old.present.cell) (λ image. image.cell ≡ None)
emptied old new X none turns =
    Turns-weaker old new (HasCell old.present.cell) (λ image. image ≡ X) (HasCell old.present.cell) (HasCell None) (λ image same. same) (λ image same. ap (λ (i : Image). i.cell) same ∙ none) turns

pub never_emptied : (old new : History) → During old new (λ image. image.cell ≡ old.present.cell) → Turns old new (λ image. image.cell ≡ old.present.cell) (λ image. image.cell ≡ None)
never_emptied old new stays = Turns-not old new (HasCell old.present.cell) (HasCell None) stays
