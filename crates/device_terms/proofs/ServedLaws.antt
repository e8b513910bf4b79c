-- That a cell which can be served is one at each moment, whatever a call makes of it.
use Rattle.std.proofs.Common.{◌≡◌, inl, inr, ℕ, ◌≤◌, List, Option, Some, None, length, refl, sym, subst, arith}
use Rattle.platform.specs.Image.{Image, IsEither, with_cell}
use Rattle.platform.specs.History.{History, Steps, During, Turns, image_at}
use Rattle.platform.proofs.Moments.{Extends-since, During-call, During-now, During-turns}
use Rattle.root_codec.specs.declared.root.Root.{Root}
use Rattle.root_codec.specs.RootRecord.{root_bytes}
use Rattle.page_store.specs.Roots.{IsRootWithin}
use Rattle.device_terms.specs.Served.{IsServedCell, IsServedImage}
use Rattle.device_terms.proofs.MomentLaws.{HasCell}

served_more : (cell : Option (List ℕ)) (pages more : ℕ) → pages ≤ more → IsServedCell cell pages → IsServedCell cell more
served_more None pages more later served = tt
served_more (Some bytes) pages more later (root, served, is) =
    (root, record { in_range = served.in_range; key = served.key; within = omega (arith, served.within, later) }, is)

-- the same cell, with as many pages or more
served_later : (image later : Image) → later.cell ≡ image.cell → length image.recorded ≤ length later.recorded → IsServedImage image → IsServedImage later
served_later image later same more served =
    subst (λ (held : Option (List ℕ)). IsServedCell held (length later.recorded)) (sym same) (served_more image.cell (length image.recorded) (length later.recorded) more served)

-- as long as the cell stays, it can be served
pub serves_still : (old new : History) → During old new (λ image. image.cell ≡ old.present.cell) → IsServedImage old.present → During old new IsServedImage
serves_still old new during served = record {
  extends = during.extends;
  each = λ i from to. served_later old.present (image_at new i) (during.each i from to) (Extends-since old new i during.extends from).pages served;
}

-- the cell stays, until the image is one whose cell can be served
pub serves_turned : (old new : History) (X : Image) → Turns old new (λ image. image.cell ≡ old.present.cell) (λ image. image ≡ X) → IsServedImage old.present → IsServedImage X → During old new IsServedImage
serves_turned old new X turns served next =
    let either = During-turns old new (HasCell old.present.cell) (λ image. image ≡ X) turns in
    record {
      extends = turns.extends;
      each = λ i from to. elim (either.each i from to) [
        | inl same ↦ served_later old.present (image_at new i) same (Extends-since old new i turns.extends from).pages served
        | inr is ↦ subst IsServedImage (sym is) next
      ];
    }

-- the cell stays, and may then be emptied
pub serves_cleared : (old mid new : History) → During old mid (λ image. image.cell ≡ old.present.cell) → Steps mid new → IsEither mid.present (with_cell mid.present None) new.present → IsServedImage old.present → During old new IsServedImage
serves_cleared old mid new during steps either served =
    let still = serves_still old mid during served in
    During-call old mid new IsServedImage still steps (elim either as (λ e. IsServedImage new.present) [
      | inl same ↦ subst IsServedImage (sym same) (During-now old mid IsServedImage still)
      | inr empty ↦ subst IsServedImage (sym empty) tt
    ])

-- the image that a root record makes which can be served over so many pages
pub served_published : (mid : Image) (root : Root) (pages : ℕ) → length mid.recorded ≡ pages → IsRootWithin pages root → IsServedImage (with_cell mid (Some (root_bytes root)))
served_published mid root pages are served = (root, subst (λ (n : ℕ). IsRootWithin n root) (sym are) served, refl)
