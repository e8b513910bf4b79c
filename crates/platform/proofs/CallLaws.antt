-- Looks one after another.
use Rattle.std.proofs.Common.{◌≡◌, ◌≤◌, Option, List, ℕ, refl, ◌∙◌, ap, arith}
use Rattle.platform.specs.Image.{Image}
use Rattle.platform.specs.History.{Steps}
use Rattle.platform.specs.Calls.{Looks}
use Rattle.platform.specs.declared.platforms.Platform.{Ghosts}
use Rattle.platform.proofs.Moments.{During-start, During-step, During-then, During-weaker}

abbrev HasCell : Option (List ℕ) → Image → Type 0
HasCell cell image = image.cell ≡ cell

-- no call yet
pub looks_start : {S : Type 0} (P : Ghosts S) (x : S) → Looks P x x
looks_start P x = record {
  image = λ told. refl;
  time = λ told. During-start (P.history x) (HasCell (P.history x).present.cell) refl;
  head = refl;
  capacity = refl;
  changes = λ told. refl;
  faults = omega arith;
}

-- one call that leaves the image
pub looks_call : {S : Type 0} (P : Ghosts S) (old new : S) → (P.tells → Steps (P.history old) (P.history new)) → (P.tells → (P.history new).present ≡ (P.history old).present)
    → P.head new ≡ P.head old → P.capacity new ≡ P.capacity old → (P.tells → P.changes new ≡ P.changes old) → P.faults old ≤ P.faults new → Looks P old new
looks_call P old new steps image head capacity changes faults = record {
  image = image;
  time = λ told. During-step (P.history old) (P.history new) (HasCell (P.history old).present.cell) (steps told) refl (ap (λ (i : Image). i.cell) (image told));
  head = head;
  capacity = capacity;
  changes = changes;
  faults = faults;
}

-- looks one after another
pub looks_then : {S : Type 0} (P : Ghosts S) (first second third : S) → Looks P first second → Looks P second third → Looks P first third
looks_then P first second third one two = record {
  image = λ told. two.image told ∙ one.image told;
  time = λ told. During-then (P.history first) (P.history second) (P.history third) (HasCell (P.history first).present.cell) (one.time told)
      (During-weaker (P.history second) (P.history third) (HasCell (P.history second).present.cell) (HasCell (P.history first).present.cell)
      (λ image is. is ∙ ap (λ (i : Image). i.cell) (one.image told)) (two.time told));
  head = two.head ∙ one.head;
  capacity = two.capacity ∙ one.capacity;
  changes = λ told. two.changes told ∙ one.changes told;
  faults = let a = one.faults in let b = two.faults in omega arith;
}
