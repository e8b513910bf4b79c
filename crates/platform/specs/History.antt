-- The images of all moments of a platform so far, and what a call may do to them.
use Rattle.std.specs.Prelude.{◌≡◌, ◌≤◌, ◌<◌, ℕ, List, length, slice_index_or}
use Rattle.platform.specs.Image.{Image, IsWhole, IsEarlier}

-- the image of the i-th moment, counted from 0; from the last one on it is the present one
abbrev pub image_of : List Image → Image → ℕ → Image
image_of past present i = slice_index_or past i present

-- the images of all moments so far
pub record History : Type 0 where
  pub past : List Image
  pub present : Image
  pub whole : (i : ℕ) → IsWhole (image_of past present i)
  pub ascends : (i j : ℕ) → i ≤ j → IsEarlier (image_of past present i) (image_of past present j)

-- the image of the i-th moment
abbrev pub image_at : History → ℕ → Image
image_at history i = image_of history.past history.present i

-- the present moment
abbrev pub moment : History → ℕ
moment history = length history.past

-- time went on, and what was stays
pub record Extends (old new : History) : Type 0 where
  pub later : moment old ≤ moment new
  pub same : (i : ℕ) → i ≤ moment old → image_at new i ≡ image_at old i

-- at each moment from the one of old to the one of new, the image has P
pub record During (old new : History) (P : Image → Type 0) : Type 0 where
  pub extends : Extends old new
  pub each : (i : ℕ) → moment old ≤ i → i ≤ moment new → P (image_at new i)

-- at each of these moments the image has P, until one, if it comes, from which on it has Q
pub record Turns (old new : History) (P Q : Image → Type 0) : Type 0 where
  pub extends : Extends old new
  pub turn : ℕ
  pub before : (i : ℕ) → moment old ≤ i → i ≤ moment new → i < turn → P (image_at new i)
  pub after : (i : ℕ) → moment old ≤ i → i ≤ moment new → turn ≤ i → Q (image_at new i)

-- one step: the image from before it, and then the one from after it
abbrev pub Steps : History → History → Type 0
Steps old new = Turns old new (λ image. image ≡ old.present) (λ image. image ≡ new.present)

-- at each moment the cell is the one from before
abbrev pub CellStays : History → History → Type 0
CellStays old new = During old new (λ image. image.cell ≡ old.present.cell)

-- the cell changes at most once
abbrev pub CellTurns : History → History → Type 0
CellTurns old new = Turns old new (λ image. image.cell ≡ old.present.cell) (λ image. image.cell ≡ new.present.cell)
