-- What is said of a run, which is many calls, over its moments.
use Rattle.std.specs.Prelude.{◌≤◌, ◌<◌, ◌+◌, ℕ, zero, suc, List, length, is_some, if◌then◌else◌}
use Rattle.std.specs.Option.{option_map_or}
use Rattle.platform.specs.Image.{Image}
use Rattle.platform.specs.History.{History, Extends, image_at, moment}

-- at each moment the image has one of the marks, which come in their order; the last that came is the `last`
pub record Passes (old new : History) (Mark : ℕ → Image → Type 0) (last : ℕ) : Type 0 where
  pub extends : Extends old new
  pub mark : ℕ → ℕ
  pub rises : (i j : ℕ) → i ≤ j → mark i ≤ mark j
  pub within : (i : ℕ) → mark i ≤ last
  pub each : (i : ℕ) → moment old ≤ i → i ≤ moment new → Mark (mark i) (image_at new i)

-- the floor of the moment that comes k after the first one of a run: the head that its root record tells,
-- or how many pages were recorded when the cell became empty
abbrev pub floor_at : (List ℕ → ℕ) → History → ℕ → ℕ → ℕ
floor_at head_of history first zero = option_map_or head_of (image_at history first).cell (length (image_at history first).recorded)
floor_at head_of history first (suc k) =
    option_map_or head_of (image_at history (first + suc k)).cell
    (if is_some (image_at history (first + k)).cell
    then length (image_at history (first + suc k)).recorded
    else floor_at head_of history first k)

-- floors never fall, and what is reached at a moment and lies below an earlier floor was in the tree of that earlier moment
pub record StaysDeleted (old new : History) (floor : ℕ → ℕ) (Reached InTree : Image → ℕ → Type 0) : Type 0 where
  pub extends : Extends old new
  pub floors : (i j : ℕ) → moment old ≤ i → i ≤ j → j ≤ moment new → floor i ≤ floor j
  pub kept : (i j : ℕ) → moment old ≤ i → i ≤ j → j ≤ moment new → (addr : ℕ) → Reached (image_at new j) addr → addr < floor i → InTree (image_at new i) addr

-- so many looks at present images of a run, in order of time; the k-th one saw an image with Seen k
pub record Sightings (old new : History) (Seen : ℕ → Image → Type 0) (count : ℕ) : Type 0 where
  pub extends : Extends old new
  pub at : ℕ → ℕ
  pub ascends : (j k : ℕ) → j ≤ k → at j ≤ at k
  pub from : (k : ℕ) → moment old ≤ at k
  pub to : (k : ℕ) → at k ≤ moment new
  pub each : (k : ℕ) → k < count → Seen k (image_at new (at k))
