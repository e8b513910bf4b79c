-- The devices that a run makes, in their order.
use Rattle.std.specs.Prelude.{ℕ, suc, zero, List, [], ◌∷◌, Option}
use Rattle.platform.specs.Image.{Image, LeavesOnly}
use Rattle.sdbt_base.specs.Arrays.{Device}
use Rattle.page_store.specs.Stands.{Stands}

-- whatever a loss of power leaves of the image stands for the device
abbrev pub Leaves : Option Device → Image → Type 0
Leaves device image = LeavesOnly (λ left. Stands left device) image

-- the k-th of the marks: the first, and then those behind it. Past the last one it stays the last
abbrev pub mark_at : Option Device → List (Option Device) → ℕ → Option Device
mark_at first [] k = first
mark_at first (next ∷ marks) zero = first
mark_at first (next ∷ marks) (suc k) = mark_at next marks k

abbrev pub last_mark : Option Device → List (Option Device) → Option Device
last_mark first [] = first
last_mark first (next ∷ marks) = last_mark next marks

abbrev pub HasMark : Option Device → List (Option Device) → ℕ → Image → Type 0
HasMark first marks k = Leaves (mark_at first marks k)
