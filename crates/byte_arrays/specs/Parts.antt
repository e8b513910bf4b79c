-- The parts of a range of so many bytes from an offset on, each in one block.
use Rattle.std.specs.Prelude.{◌≡◌, ◌⊎◌, ◌+◌, ◌*◌, ◌/◌, ◌<◌, ◌≤◌, ℕ}

-- behind the bytes of the range that are done come so many that lie in one block, from a place of
-- it on: they begin the range or their block, and they end the range or their block
pub record IsPart (offset n done block start count : ℕ) : Type 0 where
  pub at : 4096 * block + start ≡ offset + done
  pub inside : start + count ≤ 4096
  pub within : done + count ≤ n
  pub some : 0 < count
  pub front : (done ≡ 0) ⊎ (start ≡ 0)
  pub back : (done + count ≡ n) ⊎ (start + count ≡ 4096)

-- the bytes of the range that are done are so many parts
abbrev pub IsAtPart : ℕ → ℕ → ℕ → Type 0
IsAtPart offset done parts = ((done ≡ 0) × (parts ≡ 0)) ⊎ (offset + done ≡ 4096 * (offset / 4096 + parts))
