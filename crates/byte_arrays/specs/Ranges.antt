-- The blocks of 4,096 bytes of a range of so many bytes from an offset on.
use Rattle.std.specs.Prelude.{◌≡◌, ◌+◌, ◌-◌, ◌/◌, ◌<◌, ◌≤◌, ℕ, zero, suc, List, [], ◌∷◌}

-- some byte of the block is in the range
abbrev pub IsTouched : ℕ → ℕ → ℕ → Type 0
IsTouched offset n block = (place : ℕ) × (place / 4096 ≡ block) × (offset ≤ place) × (place < offset + n)

-- each byte of the block is in the range
abbrev pub IsCovered : ℕ → ℕ → ℕ → Type 0
IsCovered offset n block = (place : ℕ) → place / 4096 ≡ block → (offset ≤ place) × (place < offset + n)

-- so many blocks from one on
abbrev pub blocks_from : ℕ → ℕ → List ℕ
blocks_from first zero = []
blocks_from first (suc n) = first ∷ blocks_from (first + 1) n

-- the blocks that the range touches: from that of its first byte to that of its last
abbrev pub touched_blocks : ℕ → ℕ → List ℕ
touched_blocks offset zero = []
touched_blocks offset (suc n) = blocks_from (offset / 4096) ((offset + n) / 4096 - offset / 4096 + 1)

-- the blocks that the range covers
abbrev pub covered_blocks : ℕ → ℕ → List ℕ
covered_blocks offset n = blocks_from ((offset + 4095) / 4096) ((offset + n) / 4096 - (offset + 4095) / 4096)
