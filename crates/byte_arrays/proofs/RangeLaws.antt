-- The blocks of a range, and those of its parts.
use Rattle.std.proofs.Common.{◌≡◌, ◌+◌, ◌-◌, ◌*◌, ◌<◌, ◌≤◌, ℕ, zero, suc, [], ◌∷◌, ◌++◌, length, get_or, refl, sym, ap, ◌∙◌, arith, inl, inr}
use Rattle.std.specs.Prelude.{◌↔◌, ◌/◌, Contains}
use Rattle.std.proofs.lemmas.Bool.{cases_lt}
use Rattle.byte_arrays.specs.Ranges.{IsTouched, IsCovered, blocks_from, touched_blocks, covered_blocks}
use Rattle.byte_arrays.specs.Parts.{IsPart, IsAtPart}

-- ---- so many blocks from one on

pub length-blocks_from : (first n : ℕ) → length (blocks_from first n) ≡ n
length-blocks_from first zero = refl
length-blocks_from first (suc n) = ap suc (length-blocks_from (first + 1) n)

-- one more
pub blocks_from-more : (first n : ℕ) → blocks_from first (n + 1) ≡ blocks_from first n ++ (first + n) ∷ []
blocks_from-more first zero =
    let e : first ≡ first + 0 = omega arith in
    ap (λ (b : ℕ). b ∷ []) e
blocks_from-more first (suc n) =
    let e : (first + 1) + n ≡ first + suc n = omega arith in
    let s : suc n + 1 ≡ suc (n + 1) = omega arith in
    rw s (ap (λ bs. first ∷ bs) (blocks_from-more (first + 1) n ∙ ap (λ (b : ℕ). blocks_from (first + 1) n ++ b ∷ []) e))

pub get_or-blocks_from : (first n k d : ℕ) → k < n → get_or (blocks_from first n) k d ≡ first + k
get_or-blocks_from first zero k d below = absurd (omega (arith, below))
get_or-blocks_from first (suc n) zero d below = omega arith
get_or-blocks_from first (suc n) (suc k) d below = get_or-blocks_from (first + 1) n k d (omega (arith, below)) ∙ omega arith

pub in_blocks_from : (first n block : ℕ) → first ≤ block → block < first + n → Contains (blocks_from first n) block
in_blocks_from first n block from below =
    let k : ℕ = block - first in
    let inside : k < n = omega (arith, from, below) in
    (k, omega (arith, inside, length-blocks_from first n), get_or-blocks_from first n k block inside ∙ omega (arith, from))

pub of_blocks_from : (first n block : ℕ) → Contains (blocks_from first n) block → (first ≤ block) × (block < first + n)
of_blocks_from first n block (k, below, is) =
    let inside : k < n = omega (arith, below, length-blocks_from first n) in
    let at : first + k ≡ block = sym (get_or-blocks_from first n k block inside) ∙ is in
    (omega (arith, at), omega (arith, at, inside))

-- ---- touched

pub touched_is : (offset n block : ℕ) → IsTouched offset n block → (offset / 4096 ≤ block) × (block ≤ (offset + n - 1) / 4096) × (0 < n)
touched_is offset n block (place, is, from, below) = (omega (arith, is, from), omega (arith, is, from, below), omega (arith, from, below))

pub is_touched : (offset n block : ℕ) → 0 < n → offset / 4096 ≤ block → block ≤ (offset + n - 1) / 4096 → IsTouched offset n block
is_touched offset n block some from last = elim (cases_lt (4096 * block) offset) [
  | inl before ↦ (offset, omega (arith, before, from), omega arith, omega (arith, some))
  | inr behind ↦ (4096 * block, omega arith, behind, omega (arith, last, some))
]

pub touched_contains : (offset n block : ℕ) → Contains (touched_blocks offset n) block ↔ IsTouched offset n block
touched_contains offset zero block = (
  (λ (k, below, is). absurd (omega (arith, below))),
  (λ touched. absurd (omega (arith, (touched_is offset 0 block touched).2))),
)
touched_contains offset (suc n) block =
    let count : ℕ = (offset + n) / 4096 - offset / 4096 + 1 in (
      (λ inside. let at = of_blocks_from (offset / 4096) count block inside in is_touched offset (suc n) block (omega arith) at.0 (omega (arith, at.0, at.1))),
      (λ touched. let at = touched_is offset (suc n) block touched in in_blocks_from (offset / 4096) count block at.0 (omega (arith, at.0, at.1))),
    )

-- ---- covered

pub covered_is : (offset n block : ℕ) → IsCovered offset n block → ((offset + 4095) / 4096 ≤ block) × (block < (offset + n) / 4096)
covered_is offset n block covered =
    let first = covered (4096 * block) (omega arith) in
    let last = covered (4096 * block + 4095) (omega arith) in
    (omega (arith, first.0), omega (arith, last.1))

pub is_covered : (offset n block : ℕ) → (offset + 4095) / 4096 ≤ block → block < (offset + n) / 4096 → IsCovered offset n block
is_covered offset n block from below place is = (omega (arith, from, is), omega (arith, below, is))

pub covered_contains : (offset n block : ℕ) → Contains (covered_blocks offset n) block ↔ IsCovered offset n block
covered_contains offset n block =
    let first : ℕ = (offset + 4095) / 4096 in
    let count : ℕ = (offset + n) / 4096 - first in (
      (λ inside. let at = of_blocks_from first count block inside in is_covered offset n block at.0 (omega (arith, at.0, at.1))),
      (λ covered. let at = covered_is offset n block covered in in_blocks_from first count block at.0 (omega (arith, at.0, at.1))),
    )

-- ---- the blocks of the parts of a range, in their order

pub part_block : (offset n done block start count parts : ℕ) → IsPart offset n done block start count → IsAtPart offset done parts → block ≡ offset / 4096 + parts
part_block offset n done block start count parts part (inl (none, first)) = omega (arith, part.at, part.inside, part.some, none, first)
part_block offset n done block start count parts part (inr at) = omega (arith, part.at, part.inside, part.some, at)

pub part_next : (offset n done block start count parts : ℕ) → IsPart offset n done block start count → IsAtPart offset done parts → done + count < n → IsAtPart offset (done + count) (parts + 1)
part_next offset n done block start count parts part at more =
    let b = part_block offset n done block start count parts part at in
    elim part.back [
      | inl last ↦ absurd (omega (arith, last, more))
      | inr full ↦ inr (omega (arith, part.at, full, b))
    ]

pub length-touched_blocks : (offset n : ℕ) → 0 < n → length (touched_blocks offset n) ≡ (offset + n - 1) / 4096 - offset / 4096 + 1
length-touched_blocks offset zero some = absurd (omega (arith, some))
length-touched_blocks offset (suc n) some = length-blocks_from (offset / 4096) ((offset + n) / 4096 - offset / 4096 + 1) ∙ omega arith

pub part_last : (offset n done block start count parts : ℕ) → IsPart offset n done block start count → IsAtPart offset done parts → done + count ≡ n → length (touched_blocks offset n) ≡ parts + 1
part_last offset n done block start count parts part at last =
    let b = part_block offset n done block start count parts part at in
    length-touched_blocks offset n (omega (arith, part.some, last)) ∙ omega (arith, part.at, part.inside, part.some, b, last)
