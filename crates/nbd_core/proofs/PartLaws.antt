-- The parts of a range, one after another.
use Rattle.std.proofs.Common.{◌≡◌, ◌<◌, ◌+◌, ◌⊎◌, ℕ, inl, inr, length, arith}
use Rattle.std.specs.Prelude.{◌%◌}
use Rattle.byte_arrays.specs.Parts.{IsPart, IsAtPart}
use Rattle.byte_arrays.specs.Ranges.{touched_blocks}
use Rattle.byte_arrays.proofs.RangeLaws.{length-touched_blocks, part_block}

-- a part begins the range or its block
pub part_front : (offset done parts : ℕ) → IsAtPart offset done parts → (done ≡ 0) ⊎ ((offset + done) % 4096 ≡ 0)
part_front offset done parts (inl (none, first)) = inl none
part_front offset done parts (inr at) = inr (omega (arith, at))

-- there are no more parts than blocks that are touched
pub part_touched : (offset n done block start count parts : ℕ) → IsPart offset n done block start count → IsAtPart offset done parts → parts < length (touched_blocks offset n)
part_touched offset n done block start count parts part at =
    let b = part_block offset n done block start count parts part at in
    omega (arith, length-touched_blocks offset n (omega (arith, part.within, part.some)), b, part.at, part.inside, part.within, part.some)
