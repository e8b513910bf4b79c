use Rattle.std.proofs.Common.{◌≡◌, ◌+◌, ◌-◌, ◌∙◌, ap, take, drop, ℕ, arith}
use Rattle.byte_arrays.proofs.ArrayLaws.{part_read}
use Rattle.byte_arrays.proofs.parts.Part.bytes_of.Goals as goal

pub returns : goal.returns
returns c content is =
    let part = c.args.self.now in
    let count : part.start + part.count - part.start ≡ part.count = omega arith in
    ap (λ (n : ℕ). take n (drop part.start c.args.block.now)) count
    ∙ part_read content part.block part.start part.count c.args.block.now is c.requires part.inside
