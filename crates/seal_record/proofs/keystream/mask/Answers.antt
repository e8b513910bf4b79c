use Rattle.std.proofs.Common.{ℕ, take, bit_xor, ap, ◌∙◌}
use Rattle.std.specs.Simd.Lanes.{zip2}
use Rattle.seal_record.specs.Keystream.{stream}
use Rattle.seal_record.proofs.SealingLaws.{whole_stream}
use Rattle.seal_record.proofs.keystream.mask.Goals as goal

pub returns : goal.returns
returns c =
    c.xor_into.ensures
    ∙ ap (zip2 bit_xor c.args.bytes.now)
    (c.fill_with_stream.ensures
    ∙ ap (λ (n : ℕ). take n (stream c.args.key.now)) c.requires.out
    ∙ whole_stream c.args.key.now)
