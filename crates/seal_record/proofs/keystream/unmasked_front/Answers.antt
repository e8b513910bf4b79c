use Rattle.std.proofs.Common.{take, bit_xor, ap, ◌∙◌}
use Rattle.std.specs.Simd.Lanes.{zip2}
use Rattle.seal_record.proofs.SealingLaws.{front_of_masked}
use Rattle.seal_record.proofs.keystream.unmasked_front.Goals as goal

pub returns : goal.returns
returns c =
    c.xor_into.ensures
    ∙ ap (zip2 bit_xor (take 16 c.args.page.now)) c.fill_with_stream.ensures
    ∙ front_of_masked 16 c.args.key.now c.args.page.now
