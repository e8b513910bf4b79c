use Rattle.std.proofs.Common.{◌*◌, ◌+◌, arith, ◌∙◌}
use Rattle.hex.proofs.HexLemmas.{decode_of-even}
use Rattle.hex.proofs.Pairs.{decode_done, decode_start, decode_step}
use Rattle.hex_digits.proofs.decoding.fill.Goals as goal

pub bytes-init : goal.bytes-init
bytes-init c = decode_start c.args.digits.now c.args.bytes.now

pub byte_of-requires-clause-high_is_digit : goal.byte_of-requires-clause-high_is_digit
byte_of-requires-clause-high_is_digit c = c.requires.valid (2 * c.bytes.i) 0 (omega arith)

pub byte_of-requires-clause-low_is_digit : goal.byte_of-requires-clause-low_is_digit
byte_of-requires-clause-low_is_digit c = c.requires.valid (2 * c.bytes.i + 1) 0 (omega arith)

pub bytes-preserved : goal.bytes-preserved
bytes-preserved c =
    decode_step _ _ c.bytes.i _ (omega arith) (omega arith) (c.byte_of.ensures (2 * c.bytes.i)) c.bytes.invariant

pub returns : goal.returns
returns c =
    decode_of-even c.args.digits.now (omega arith) ∙ decode_done _ c.bytes.bytes c.bytes.i (omega arith) (omega arith) c.bytes.invariant
