use Rattle.std.proofs.Common.{Ok, ap, sym, ◌∙◌}
use Rattle.hex_digits.proofs.Digits.{byte_at_once, code_value-small, is_hex_digit-small, pair_value-by_code, values_at_once}
use Rattle.hex_digits.proofs.decoding.byte_of.Goals as goal

pub returns : goal.returns
returns c =
    let h = is_hex_digit-small c.args.high c.requires.high_is_digit in
    let l = is_hex_digit-small c.args.low c.requires.low_is_digit in
    let x = code_value-small c.args.high c.requires.high_is_digit in
    let y = code_value-small c.args.low c.requires.low_is_digit in
    λ i. pair_value-by_code c.args.high c.args.low i c.requires.high_is_digit c.requires.low_is_digit
    ∙ sym (ap Ok (rw (values_at_once c.args.high c.args.low h l) (byte_at_once _ _ x y)))
