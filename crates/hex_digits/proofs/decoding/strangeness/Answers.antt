use Rattle.std.proofs.Common.{arith}
use Rattle.hex_digits.proofs.Digits.{letter_below_ten, number_below_ten}
use Rattle.hex_digits.proofs.decoding.strangeness.Goals as goal

pub returns-then-number-letter : goal.returns-then-number-letter
returns-then-number-letter c =
    number_below_ten c.args.digit c.saturating_add-letter.result (omega arith) c.saturating_add-letter.ensures c.if-number-letter.true

pub returns-else-number-letter : goal.returns-else-number-letter
returns-else-number-letter c =
    letter_below_ten c.args.digit c.saturating_add-letter.result (omega arith) c.saturating_add-letter.ensures c.if-number-letter.false
