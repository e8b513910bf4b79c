use Rattle.std.proofs.Common.{arith}
use Rattle.std.proofs.lemmas.Nat.{and_le_r}
use Rattle.hex_digits.proofs.Digits.{digits_at_once-first, digits_at_once-second}
use Rattle.hex_digits.proofs.encoding.digits_of.Goals as goal

pub overflow_mul-result : goal.overflow_mul-result
overflow_mul-result c = omega (arith, and_le_r)

pub overflow_add-result : goal.overflow_add-result
overflow_add-result c = omega (arith, and_le_r)

pub returns-clause-first : goal.returns-clause-first
returns-clause-first c = digits_at_once-first c.args.byte (omega arith)

pub returns-clause-second : goal.returns-clause-second
returns-clause-second c = digits_at_once-second c.args.byte (omega arith)
