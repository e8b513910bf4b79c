use Rattle.std.proofs.Common.{arith, ap, sym, length}
use Rattle.std.proofs.lemmas.Fmt.{decimal_digit}
use Rattle.script_lang.proofs.Numbers.{length-decimal}
use Rattle.script_lang.proofs.line_buffer.count_digits.Goals as goal

pub returns-in-Some : goal.returns-in-Some
returns-in-Some c = omega (arith, length-decimal c.in-Some.power c.args.number c.in-Some.ensures.power_le c.in-Some.ensures.next_power_gt (omega arith))

pub returns-in-None : goal.returns-in-None
returns-in-None c = sym (ap length (decimal_digit c.args.number (omega (arith, c.in-None.ensures.none))))
