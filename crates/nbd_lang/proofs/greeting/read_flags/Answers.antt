use Rattle.std.proofs.Common.{arith}
use Rattle.nbd_lang.proofs.FieldLaws.{flags_number, flags_number_below}
use Rattle.nbd_lang.proofs.greeting.read_flags.Goals as goal

pub returns-in_default-clause-none : goal.returns-in_default-clause-none
returns-in_default-clause-none c flags is =
    let below = flags_number_below flags.fixed_newstyle flags.no_zeroes in
    let number = c.u32_of.ensures.only (flags_number flags.fixed_newstyle flags.no_zeroes) (omega (arith, below)) is in
    omega (arith, below, number, c.in_default)
