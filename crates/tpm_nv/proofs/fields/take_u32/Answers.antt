use Rattle.std.proofs.Common.{rules}
use Rattle.std.specs.Int.{w32, to_be_bytes}
use Rattle.tpm_nv.proofs.FieldLaws.{joined}
use Rattle.tpm_nv.proofs.fields.take_u32.Goals as goal

pub returns-clause-found : goal.returns-clause-found
returns-clause-found c =
    (search rules, joined _ _ _ (to_be_bytes w32 c.u32_of.result) 4 c.in_ok-field.ensures.cases.1 c.in_ok-field.ensures.cases.2 c.u32_of.ensures.spelled)
