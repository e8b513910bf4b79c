-- What a refusal of the checker is, of a ledger that came from an input.
use Rattle.cert_checker.specs.declared.verdict.CheckRefusal.{CheckRefusal}
use Rattle.cert_checker.specs.declared.verdict.CheckRefusal.TheVariants as checks
use Rattle.ledger_check.specs.declared.refusals.JudgeRefusal.{JudgeRefusal}
use Rattle.ledger_check.specs.declared.refusals.JudgeRefusal.TheVariants as judges

abbrev pub refused_as : CheckRefusal → JudgeRefusal
refused_as (checks.Rule number value) = judges.Rule number value
refused_as checks.Memory = judges.Memory
