-- Refusals by a rule.
use Rattle.std.specs.Prelude.{ℕ, Option, None, Some, Result, Ok, Err}
use Rattle.cert_checker.specs.declared.verdict.CheckRefusal.{CheckRefusal}
use Rattle.cert_checker.specs.declared.verdict.CheckRefusal.TheVariants.{Rule}

-- refused by this rule where there is a value
abbrev pub refused_by : ℕ → Option ℕ → Result (Unit {0}) CheckRefusal
refused_by number None = Ok tt
refused_by number (Some value) = Err (Rule number value)
