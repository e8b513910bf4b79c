-- What the checker concludes.
use Rattle.std.specs.Prelude.{◌≢◌, [], List}
use Rattle.root_codec.specs.declared.root.Root.{Root}
use Rattle.cert_maker.specs.Cert.{Cert}
use Rattle.cert_checker.specs.declared.verdict.Verdict.{Verdict}
use Rattle.cert_checker.specs.declared.verdict.CheckRefusal.{CheckRefusal}
use Rattle.cert_checker.specs.declared.verdict.CheckRefusal.TheVariants.{Rule, Memory}
use Rattle.cert_checker.specs.First.{First}
use Rattle.cert_checker.specs.Sound.{IsVerdict}

-- the verdict says what is so of an accepted chain
abbrev pub IsVerdictOn : List Cert → Root → Verdict → Type 0
IsVerdictOn chain root verdict = IsVerdict chain root verdict.commit verdict.live verdict.deleted

-- a refusal by a rule names the first one that is broken, with its value; memory is wanted only where there is a certificate
abbrev pub IsCause : List Cert → Root → CheckRefusal → Type 0
IsCause chain root (Rule number value) = First chain root number value
IsCause chain root Memory = chain ≢ []
