-- How a run goes through the certificates of a ledger.
use Rattle.std.specs.Prelude.{◌≡◌, ◌≢◌, [], List, ◌++◌, None, Result, Ok, Err}
use Rattle.cert_maker.specs.Cert.{Cert}
use Rattle.cert_checker.specs.declared.run.Run.{Run}
use Rattle.cert_checker.specs.declared.verdict.CheckRefusal.{CheckRefusal}
use Rattle.cert_checker.specs.declared.verdict.CheckRefusal.TheVariants.{Rule, Memory}
use Rattle.cert_checker.specs.Chain.{nothing}
use Rattle.cert_checker.specs.First.{FirstBroken}
use Rattle.cert_checker.specs.Running.{IsAfter}

-- the run went on by the certificates that these have more than those that are left
pub record WentOn (run : Run) (done before left : List Cert) : Type 0 where
  pub more : List Cert
  pub after : IsAfter run (done ++ more)
  pub rest : before ≡ more ++ left

-- the run stands after the whole chain; or the chain breaks a rule of its certificates, this one first; and memory is wanted only
-- where there is a certificate
abbrev pub RunsAll : List Cert → Result Run CheckRefusal → Type 0
RunsAll chain (Ok run) = IsAfter run chain
RunsAll chain (Err (Rule number value)) = FirstBroken nothing None chain number value
RunsAll chain (Err Memory) = chain ≢ []
