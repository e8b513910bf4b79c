-- Where the run of a chain stands, and what is concluded from it.
use Rattle.std.specs.Prelude.{◌≡◌, ◌≢◌, [], List, length, None, Result, Ok, Err, option_map}
use Rattle.root_codec.specs.declared.root.Root.{Root}
use Rattle.cert_maker.specs.Cert.{Cert}
use Rattle.cert_checker.specs.declared.run.Run.{Run}
use Rattle.cert_checker.specs.declared.verdict.Verdict.{Verdict}
use Rattle.cert_checker.specs.declared.verdict.CheckRefusal.{CheckRefusal}
use Rattle.cert_checker.specs.declared.verdict.CheckRefusal.TheVariants.{Rule, Memory}
use Rattle.cert_checker.specs.Chain.{Accepted, EachKeeps, last_or, live_after, nothing}
use Rattle.cert_checker.specs.First.{First}
use Rattle.cert_checker.specs.Held.{live_of}
use Rattle.cert_checker.specs.Kept.{KeepsParents}
use Rattle.cert_checker.specs.Settles.{last_of}
use Rattle.cert_checker.specs.Sound.{IsVerdict, deleted_addrs}

-- the run stands after these certificates, each of which keeps the rules
pub record IsAfter (run : Run) (done : List Cert) : Type 0 where
  pub keeps : EachKeeps nothing None done
  pub live : live_of run.live.entries ≡ live_after done
  pub parents : KeepsParents (live_after done) run.live.parents
  pub numbers : run.last ≡ option_map last_of (last_or None done)
  pub deleted : run.deleted ≡ length (deleted_addrs done)

-- after some certificates
abbrev pub IsAfterSome : Run → Type 0
IsAfterSome run = (done : List Cert) × IsAfter run done

-- the chain is accepted, with what is said of it; or refused by the first broken rule. Memory is wanted only where there is a certificate
abbrev pub Concludes : List Cert → Root → Result Verdict CheckRefusal → Type 0
Concludes chain root (Ok verdict) = Accepted chain root × IsVerdict chain root verdict.commit verdict.live verdict.deleted
Concludes chain root (Err (Rule number value)) = First chain root number value
Concludes chain root (Err Memory) = chain ≢ []
