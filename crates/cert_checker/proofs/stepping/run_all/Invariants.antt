use Rattle.std.proofs.Common.{◌≡◌, List, ◌++◌, drop}
use Rattle.cert_maker.specs.Cert.{Cert}
use Rattle.cert_checker.specs.Chain.{chain_of, picks}
use Rattle.cert_checker.specs.Running.{IsAfter}
use Rattle.cert_checker.proofs.stepping.run_all.Given as goal

abbrev pub invariant-loop-i : goal.invariant-loop-i
invariant-loop-i l = (done : List Cert) × IsAfter l.run done × (done ++ picks l.number (drop l.i l.certs) ≡ chain_of l.certs l.number)
