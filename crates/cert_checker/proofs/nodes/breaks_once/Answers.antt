use Rattle.std.proofs.Common.{ℕ, Option, ap, ◌∙◌}
use Rattle.std.proofs.lemmas.Result.{IfOk-weaker}
use Rattle.cert_checker.specs.Held.{traced_all}
use Rattle.cert_checker.specs.Looks.{FirstAmong, FirstAgain}
use Rattle.cert_checker.specs.Rules.{TakesOnce}
use Rattle.cert_checker.specs.First.{BreaksOnce}
use Rattle.cert_checker.specs.Settles.{Tells}
use Rattle.cert_checker.proofs.NodeLaws.{tells_once}
use Rattle.cert_checker.proofs.nodes.breaks_once.Goals as goal

pub returns-clause-once : goal.returns-clause-once
returns-clause-once c =
    IfOk-weaker c.take_all_of.result (λ (answer : Option ℕ). FirstAmong (FirstAgain c.deref.result.now) c.deref.result.now answer) (Tells (TakesOnce c.args.cert.now) (BreaksOnce c.args.cert.now))
    (λ answer first. tells_once c.args.cert.now c.deref.result.now answer (ap traced_all c.deref.ensures.value ∙ c.requires.of.added) c.requires.fresh first)
    c.take_all_of.ensures.first
