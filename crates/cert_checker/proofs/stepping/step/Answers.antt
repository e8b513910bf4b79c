use Rattle.std.proofs.Common.{refl}
use Rattle.std.proofs.lemmas.Option.{slice_get_read}
use Rattle.cert_checker.proofs.PickLaws.{there_are, there_is, went_nowhere, went_on}
use Rattle.cert_checker.proofs.stepping.step.Goals as goal

pub returns-then-not-stays-clause-steps : goal.returns-then-not-stays-clause-steps
returns-then-not-stays-clause-steps c = λ done is.
    let at = there_is c.args.certs.now c.args.i c.requires.inside in
    went_nowhere c.args.run.now done _ _ is (c.if-not-stays.ensures at.0 at.1)

pub returns-clause-steps : goal.returns-clause-steps
returns-clause-steps c = λ done is.
    went_on c.take.new.self done _ _ c.index-certs-i.result c.take.result
    (c.if-not-stays.ensures c.index-certs-i.result (slice_get_read c.args.certs.now _ c.args.i c.index-certs-i.result refl c.requires.inside c.index-certs-i.is))
    (c.take.ensures done is)

pub returns-clause-some : goal.returns-clause-some
returns-clause-some c failed =
    there_are c.index-certs-i.result _ _
    (c.if-not-stays.ensures c.index-certs-i.result (slice_get_read c.args.certs.now _ c.args.i c.index-certs-i.result refl c.requires.inside c.index-certs-i.is))
