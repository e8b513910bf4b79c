use Rattle.device_terms.proofs.MomentLaws.{not_published, still, swapped}
use Rattle.device_session.proofs.committing.publish.Goals as goal

pub returns-in_default-clause-time : goal.returns-in_default-clause-time
returns-in_default-clause-time g c = λ told. not_published _ _ _ (still (g.P.Platform.history c.args.platform.now))

pub returns-in_err-finish-clause-time : goal.returns-in_err-finish-clause-time
returns-in_err-finish-clause-time g c = λ told. swapped _ _ _ (c.finish.ensures.time told) (c.finish.ensures.either told)

pub returns-clause-time : goal.returns-clause-time
returns-clause-time g c = λ told. swapped _ _ _ (c.finish.ensures.time told) (c.finish.ensures.either told)
