use Rattle.page_digest.specs.Digest.{digest}
use Rattle.page_digest.proofs.digest_of.Goals as goal

pub returns-clause-value : goal.returns-clause-value
unfolding digest
returns-clause-value c = c.digest-digest.ensures
