use Rattle.page_digest.specs.Digest.{length-digest}
use Rattle.page_digest.proofs.one_size.Goals as goal

pub returns : goal.returns
returns c = length-digest
