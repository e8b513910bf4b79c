use Rattle.nbd_terms.proofs.WritingLaws.{trim_more}
use Rattle.nbd_terms.proofs.laws.trims_follow.Goals as goal

pub returns : goal.returns
returns c = trim_more
