use Rattle.page_store.proofs.KeptLaws.{moments_reach as lemma}
use Rattle.page_store.proofs.key_laws.moments_reach.Goals as goal

pub returns : goal.returns
returns c = lemma
