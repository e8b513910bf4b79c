use Rattle.page_store.proofs.StandsLaws.{one_device as lemma}
use Rattle.page_store.proofs.laws.one_device.Goals as goal

pub returns : goal.returns
returns c = lemma
