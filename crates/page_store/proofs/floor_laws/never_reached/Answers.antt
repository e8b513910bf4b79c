use Rattle.page_store.proofs.FloorLaws.{never_reached as lemma}
use Rattle.page_store.proofs.floor_laws.never_reached.Goals as goal

pub returns : goal.returns
returns c = lemma
