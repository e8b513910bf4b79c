use Rattle.page_store.proofs.FloorLaws.{reaches_still as lemma}
use Rattle.page_store.proofs.floor_laws.reaches_still.Goals as goal

pub returns : goal.returns
returns c = lemma
