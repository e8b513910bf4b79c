use Rattle.page_store.proofs.FloorLaws.{head_is}
use Rattle.page_store.proofs.floor_laws.head_of_root.Goals as goal

pub returns : goal.returns
returns c = head_is
