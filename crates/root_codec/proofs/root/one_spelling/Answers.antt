use Rattle.root_codec.specs.Laws.{one_root}
use Rattle.root_codec.proofs.root.one_spelling.Goals as goal

pub returns : goal.returns
returns c = one_root
