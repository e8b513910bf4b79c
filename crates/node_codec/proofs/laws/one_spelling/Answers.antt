use Rattle.node_codec.specs.Laws.{one_spelled}
use Rattle.node_codec.proofs.laws.one_spelling.Goals as goal

pub returns : goal.returns
returns c = one_spelled
