use Rattle.key_graph.proofs.LaterLaws.{by_one}
use Rattle.key_graph.proofs.laws.reaches_by_one.Goals as goal

pub returns : goal.returns
returns c = by_one
