use Rattle.key_graph.proofs.LaterLaws.{no_more}
use Rattle.key_graph.proofs.laws.reaches_no_more.Goals as goal

pub returns : goal.returns
returns c = no_more
