use Rattle.key_graph.proofs.ChainLaws.{reaches_exactly as lemma}
use Rattle.key_graph.proofs.laws.reaches_exactly.Goals as goal

pub returns : goal.returns
returns c = lemma
