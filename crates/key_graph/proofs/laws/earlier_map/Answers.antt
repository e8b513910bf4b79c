use Rattle.key_graph.proofs.ChainLaws.{earlier_map as lemma}
use Rattle.key_graph.proofs.laws.earlier_map.Goals as goal

pub returns : goal.returns
returns c = lemma
