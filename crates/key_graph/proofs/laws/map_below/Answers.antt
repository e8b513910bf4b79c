use Rattle.key_graph.proofs.ChainLaws.{map_below as lemma}
use Rattle.key_graph.proofs.laws.map_below.Goals as goal

pub returns : goal.returns
returns c = lemma
