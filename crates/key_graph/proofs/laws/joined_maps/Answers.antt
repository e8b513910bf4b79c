use Rattle.key_graph.proofs.ChainLaws.{joined_maps as lemma}
use Rattle.key_graph.proofs.laws.joined_maps.Goals as goal

pub returns : goal.returns
returns c = lemma
